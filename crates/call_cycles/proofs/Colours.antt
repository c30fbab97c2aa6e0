-- Colours as they are set.
use Rattle.std.proofs.Common.{◌≡◌, ◌<◌, ◌≤◌, ◌+◌, ℕ, zero, suc, List, [], ◌∷◌, Bool, true, false, length, get_or, set, refl, sym, ◌∙◌, ap, subst, arith, get_or-set_other, get_or-set_same, eqb, ltb, inl, inr, ◌⊎◌}
use Rattle.std.proofs.Math.ListN.{length-set}
use Rattle.std.proofs.lemmas.List.{get_or_past}
use Rattle.std.proofs.lemmas.Bool.Decides.{Decides-eqb, Decides-ltb, not_from_Decides}
use Rattle.call_cycles.specs.declared.state.Colour.{Colour}
use Rattle.call_cycles.specs.declared.state.Colour.TheVariants.{Unvisited, Open, Closed}
use Rattle.call_cycles.specs.inner.Colours.{colour, is_new, new_at, Seen, unvisited_one, unvisited, close}
use Rattle.call_cycles.proofs.Cases.{by_test}

pub seen-lower : (m low : ℕ) (c : Colour) → m ≤ low → Seen low c → Seen m c
seen-lower m low Unvisited h s = s
seen-lower m low (Open i) h s = omega arith
seen-lower m low Closed h s = tt

pub seen-visited : (low : ℕ) (c : Colour) → Seen low c → is_new c ≡ false
seen-visited low Unvisited s = absurd s
seen-visited low (Open i) s = refl
seen-visited low Closed s = refl

pub new-unvisited : (c : Colour) → is_new c ≡ true → unvisited_one c ≡ 1
new-unvisited Unvisited h = refl
new-unvisited (Open i) h = absurd (cc)
new-unvisited Closed h = absurd (cc)

pub colour-here : (cs : List Colour) (f : ℕ) (c : Colour) → f < length cs → colour (set cs f c) f ≡ c
colour-here cs f c h = get_or-set_same cs f c Unvisited h

pub colour-other : (cs : List Colour) (f x : ℕ) (c : Colour) → (x ≡ f → ⊥) → colour (set cs f c) x ≡ colour cs x
colour-other cs f x c ne = get_or-set_other cs f x c Unvisited ne

-- a case on whether two functions are the same
pub by_same : {P : Type 0} (x f : ℕ) → (x ≡ f → P) → ((x ≡ f → ⊥) → P) → P
by_same x f on off = by_test (eqb x f) (λ e. on ((Decides-eqb x f).0 e)) (λ e. off (not_from_Decides (eqb x f) (Decides-eqb x f) e))

pub by_below : {P : Type 0} (x n : ℕ) → (x < n → P) → (n ≤ x → P) → P
by_below x n on off =
    by_test (ltb x n) (λ e. on ((Decides-ltb x n).0 e))
    (λ e. let out : x < n → ⊥ = not_from_Decides (ltb x n) (Decides-ltb x n) e in off (omega (arith, out)))

-- a function with a colour of a visited one is in the list
pub in_list : (cs : List Colour) (x : ℕ) → new_at cs x ≡ false → x < length cs
in_list cs x v = by_below x (length cs) (λ h. h) (λ h. let past : is_new (colour cs x) ≡ true = ap is_new (get_or_past cs x Unvisited h) in absurd (cc))

pub unvisited-set : (cs : List Colour) (f : ℕ) (c : Colour) → f < length cs → unvisited (set cs f c) + unvisited_one (colour cs f) ≡ unvisited cs + unvisited_one c
unvisited-set [] f c h = absurd (omega arith)
unvisited-set (x ∷ cs) zero c h = omega arith
unvisited-set (x ∷ cs) (suc f) c h = omega (arith, unvisited-set cs f c (let lt : f < length cs = omega arith in lt))

unvisited-set_closed : (cs : List Colour) (f : ℕ) → unvisited (set cs f Closed) ≤ unvisited cs
unvisited-set_closed [] f = omega arith
unvisited-set_closed (x ∷ cs) zero = omega arith
unvisited-set_closed (x ∷ cs) (suc f) = omega (arith, unvisited-set_closed cs f)

pub unvisited-close : (fs : List ℕ) (cs : List Colour) → unvisited (close fs cs) ≤ unvisited cs
unvisited-close [] cs = omega arith
unvisited-close (f ∷ fs) cs = omega (arith, unvisited-close fs (set cs f Closed), unvisited-set_closed cs f)

pub length-close : (fs : List ℕ) (cs : List Colour) → length (close fs cs) ≡ length cs
length-close [] cs = refl
length-close (f ∷ fs) cs = length-close fs (set cs f Closed) ∙ length-set cs f Closed

at_most_one : (c : Colour) → unvisited_one c ≤ 1
at_most_one Unvisited = omega arith
at_most_one (Open i) = omega arith
at_most_one Closed = omega arith

pub unvisited-most : (cs : List Colour) → unvisited cs ≤ length cs
unvisited-most [] = omega arith
unvisited-most (c ∷ cs) = omega (arith, at_most_one c, unvisited-most cs)

-- a colour where the open places from at on are closed
abbrev closed_unless : Bool → ℕ → Colour
closed_unless true i = Open i
closed_unless false i = Closed

abbrev pub closed_from : ℕ → Colour → Colour
closed_from at Unvisited = Unvisited
closed_from at (Open i) = closed_unless (ltb i at) i
closed_from at Closed = Closed

below_stays : (at i : ℕ) → i < at → closed_from at (Open i) ≡ Open i
below_stays at i h = ap (λ (b : Bool). closed_unless b i) ((Decides-ltb i at).1 h)

above_closes : (at i : ℕ) → at ≤ i → closed_from at (Open i) ≡ Closed
above_closes at i h = by_test (ltb i at) (λ e. let below : i < at = (Decides-ltb i at).0 e in absurd (omega arith)) (λ e. ap (λ (b : Bool). closed_unless b i) e)

pub closed_from-open : (at i : ℕ) (c : Colour) → c ≡ Open i → at ≤ i → closed_from at c ≡ Closed
closed_from-open at i c e h = ap (closed_from at) e ∙ above_closes at i h

-- without an open place from at on it stays
pub closed_from-stays : (at : ℕ) (c : Colour) → ((i : ℕ) → c ≡ Open i → i < at) → closed_from at c ≡ c
closed_from-stays at Unvisited h = refl
closed_from-stays at (Open i) h = below_stays at i (h i refl)
closed_from-stays at Closed h = refl

pub closed_from-next : (at : ℕ) (c : Colour) → (c ≡ Open at → ⊥) → closed_from (at + 1) c ≡ closed_from at c
closed_from-next at Unvisited h = refl
closed_from-next at (Open i) h =
    by_below i at (λ l. below_stays (at + 1) i (omega arith) ∙ sym (below_stays at i l))
    (λ l. by_same i at (λ e. absurd (h (ap (λ (k : ℕ). Open k) e)))
    (λ ne. above_closes (at + 1) i (omega arith) ∙ sym (above_closes at i l)))
closed_from-next at Closed h = refl

pub open_after : (at i : ℕ) (c : Colour) → closed_from at c ≡ Open i → (c ≡ Open i) × (i < at)
open_after at i Unvisited e = absurd (cc)
open_after at i (Open k) e =
    by_below k at (λ l. let same : Open k ≡ Open i = sym (below_stays at k l) ∙ e in let number : k ≡ i = cc in (same, omega arith))
    (λ l. let closes = above_closes at k l in absurd (cc))
open_after at i Closed e = absurd (cc)

pub closed_after : (at : ℕ) (c : Colour) → closed_from at c ≡ Closed → (c ≡ Closed) ⊎ ((i : ℕ) × (c ≡ Open i) × (at ≤ i))
closed_after at Unvisited e = absurd (cc)
closed_after at (Open k) e = by_below k at (λ l. let stays = below_stays at k l in absurd (cc)) (λ l. inr (k, refl, l))
closed_after at Closed e = inl refl

pub new_after : (at : ℕ) (c : Colour) → is_new (closed_from at c) ≡ is_new c
new_after at Unvisited = refl
new_after at (Open k) = by_below k at (λ l. ap is_new (below_stays at k l)) (λ l. ap is_new (above_closes at k l))
new_after at Closed = refl

pub seen-after : (low at : ℕ) (c : Colour) → Seen low c → Seen low (closed_from at c)
seen-after low at Unvisited s = s
seen-after low at (Open k) s = by_below k at (λ l. subst (λ (c : Colour). Seen low c) (sym (below_stays at k l)) s) (λ l. subst (λ (c : Colour). Seen low c) (sym (above_closes at k l)) tt)
seen-after low at Closed s = s

pub seen-closes : (low at : ℕ) (c : Colour) → at ≤ low → Seen low c → closed_from at c ≡ Closed
seen-closes low at Unvisited h s = absurd s
seen-closes low at (Open k) h s = above_closes at k (omega arith)
seen-closes low at Closed h s = refl

abbrev Place : List ℕ → ℕ → ℕ → ℕ → Type 0
Place fs at x i = (j : ℕ) × (j < length fs) × (get_or fs j 0 ≡ x) × (at + j ≡ i)

later : (f : ℕ) (fs : List ℕ) (at x i : ℕ) → at + 1 ≤ i → Place (f ∷ fs) at x i → Place fs (at + 1) x i
later f fs at x i h (zero, p, q, r) = absurd (omega arith)
later f fs at x i h (suc j, p, q, r) = (j, omega arith, q, omega arith)

first_place : (f : ℕ) (fs : List ℕ) (at x : ℕ) → Place (f ∷ fs) at x at → x ≡ f
first_place f fs at x (zero, p, q, r) = sym q
first_place f fs at x (suc j, p, q, r) = absurd (omega arith)

-- closing the functions that are open from at on
pub close-colour : (fs : List ℕ) (cs : List Colour) (at : ℕ) → ((j : ℕ) → j < length fs → colour cs (get_or fs j 0) ≡ Open (at + j)) → ((x i : ℕ) → colour cs x ≡ Open i → at ≤ i → Place fs at x i) → (x : ℕ) → colour (close fs cs) x ≡ closed_from at (colour cs x)
close-colour [] cs at stands places x = sym (closed_from-stays at (colour cs x) (λ i e. by_below i at (λ l. l) (λ l. let p = places x i e l in absurd (let q = p.1 in omega arith))))
close-colour (f ∷ fs) cs at stands places x =
    let zero_on : at + 0 ≡ at = omega arith in
    let first : colour cs f ≡ Open at = stands 0 (omega arith) ∙ ap (λ (k : ℕ). Open k) zero_on in
    let inside : f < length cs = in_list cs f (ap is_new first) in
    let here = colour-here cs f Closed inside in
    let rest = close-colour fs (set cs f Closed) (at + 1)
    (λ j h.
    let was : colour cs (get_or fs j 0) ≡ Open (at + suc j) = stands (suc j) (omega arith) in
    let on : at + suc j ≡ at + 1 + j = omega arith in
    colour-other cs f (get_or fs j 0) Closed (λ same. let e : Open (at + suc j) ≡ Open at = sym was ∙ ap (colour cs) same ∙ first in let n : at + suc j ≡ at = cc in absurd (omega arith)) ∙ was ∙ ap (λ (k : ℕ). Open k) on)
    (λ y i e h. by_same y f (λ same. let c : colour (set cs f Closed) y ≡ Closed = ap (colour (set cs f Closed)) same ∙ here in absurd (cc))
    (λ ne. later f fs at y i h (places y i (sym (colour-other cs f y Closed ne) ∙ e) (omega arith)))) x in
    by_same x f
    (λ same. rest ∙ ap (λ (y : ℕ). closed_from (at + 1) (colour (set cs f Closed) y)) same ∙ ap (closed_from (at + 1)) here ∙ sym (closed_from-open at at (colour cs x) (ap (colour cs) same ∙ first) (omega arith)))
    (λ ne. rest ∙ ap (closed_from (at + 1)) (colour-other cs f x Closed ne) ∙ closed_from-next at (colour cs x) (λ e. ne (first_place f fs at x (places x at e (omega arith)))))
