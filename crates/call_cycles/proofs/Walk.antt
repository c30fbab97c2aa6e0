-- A walk of strongly connected components: how its steps join, and why a function is on a cycle exactly if the walk
-- from it reaches its place or a lower one.
use Rattle.std.proofs.Common.{◌≡◌, ◌<◌, ◌≤◌, ◌+◌, ◌-◌, ◌++◌, ℕ, zero, suc, List, [], ◌∷◌, Bool, true, false, length, get_or, set, take, drop, min, refl, sym, ◌∙◌, ap, subst, inl, inr, ◌⊎◌, arith, below_more, ltb}
use Rattle.std.proofs.lemmas.List.{length-set, length-take, length-drop, get_or-take, get_or-drop, get_or_append_left, get_or_push, length_push, get_or_read}
use Rattle.std.proofs.lemmas.Bool.Decides.{Decides-ltb, not_from_Decides}
use Rattle.call_cycles.specs.declared.state.Colour.{Colour}
use Rattle.call_cycles.specs.declared.state.Colour.TheVariants.{Unvisited, Open, Closed}
use Rattle.call_cycles.specs.Calls.{Graph, callees, Calls, LeadsBy, Leads}
use Rattle.call_cycles.specs.inner.Colours.{colour, is_new, new_at, Seen, unvisited, close}
use Rattle.call_cycles.specs.inner.Walk.{LeadsOrIs, EachLeads, EachLeadsOrIs, Good, Walked, SoFar, left_stack, left_colours}
use Rattle.call_cycles.proofs.Cases.{by_test}
use Rattle.call_cycles.proofs.Paths.{call_leads, leads_leads, is_leads, leads_is}
use Rattle.call_cycles.proofs.Colours.{seen-lower, seen-visited, new-unvisited, colour-here, colour-other, by_same, by_below, unvisited-set, unvisited-close, length-close, closed_from, closed_from-open, closed_from-stays, open_after, closed_after, new_after, seen-after, seen-closes, close-colour}

-- the visited functions keep their colours
abbrev Keeps : List Colour → List Colour → Type 0
Keeps cs cs' = (x : ℕ) → new_at cs x ≡ false → colour cs' x ≡ colour cs x

still : (cs cs' : List Colour) → Keeps cs cs' → (x : ℕ) → new_at cs x ≡ false → new_at cs' x ≡ false
still cs cs' keeps x v = ap is_new (keeps x v) ∙ v

-- what was on the stack stays there
prefix : (g : Graph) (o : List ℕ) (cs : List Colour) (o' : List ℕ) (cs' : List Colour) → Good g o cs → Good g o' cs' → Keeps cs cs' → (i : ℕ) → i < length o → (i < length o') × (get_or o' i 0 ≡ get_or o i 0)
prefix g o cs o' cs' good good' keeps i h =
    let e : colour cs (get_or o i 0) ≡ Open i = good.stands i h in
    good'.places (get_or o i 0) i (keeps (get_or o i 0) (ap is_new e) ∙ e)

seen-kept : (m low : ℕ) (cs cs' : List Colour) (y : ℕ) → Keeps cs cs' → m ≤ low → Seen low (colour cs y) → Seen m (colour cs' y)
seen-kept m low cs cs' y keeps h s =
    seen-lower m low (colour cs' y) h (subst (λ (c : Colour). Seen low c) (sym (keeps y (seen-visited low (colour cs y) s))) s)

-- one callee more
pub so_far-more : (g : Graph) (o : List ℕ) (cs : List Colour) (f i low : ℕ) (o1 : List ℕ) (cs1 : List Colour) (c low1 : ℕ) (o2 : List ℕ) (cs2 : List Colour) → Good g o cs → SoFar g o cs f i low o1 cs1 → i < length (callees g f) → c ≡ get_or (callees g f) i 0 → Walked g o1 cs1 c low1 o2 cs2 → SoFar g o cs f (i + 1) (min low low1) o2 cs2
so_far-more g o cs f i low o1 cs1 c low1 o2 cs2 good s inside is w = record {
  good = w.good;
  fewer = let a = s.fewer in let b = w.fewer in omega arith;
  keeps = λ x v. w.keeps x (still cs cs1 s.keeps x v) ∙ s.keeps x v;
  to = λ j h. by_below j (length o1)
      (λ l. let p = prefix g o1 cs1 o2 cs2 s.good w.good w.keeps j l in subst (λ (x : ℕ). LeadsOrIs g x f) (sym p.1) (s.to j l))
      (λ l. let b = w.back j l h in inr (leads_is g (get_or o2 j 0) (get_or o1 low1 0) f b.1 (s.to low1 b.0)));
  reach = λ l. by_below low1 low
      (λ less. let e : min low low1 ≡ low1 = omega arith in let k : low1 < length o = omega arith in
      let p = prefix g o cs o1 cs1 good s.good s.keeps low1 k in
      subst (λ (n : ℕ). Leads g f (get_or o n 0)) (sym e)
      (subst (λ (x : ℕ). Leads g f x) p.1 (leads_leads g f c (get_or o1 low1 0) (call_leads g f c (i, inside, sym is)) (w.reach p.0))))
      (λ more. let e : min low low1 ≡ low = omega arith in
      subst (λ (n : ℕ). Leads g f (get_or o n 0)) (sym e) (s.reach (omega arith)));
  bound = λ x y new old call. by_test (new_at cs1 x)
      (λ n. seen-lower (min low low1) low1 (colour cs2 y) (omega arith) (w.bound x y n old call))
      (λ v. seen-kept (min low low1) low cs1 cs2 y w.keeps (omega arith) (s.bound x y new v call));
  each = below_more _ _ (λ j l. seen-kept (min low low1) low cs1 cs2 (get_or (callees g f) j 0) w.keeps (omega arith) (s.each j l))
      (subst (λ (x : ℕ). Seen (min low low1) (colour cs2 x)) is (seen-lower (min low low1) low1 (colour cs2 c) (omega arith) w.here));
}

-- a function is put on the stack
pub good-entered : (g : Graph) (o : List ℕ) (cs : List Colour) (f : ℕ) → Good g o cs → f < length cs → new_at cs f ≡ true → Good g (o ++ f ∷ []) (set cs f (Open (length o)))
good-entered g o cs f good inside new = record {
  long = length-set cs f (Open (length o)) ∙ good.long;
  room = let a = unvisited-set cs f (Open (length o)) inside in let b = new-unvisited (colour cs f) new in let c = good.room in omega (arith, length_push o f, length-set cs f (Open (length o)));
  places = λ x i e. by_same x f
      (λ same. let n : Open (length o) ≡ Open i = sym here ∙ sym (ap (colour (set cs f (Open (length o)))) same) ∙ e in let k : length o ≡ i = cc in
      (omega (arith, length_push o f), get_or_push o f 0 i k ∙ sym same))
      (λ ne. let p = good.places x i (sym (other x ne) ∙ e) in let l = p.0 in
      (omega (arith, length_push o f), get_or_append_left o (f ∷ []) 0 i l ∙ p.1));
  stands = λ i h. by_below i (length o)
      (λ l. let e = good.stands i l in
      ap (colour (set cs f (Open (length o)))) (get_or_append_left o (f ∷ []) 0 i l) ∙ other (get_or o i 0) (λ same. let v : is_new (colour cs (get_or o i 0)) ≡ false = ap is_new e in let w = ap (new_at cs) same in cc) ∙ e)
      (λ l. let k : length o ≡ i = omega (arith, length_push o f) in ap (colour (set cs f (Open (length o)))) (get_or_push o f 0 i k) ∙ here ∙ ap (λ (n : ℕ). Open n) k);
  closed = λ x y e call. by_same x f
      (λ same. let n : colour (set cs f (Open (length o))) x ≡ Open (length o) = ap (colour (set cs f (Open (length o)))) same ∙ here in absurd (cc))
      (λ ne. let d = good.closed x y (sym (other x ne) ∙ e) call in
      other y (λ same. let v : is_new (colour cs y) ≡ false = ap is_new d in let w = ap (new_at cs) same in cc) ∙ d);
}
  where
    here : colour (set cs f (Open (length o))) f ≡ Open (length o)
    here = colour-here cs f (Open (length o)) inside

    other : (x : ℕ) → (x ≡ f → ⊥) → colour (set cs f (Open (length o))) x ≡ colour cs x
    other x ne = colour-other cs f x (Open (length o)) ne

pub to-entered : (g : Graph) (o : List ℕ) (f : ℕ) → EachLeads g o f → EachLeadsOrIs g (o ++ f ∷ []) f
to-entered g o f leads j h = by_below j (length o)
    (λ l. inr (subst (λ (x : ℕ). Leads g x f) (sym (get_or_append_left o (f ∷ []) 0 j l)) (leads j l)))
    (λ l. inl (get_or_push o f 0 j (omega (arith, length_push o f))))

-- what holds when the callees of f were walked, and f is still on top of the stack o ++ f ∷ []
pub record Entered (g : Graph) (o : List ℕ) (cs : List Colour) (f low : ℕ) (o2 : List ℕ) (cs2 : List Colour) : Type 0 where
  pub good : Good g o cs
  pub inside : f < length cs
  pub new : new_at cs f ≡ true
  pub leads : EachLeads g o f
  pub walked : SoFar g (o ++ f ∷ []) (set cs f (Open (length o))) f (length (callees g f)) low o2 cs2

-- f has its place on the stack
place_of : (g : Graph) (o : List ℕ) (cs : List Colour) (f low : ℕ) (o2 : List ℕ) (cs2 : List Colour) → Entered g o cs f low o2 cs2 → colour cs2 f ≡ Open (length o)
place_of g o cs f low o2 cs2 t =
    let here = colour-here cs f (Open (length o)) t.inside in
    t.walked.keeps f (ap is_new here) ∙ here

kept : (g : Graph) (o : List ℕ) (cs : List Colour) (f low : ℕ) (o2 : List ℕ) (cs2 : List Colour) → Entered g o cs f low o2 cs2 → Keeps cs cs2
kept g o cs f low o2 cs2 t x v =
    let e = colour-other cs f x (Open (length o)) (λ same. let new = t.new in let w = ap (new_at cs) same in cc) in
    t.walked.keeps x (ap is_new e ∙ v) ∙ e

fewer-entered : (g : Graph) (o : List ℕ) (cs : List Colour) (f low : ℕ) (o2 : List ℕ) (cs2 : List Colour) → Entered g o cs f low o2 cs2 → unvisited cs2 ≤ unvisited cs
fewer-entered g o cs f low o2 cs2 t =
    let a = t.walked.fewer in omega (arith, unvisited-set cs f (Open (length o)) t.inside)

called-seen : (g : Graph) (o : List ℕ) (cs : List Colour) (f low : ℕ) (o2 : List ℕ) (cs2 : List Colour) → Entered g o cs f low o2 cs2 → (y : ℕ) → Calls g f y → Seen low (colour cs2 y)
called-seen g o cs f low o2 cs2 t y call = subst (λ (x : ℕ). Seen low (colour cs2 x)) call.2 (t.walked.each call.0 call.1)

bound-entered : (g : Graph) (o : List ℕ) (cs : List Colour) (f low : ℕ) (o2 : List ℕ) (cs2 : List Colour) → Entered g o cs f low o2 cs2 → (x y : ℕ) → new_at cs x ≡ true → new_at cs2 x ≡ false → Calls g x y → Seen low (colour cs2 y)
bound-entered g o cs f low o2 cs2 t x y new old call = by_same x f
    (λ same. called-seen g o cs f low o2 cs2 t y (subst (λ (z : ℕ). Calls g z y) same call))
    (λ ne. t.walked.bound x y (ap is_new (colour-other cs f x (Open (length o)) ne) ∙ new) old call)

-- a function that f leads to was visited on the way or closed before, unless low is at most f's place
abbrev Reached : List Colour → List Colour → ℕ → ℕ → ℕ → Type 0
Reached cs1 cs2 low at h = (low ≤ at) ⊎ (colour cs1 h ≡ Closed) ⊎ ((new_at cs1 h ≡ true) × (new_at cs2 h ≡ false))

visited_target : (g : Graph) (o1 : List ℕ) (cs1 cs2 : List Colour) (low at y : ℕ) → Good g o1 cs1 → length o1 ≡ at + 1 → (c : Colour) → colour cs1 y ≡ c → Seen low c → Reached cs1 cs2 low at y
visited_target g o1 cs1 cs2 low at y good long Unvisited e s = absurd s
visited_target g o1 cs1 cs2 low at y good long (Open i) e s = let p = (good.places y i e).0 in inl (omega arith)
visited_target g o1 cs1 cs2 low at y good long Closed e s = inr (inl e)

target : (g : Graph) (o1 : List ℕ) (cs1 cs2 : List Colour) (low at y : ℕ) → Good g o1 cs1 → Keeps cs1 cs2 → length o1 ≡ at + 1 → Seen low (colour cs2 y) → Reached cs1 cs2 low at y
target g o1 cs1 cs2 low at y good keeps long s = by_test (new_at cs1 y)
    (λ n. inr (inr (n, seen-visited low (colour cs2 y) s)))
    (λ v. visited_target g o1 cs1 cs2 low at y good long (colour cs1 y) refl (subst (λ (c : Colour). Seen low c) (keeps y v) s))

next : (g : Graph) (o1 : List ℕ) (cs1 : List Colour) (f i low : ℕ) (o2 : List ℕ) (cs2 : List Colour) (at h y : ℕ) → Good g o1 cs1 → length o1 ≡ at + 1 → SoFar g o1 cs1 f i low o2 cs2 → Reached cs1 cs2 low at h → Calls g h y → Reached cs1 cs2 low at y
next g o1 cs1 f i low o2 cs2 at h y good long s (inl l) call = inl l
next g o1 cs1 f i low o2 cs2 at h y good long s (inr (inl e)) call = inr (inl (good.closed h y e call))
next g o1 cs1 f i low o2 cs2 at h y good long s (inr (inr p)) call = target g o1 cs1 cs2 low at y good s.keeps long (s.bound h y p.0 p.1 call)

reached : (g : Graph) (o : List ℕ) (cs : List Colour) (f low : ℕ) (o2 : List ℕ) (cs2 : List Colour) → Entered g o cs f low o2 cs2 → (k h : ℕ) → LeadsBy g k f h → Reached (set cs f (Open (length o))) cs2 low (length o) h
reached g o cs f low o2 cs2 t zero h q =
    target g (o ++ f ∷ []) (set cs f (Open (length o))) cs2 low (length o) h (good-entered g o cs f t.good t.inside t.new) t.walked.keeps (length_push o f) (called-seen g o cs f low o2 cs2 t h q)
reached g o cs f low o2 cs2 t (suc k) h q =
    next g (o ++ f ∷ []) (set cs f (Open (length o))) f (length (callees g f)) low o2 cs2 (length o) q.0 h (good-entered g o cs f t.good t.inside t.new) (length_push o f) t.walked (reached g o cs f low o2 cs2 t k q.0 q.1) q.2

reached_itself : (cs1 cs2 : List Colour) (low at f : ℕ) → colour cs1 f ≡ Open at → Reached cs1 cs2 low at f → low ≤ at
reached_itself cs1 cs2 low at f e (inl l) = l
reached_itself cs1 cs2 low at f e (inr (inl c)) = absurd (cc)
reached_itself cs1 cs2 low at f e (inr (inr p)) = let v : is_new (colour cs1 f) ≡ false = ap is_new e in let w = p.0 in absurd (cc)

-- f leads to itself exactly if the walk from it reaches its place or a lower one
pub low-on_cycle : (g : Graph) (o : List ℕ) (cs : List Colour) (f low : ℕ) (o2 : List ℕ) (cs2 : List Colour) → Entered g o cs f low o2 cs2 → Leads g f f → low ≤ length o
low-on_cycle g o cs f low o2 cs2 t q =
    reached_itself (set cs f (Open (length o))) cs2 low (length o) f (colour-here cs f (Open (length o)) t.inside) (reached g o cs f low o2 cs2 t q.0 f q.1)

pub on_cycle-low : (g : Graph) (o : List ℕ) (cs : List Colour) (f low : ℕ) (o2 : List ℕ) (cs2 : List Colour) → Entered g o cs f low o2 cs2 → low ≤ length o → Leads g f f
on_cycle-low g o cs f low o2 cs2 t h =
    let l : low < length (o ++ f ∷ []) = omega (arith, length_push o f) in
    leads_is g f (get_or (o ++ f ∷ []) low 0) f (t.walked.reach l) (to-entered g o f t.leads low l)

-- a lower place is reached: f stays open
pub walked-stays : (g : Graph) (o : List ℕ) (cs : List Colour) (f low : ℕ) (o2 : List ℕ) (cs2 : List Colour) → Entered g o cs f low o2 cs2 → low < length o → Walked g o cs f low o2 cs2
walked-stays g o cs f low o2 cs2 t h =
    let l : low < length (o ++ f ∷ []) = omega (arith, length_push o f) in
    let reach : Leads g f (get_or o low 0) = subst (λ (x : ℕ). Leads g f x) (get_or_append_left o (f ∷ []) 0 low h) (t.walked.reach l) in record {
      good = t.walked.good;
      fewer = fewer-entered g o cs f low o2 cs2 t;
      keeps = kept g o cs f low o2 cs2 t;
      here = subst (λ (c : Colour). Seen low c) (sym (place_of g o cs f low o2 cs2 t)) (let k : low ≤ length o = omega arith in k);
      back = λ j a b. (h, is_leads g (get_or o2 j 0) f (get_or o low 0) (t.walked.to j b) reach);
      reach = λ k. reach;
      bound = bound-entered g o cs f low o2 cs2 t;
    }

-- the colours when what is from f's place on is closed
closing : (g : Graph) (o2 : List ℕ) (cs2 : List Colour) (at : ℕ) → Good g o2 cs2 → (x : ℕ) → colour (close (drop at o2) cs2) x ≡ closed_from at (colour cs2 x)
closing g o2 cs2 at good = close-colour (drop at o2) cs2 at
    (λ j h. ap (colour cs2) (get_or-drop at o2 j 0) ∙ good.stands (at + j) (omega (arith, length-drop at o2)))
    (λ x i e h. let p = good.places x i e in let l = p.0 in let back : at + (i - at) ≡ i = omega arith in
    (i - at, omega (arith, length-drop at o2), get_or-drop at o2 (i - at) 0 ∙ ap (λ (k : ℕ). get_or o2 k 0) back ∙ p.1, back))

good-closed : (g : Graph) (o : List ℕ) (cs : List Colour) (f low : ℕ) (o2 : List ℕ) (cs2 : List Colour) → Entered g o cs f low o2 cs2 → length o ≤ low → Good g (take (length o) o2) (close (drop (length o) o2) cs2)
good-closed g o cs f low o2 cs2 t h = record {
  long = length-close (drop (length o) o2) cs2 ∙ good2.long;
  room = let a = good2.room in omega (arith, length-take (length o) o2, unvisited-close (drop (length o) o2) cs2, length-close (drop (length o) o2) cs2);
  places = λ x i e. let was = open_after (length o) i (colour cs2 x) (sym (shut x) ∙ e) in let p = good2.places x i was.0 in let l = p.0 in let k = was.1 in
      (omega (arith, length-take (length o) o2), get_or-take (length o) o2 i 0 k ∙ p.1);
  stands = λ i l. let k : i < length o = omega (arith, length-take (length o) o2) in let k2 : i < length o2 = omega (arith, length-take (length o) o2) in
      let e = good2.stands i k2 in
      ap (colour (close (drop (length o) o2) cs2)) (get_or-take (length o) o2 i 0 k) ∙ shut (get_or o2 i 0) ∙ closed_from-stays (length o) (colour cs2 (get_or o2 i 0)) (λ n was. let same : n ≡ i = cc in omega arith) ∙ e;
  closed = λ x y e call. shut y ∙ calls_closed x y call (closed_after (length o) (colour cs2 x) (sym (shut x) ∙ e));
}
  where
    good2 : Good g o2 cs2
    good2 = t.walked.good

    shut : (x : ℕ) → colour (close (drop (length o) o2) cs2) x ≡ closed_from (length o) (colour cs2 x)
    shut = closing g o2 cs2 (length o) good2

    calls_closed : (x y : ℕ) → Calls g x y → (colour cs2 x ≡ Closed) ⊎ ((i : ℕ) × (colour cs2 x ≡ Open i) × (length o ≤ i)) → closed_from (length o) (colour cs2 y) ≡ Closed
    calls_closed x y call (inl e) = ap (closed_from (length o)) (good2.closed x y e call)
    calls_closed x y call (inr q) = seen-closes low (length o) (colour cs2 y) h (by_test (new_at cs x)
        (λ n. bound-entered g o cs f low o2 cs2 t x y n (ap is_new q.1) call)
        (λ v. let p = (t.good.places x q.0 (sym (kept g o cs f low o2 cs2 t x v) ∙ q.1)).0 in let l = q.2 in absurd (omega arith)))

-- no lower place is reached: what is from f's place on is closed
pub walked-closes : (g : Graph) (o : List ℕ) (cs : List Colour) (f low : ℕ) (o2 : List ℕ) (cs2 : List Colour) → Entered g o cs f low o2 cs2 → length o ≤ low → Walked g o cs f low (take (length o) o2) (close (drop (length o) o2) cs2)
walked-closes g o cs f low o2 cs2 t h = record {
  good = good-closed g o cs f low o2 cs2 t h;
  fewer = let a = fewer-entered g o cs f low o2 cs2 t in omega (arith, unvisited-close (drop (length o) o2) cs2);
  keeps = λ x v. let e = kept g o cs f low o2 cs2 t x v in
      shut x ∙ closed_from-stays (length o) (colour cs2 x) (λ i was. (t.good.places x i (sym e ∙ was)).0) ∙ e;
  here = subst (λ (c : Colour). Seen low c) (sym (shut f ∙ closed_from-open (length o) (length o) (colour cs2 f) (place_of g o cs f low o2 cs2 t) (omega arith))) tt;
  back = λ j a b. absurd (omega (arith, length-take (length o) o2));
  reach = λ l. absurd (omega arith);
  bound = λ x y new old call. subst (λ (c : Colour). Seen low c) (sym (shut y)) (seen-after low (length o) (colour cs2 y)
      (bound-entered g o cs f low o2 cs2 t x y new (sym (new_after (length o) (colour cs2 x)) ∙ sym (ap is_new (shut x)) ∙ old) call));
}
  where
    shut : (x : ℕ) → colour (close (drop (length o) o2) cs2) x ≡ closed_from (length o) (colour cs2 x)
    shut = closing g o2 cs2 (length o) t.walked.good

-- f is left either way
pub walked-left : (g : Graph) (o : List ℕ) (cs : List Colour) (f low : ℕ) (o2 : List ℕ) (cs2 : List Colour) (b : Bool) → Entered g o cs f low o2 cs2 → (b ≡ true → low < length o) → (b ≡ false → length o ≤ low) → Walked g o cs f low (left_stack b (length o) o2) (left_colours b (length o) o2 cs2)
walked-left g o cs f low o2 cs2 true t below above = walked-stays g o cs f low o2 cs2 t (below refl)
walked-left g o cs f low o2 cs2 false t below above = walked-closes g o cs f low o2 cs2 t (above refl)

pub new-left : (g : Graph) (o2 : List ℕ) (cs2 : List Colour) (at : ℕ) (b : Bool) → Good g o2 cs2 → (x : ℕ) → new_at (left_colours b at o2 cs2) x ≡ new_at cs2 x
new-left g o2 cs2 at true good x = refl
new-left g o2 cs2 at false good x = ap is_new (closing g o2 cs2 at good x) ∙ new_after at (colour cs2 x)

-- the same of a state that is known by equations
pub good_by : (g : Graph) (o : List ℕ) (cs : List Colour) (f p : ℕ) (o1 : List ℕ) (cs1 : List Colour) → Good g o cs → f < length cs → new_at cs f ≡ true → p ≡ length o → o1 ≡ o ++ f ∷ [] → cs1 ≡ set cs f (Open p) → Good g o1 cs1
good_by g o cs f p o1 cs1 good inside new at stack colours =
    let e : cs1 ≡ set cs f (Open (length o)) = colours ∙ ap (λ (k : ℕ). set cs f (Open k)) at in
    subst (λ (q : List ℕ). Good g q cs1) (sym stack) (subst (λ (ds : List Colour). Good g (o ++ f ∷ []) ds) (sym e) (good-entered g o cs f good inside new))

pub entered_by : (g : Graph) (o : List ℕ) (cs : List Colour) (f p : ℕ) (o1 : List ℕ) (cs1 : List Colour) (low : ℕ) (o2 : List ℕ) (cs2 : List Colour) → Good g o cs → f < length cs → new_at cs f ≡ true → EachLeads g o f → p ≡ length o → o1 ≡ o ++ f ∷ [] → cs1 ≡ set cs f (Open p) → SoFar g o1 cs1 f (length (callees g f)) low o2 cs2 → Entered g o cs f low o2 cs2
entered_by g o cs f p o1 cs1 low o2 cs2 good inside new leads at stack colours walked =
    let e : cs1 ≡ set cs f (Open (length o)) = colours ∙ ap (λ (k : ℕ). set cs f (Open k)) at in record {
      good = good;
      inside = inside;
      new = new;
      leads = leads;
      walked = subst (λ (ds : List Colour). SoFar g (o ++ f ∷ []) ds f (length (callees g f)) low o2 cs2) e
          (subst (λ (q : List ℕ). SoFar g q cs1 f (length (callees g f)) low o2 cs2) stack walked);
    }

pub fewer_by : (cs : List Colour) (f p : ℕ) (cs1 : List Colour) → f < length cs → new_at cs f ≡ true → cs1 ≡ set cs f (Open p) → unvisited cs1 + 1 ≡ unvisited cs
fewer_by cs f p cs1 inside new e = let n = new-unvisited (colour cs f) new in omega (arith, unvisited-set cs f (Open p) inside, ap unvisited e)

pub grows-entered : (g : Graph) (o : List ℕ) (cs : List Colour) (f low : ℕ) (o2 : List ℕ) (cs2 : List Colour) → Entered g o cs f low o2 cs2 → length o < length o2
grows-entered g o cs f low o2 cs2 t = (t.walked.good.places f (length o) (place_of g o cs f low o2 cs2 t)).0

pub walked_by : (g : Graph) (o : List ℕ) (cs : List Colour) (f p low : ℕ) (o2 : List ℕ) (cs2 : List Colour) (o3 : List ℕ) (cs3 : List Colour) (o4 : List ℕ) (cs4 : List Colour) → Entered g o cs f low o2 cs2 → p ≡ length o → o3 ≡ o2 → cs3 ≡ cs2 → o4 ≡ left_stack (ltb low p) p o3 → cs4 ≡ left_colours (ltb low p) p o3 cs3 → Walked g o cs f low o4 cs4
walked_by g o cs f p low o2 cs2 o3 cs3 o4 cs4 t at stack colours left_o left_cs =
    let so : o4 ≡ left_stack (ltb low p) (length o) o2 = left_o ∙ ap (λ (q : List ℕ). left_stack (ltb low p) p q) stack ∙ ap (λ (k : ℕ). left_stack (ltb low p) k o2) at in
    let sc : cs4 ≡ left_colours (ltb low p) (length o) o2 cs2 = left_cs ∙ ap (λ (q : List ℕ). left_colours (ltb low p) p q cs3) stack ∙ ap (λ (ds : List Colour). left_colours (ltb low p) p o2 ds) colours ∙ ap (λ (k : ℕ). left_colours (ltb low p) k o2 cs2) at in
    let w = walked-left g o cs f low o2 cs2 (ltb low p) t (λ e. let l : low < p = (Decides-ltb low p).0 e in omega arith) (λ e. let out : low < p → ⊥ = not_from_Decides (ltb low p) (Decides-ltb low p) e in omega (arith, out)) in
    subst (λ (q : List ℕ). Walked g o cs f low q cs4) (sym so) (subst (λ (ds : List Colour). Walked g o cs f low (left_stack (ltb low p) (length o) o2) ds) (sym sc) w)

-- a function whose colour was read
pub read-new : (cs : List Colour) (f : ℕ) (c : Colour) → f < length cs → c ≡ get_or cs f c → c ≡ Unvisited → new_at cs f ≡ true
read-new cs f c inside is e = ap is_new (sym (get_or_read cs f c inside is Unvisited) ∙ e)

-- an open function is reached at its place
pub walked-open : (g : Graph) (o : List ℕ) (cs : List Colour) (f i : ℕ) → Good g o cs → EachLeads g o f → colour cs f ≡ Open i → Walked g o cs f i o cs
walked-open g o cs f i good leads e =
    let p = good.places f i e in record {
      good = good;
      fewer = omega arith;
      keeps = λ x v. refl;
      here = subst (λ (c : Colour). Seen i c) (sym e) (let k : i ≤ i = omega arith in k);
      back = λ j a b. absurd (omega arith);
      reach = λ l. subst (λ (x : ℕ). Leads g f x) (sym p.1) (subst (λ (x : ℕ). Leads g x f) p.1 (leads i l));
      bound = λ x y new old call. absurd (cc);
    }
