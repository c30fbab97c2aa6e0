-- The entries on each property, as one more entry is noted in front.
use Rattle.std.proofs.Common.{◌≡◌, ◌≢◌, ℕ, ◌+◌, ◌-◌, ◌<◌, ◌≤◌, map, drop, Bool, true, false, cond, List, [], ◌∷◌, length, get_or, set, refl, sym, ap, ◌∙◌, inl, inr, eqb, arith}
use Rattle.std.proofs.lemmas.Bool.{eqb-true, eq-eqb, ne_eqb, cases_Bool, and_parts}
use Rattle.std.specs.Prelude.{filter, ◌||◌, ◌&&◌}
use Rattle.std.specs.List.{list_any}
use Rattle.std.proofs.lemmas.List.{at_drop_more}
use Rattle.c_ir.specs.declared.prop.Prop.{Prop}
use Rattle.status_rules.specs.declared.counting.CountedEntry.{CountedEntry}
use Rattle.status_rules.specs.Counting.{PlacedEntry, is_rival, is_same_emitter, last_of_each}
use Rattle.status_rules.specs.Holds.{is_on, by_prop}
use Rattle.status_rules.specs.inner.ByProp.{placed, with_entry}
use Rattle.status_rules.proofs.Each.{get_or-at_each, set-at_each}

-- two entries that one entry is a rival of are rivals of the same entries
same_rivals : (e x y : PlacedEntry) → is_rival e x ≡ true → is_rival e y ≡ is_rival x y
same_rivals e x y h =
    let parts = and_parts (eqb x.entry.prop.0 e.entry.prop.0) (eqb x.entry.emitter.0 e.entry.emitter.0) h in
    let props = eqb-true x.entry.prop.0 e.entry.prop.0 parts.0 in
    let emitters = eqb-true x.entry.emitter.0 e.entry.emitter.0 parts.1 in
    rw (props, emitters) refl

all_same_rivals : (e x : PlacedEntry) (es : List PlacedEntry) → is_rival e x ≡ true → list_any (is_rival e) es ≡ list_any (is_rival x) es
all_same_rivals e x [] h = refl
all_same_rivals e x (y ∷ es) h =
    let first = same_rivals e x y h in
    let rest = all_same_rivals e x es h in
    cc

rival_in_last : (e x : PlacedEntry) (es : List PlacedEntry) (b : Bool) → list_any (is_rival x) es ≡ b → list_any (is_rival e) (last_of_each es) ≡ list_any (is_rival e) es → list_any (is_rival e) (cond b (last_of_each es) (x ∷ last_of_each es)) ≡ (is_rival e x || list_any (is_rival e) es)
rival_in_last e x es false is same = ap (λ b. is_rival e x || b) same
rival_in_last e x es true is same =
    same ∙ (elim (cases_Bool (is_rival e x)) [ inl found ↦ (all_same_rivals e x es found ∙ is) ∙ sym (ap (λ b. b || list_any (is_rival e) es) found) | inr apart ↦ sym (ap (λ b. b || list_any (is_rival e) es) apart) ])

-- the last entries of each have a rival of an entry exactly where all have
any_rival : (e : PlacedEntry) (es : List PlacedEntry) → list_any (is_rival e) (last_of_each es) ≡ list_any (is_rival e) es
any_rival e [] = refl
any_rival e (x ∷ es) = rival_in_last e x es (list_any (is_rival x) es) refl (any_rival e es)

split_on : (a b : Bool) (f : PlacedEntry → Bool) (x : PlacedEntry) (xs : List PlacedEntry) → b ≡ f x → (a && b || list_any f xs) ≡ list_any f (cond a (x ∷ xs) xs)
split_on true b f x xs is = ap (λ c. c || list_any f xs) is
split_on false b f x xs is = refl

-- rivals are entries on the same property and of the same emitter
rivals_on : (e : PlacedEntry) (xs : List PlacedEntry) → list_any (is_rival e) xs ≡ list_any (is_same_emitter e) (filter (is_on e.entry.prop.0) xs)
rivals_on e [] = refl
rivals_on e (x ∷ xs) = ap (λ b. is_rival e x || b) (rivals_on e xs) ∙ split_on (is_on e.entry.prop.0 x) (is_same_emitter e x) (is_same_emitter e) x (filter (is_on e.entry.prop.0) xs) refl

filter_front : (p : ℕ) (e : PlacedEntry) (ls : List PlacedEntry) (b : Bool) → filter (is_on p) (cond b ls (e ∷ ls)) ≡ cond b (filter (is_on p) ls) (cond (is_on p e) (e ∷ filter (is_on p) ls) (filter (is_on p) ls))
filter_front p e ls true = refl
filter_front p e ls false = refl

either_same : (b : Bool) (es : List PlacedEntry) → es ≡ cond b es es
either_same true es = refl
either_same false es = refl

here : (e : PlacedEntry) (es : List PlacedEntry) → with_entry e (filter (is_on e.entry.prop.0) (last_of_each es)) ≡ filter (is_on e.entry.prop.0) (last_of_each (e ∷ es))
here e es =
    let ls = last_of_each es in
    let p = e.entry.prop.0 in
    let tests = sym (any_rival e es) ∙ rivals_on e ls in
    ap (λ b. cond b (filter (is_on p) ls) (e ∷ filter (is_on p) ls)) (sym tests)
    ∙ (ap (λ b. cond (list_any (is_rival e) es) (filter (is_on p) ls) (cond b (e ∷ filter (is_on p) ls) (filter (is_on p) ls))) (sym (eq-eqb p p refl))
    ∙ sym (filter_front p e ls (list_any (is_rival e) es)))

elsewhere : (e : PlacedEntry) (es : List PlacedEntry) (q : ℕ) → q ≢ e.entry.prop.0 → filter (is_on q) (last_of_each es) ≡ filter (is_on q) (last_of_each (e ∷ es))
elsewhere e es q ne =
    let ls = last_of_each es in
    let b = list_any (is_rival e) es in
    let off = ne_eqb e.entry.prop.0 q (λ same. ne (sym same)) in
    either_same b (filter (is_on q) ls)
    ∙ (ap (λ c. cond b (filter (is_on q) ls) (cond c (e ∷ filter (is_on q) ls) (filter (is_on q) ls))) (sym off)
    ∙ sym (filter_front q e ls b))

-- one more entry in front of others
pub entry_step : (e : PlacedEntry) (es : List PlacedEntry) (rows : List Prop) → set (by_prop (last_of_each es) rows) e.entry.prop.0 (with_entry e (get_or (by_prop (last_of_each es) rows) e.entry.prop.0 [])) ≡ by_prop (last_of_each (e ∷ es)) rows
entry_step e es rows =
    let p = e.entry.prop.0 in
    let f = λ (q : ℕ). filter (is_on q) (last_of_each es) in
    let g = λ (q : ℕ). filter (is_on q) (last_of_each (e ∷ es)) in
    let zero_more : 0 + p ≡ p = omega arith in
    set-at_each f g 0 rows p _
    (λ h. ap (with_entry e) (get_or-at_each f 0 rows p [] h ∙ ap f zero_more) ∙ (here e es ∙ ap g (sym zero_more)))
    (λ q ne. elsewhere e es q (λ same. ne (same ∙ sym zero_more)))

-- one step back in a list of entries
pub one_back : (xs : List CountedEntry) (left : ℕ) (x : CountedEntry) → 0 < left → left ≤ length xs → x ≡ get_or xs (left - 1) x → placed x ∷ map placed (drop left xs) ≡ map placed (drop (left - 1) xs)
one_back xs left x above within is =
    let back : left - 1 + 1 ≡ left = omega arith in
    ap (λ y. placed y ∷ map placed (drop left xs)) is
    ∙ (ap (λ n. placed (get_or xs (left - 1) x) ∷ map placed (drop n xs)) (sym back)
    ∙ sym (at_drop_more (map placed) xs (left - 1) x (omega arith)))
