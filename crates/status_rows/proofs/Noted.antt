-- The places of counted entries after an emission.
use Rattle.std.proofs.Common.{◌≡◌, ◌≢◌, ℕ, zero, suc, ◌+◌, ◌-◌, ◌<◌, Bool, true, false, cond, List, [], ◌∷◌, ◌++◌, length, map, get_or, set, refl, sym, ap, subst, ◌∙◌, eqb, arith, Option, Some, None}
use Rattle.std.specs.Prelude.{◌&&◌, not, filter, slice_get}
use Rattle.std.specs.List.{list_all}
use Rattle.std.specs.Option.{option_and_then}
use Rattle.std.specs.Global.{Vec}
use Rattle.std.proofs.lemmas.Bool.{and_parts, and_from, eq-eqb, false≢true}
use Rattle.std.proofs.lemmas.List.{map-set}
use Rattle.c_ir.specs.declared.prop.Prop.{Prop}
use Rattle.status_history.specs.declared.history.Change.{Change}
use Rattle.status_history.specs.declared.history.Change.TheVariants.{Emit}
use Rattle.status_history.specs.declared.history.Entry.{Entry}
use Rattle.status_history.specs.declared.history.History.{History}
use Rattle.status_rules.specs.Counting.{PlacedEntry, counted_of, is_current, is_same_emitter}
use Rattle.status_rules.specs.Holds.{at_each, is_on}
use Rattle.status_rules.proofs.Each.{set-at_each}
use Rattle.status_rows.specs.Emission.{emitted, next_entry, with_last}
use Rattle.status_rows.specs.Places.{PlacesAre, entry_in, found_at, placed_at, some_placed, with_place}
use Rattle.status_rows.proofs.Counted.{counts_elsewhere, emission_counts}
use Rattle.status_rows.proofs.Histories.{each_same}
use Rattle.status_rows.proofs.Placed.{places_at}

abbrev is_found : Option PlacedEntry → Bool
is_found None = false
is_found (Some e) = true

stays : (k : ℕ) (cs ds : List Change) (i : ℕ) → is_found (option_and_then (entry_in k) (slice_get cs i)) ≡ true → option_and_then (entry_in k) (slice_get (cs ++ ds) i) ≡ option_and_then (entry_in k) (slice_get cs i)
stays k [] ds i h = absurd (false≢true h)
stays k (c ∷ cs) ds zero h = refl
stays k (c ∷ cs) ds (suc i) h = stays k cs ds i h

comes : (k : ℕ) (cs : List Change) (e : Entry) (more : List Change) → option_and_then (entry_in k) (slice_get (cs ++ Emit e ∷ more) (length cs)) ≡ Some (record { place = k; entry = e })
comes k [] e more = refl
comes k (c ∷ cs) e more = comes k cs e more

-- the entry of a change after others
pub entry_there : (cs : List Change) (e : Entry) (more : List Change) → placed_at (cs ++ Emit e ∷ more) (length cs + 1) ≡ Some (record { place = length cs + 1; entry = e })
entry_there cs e more =
    let back : length cs + 1 - 1 ≡ length cs = omega arith in
    ap (λ i. option_and_then (entry_in (length cs + 1)) (slice_get (cs ++ Emit e ∷ more) i)) back ∙ comes (length cs + 1) cs e more

list_more : (cs ds : List Change) (ks : List ℕ) → list_all is_found (map (placed_at cs) ks) ≡ true → map (placed_at (cs ++ ds)) ks ≡ map (placed_at cs) ks
list_more cs ds [] h = refl
list_more cs ds (k ∷ ks) h =
    let parts = and_parts (is_found (placed_at cs k)) (list_all is_found (map (placed_at cs) ks)) h in
    ap (λ (o : Option PlacedEntry). o ∷ map (placed_at (cs ++ ds)) ks) (stays k cs ds (k - 1) parts.0) ∙ ap (λ (os : List (Option PlacedEntry)). placed_at cs k ∷ os) (list_more cs ds ks parts.1)

found_more : (cs ds : List Change) (lists : List (Vec ℕ)) → list_all (list_all is_found) (found_at cs lists) ≡ true → found_at (cs ++ ds) lists ≡ found_at cs lists
found_more cs ds [] h = refl
found_more cs ds (b ∷ lists) h =
    let parts = and_parts (list_all is_found (map (placed_at cs) b.items)) (list_all (list_all is_found) (found_at cs lists)) h in
    ap (λ (o : List (Option PlacedEntry)). o ∷ found_at (cs ++ ds) lists) (list_more cs ds b.items parts.0) ∙ ap (λ (os : List (List (Option PlacedEntry))). map (placed_at cs) b.items ∷ os) (found_more cs ds lists parts.1)

somes_found : (es : List PlacedEntry) → list_all is_found (map (λ (e : PlacedEntry). Some e) es) ≡ true
somes_found [] = refl
somes_found (e ∷ es) = somes_found es

all_found : (f : ℕ → List PlacedEntry) (n : ℕ) (rows : List Prop) → list_all (list_all is_found) (at_each (λ p. map (λ (e : PlacedEntry). Some e) (f p)) n rows) ≡ true
all_found f n [] = refl
all_found f n (r ∷ rows) = and_from _ _ (somes_found (f n)) (all_found f (n + 1) rows)

-- what stands at the places stays, when the history grows
found_after : (cs ds : List Change) (lists : List (Vec ℕ)) (es : List PlacedEntry) (rows : List Prop) → PlacesAre cs lists es rows → found_at (cs ++ ds) lists ≡ found_at cs lists
found_after cs ds lists es rows is = found_more cs ds lists (ap (list_all (list_all is_found)) is ∙ all_found (λ p. filter (is_on p) es) 0 rows)

cons_if : {A B : Type 0} (f : A → B) (x : A) (ys : List A) (b : Bool) → map f (cond b (x ∷ ys) ys) ≡ cond b (f x ∷ map f ys) (map f ys)
cons_if f x ys true = refl
cons_if f x ys false = refl

map_filter : {A B : Type 0} (f : A → B) (test : B → Bool) (xs : List A) → map f (filter (λ x. test (f x)) xs) ≡ filter test (map f xs)
map_filter f test [] = refl
map_filter {A} {B} f test (x ∷ xs) = cons_if f x (filter (λ y. test (f y)) xs) (test (f x)) ∙ ap (λ (ys : List B). cond (test (f x)) (f x ∷ ys) ys) (map_filter f test xs)

map_more : {A B : Type 0} (f : A → B) (xs ys : List A) → map f (xs ++ ys) ≡ map f xs ++ map f ys
map_more f [] ys = refl
map_more {A} {B} f (x ∷ xs) ys = ap (λ (zs : List B). f x ∷ zs) (map_more f xs ys)

-- the list of an emission's property
list_after : (h : History) (e : Entry) (ks : List ℕ) (es : List PlacedEntry) → map (placed_at h.changes) ks ≡ map (λ (x : PlacedEntry). Some x) es → map (placed_at (h.changes ++ Emit e ∷ [])) (with_place h.changes e.emitter.0 (length h.changes + 1) ks) ≡ map (λ (x : PlacedEntry). Some x) (with_last (next_entry h e) es)
list_after h e ks es is =
    let cs = h.changes in
    let ds = cs ++ Emit e ∷ [] in
    let some = λ (x : PlacedEntry). Some x in
    let test = λ (o : Option PlacedEntry). not (some_placed (λ (x : PlacedEntry). eqb x.entry.emitter.0 e.emitter.0) o) in
    let kept = filter (λ k. test (placed_at cs k)) ks in
    let others = filter (λ x. not (is_same_emitter (next_entry h e) x)) es in
    let same : map (placed_at cs) kept ≡ map some others = map_filter (placed_at cs) test ks ∙ (ap (filter test) is ∙ sym (map_filter some test es)) in
    map_more (placed_at ds) kept ((length cs + 1) ∷ [])
    ∙ (ap (λ (o : Option PlacedEntry). map (placed_at ds) kept ++ o ∷ []) (entry_there cs e [])
    ∙ (ap (λ (os : List (Option PlacedEntry)). os ++ Some (next_entry h e) ∷ []) (list_more cs (Emit e ∷ []) kept (ap (list_all is_found) same ∙ somes_found others) ∙ same)
    ∙ sym (map_more some others (next_entry h e ∷ []))))

choose : {A : Type 0} (c s : Bool) (x y : A) → c ≡ true → s ≡ true → cond (c && s) x y ≡ x
choose true true x y is also = refl
choose true false x y is also = absurd (false≢true also)
choose false s x y is also = absurd (false≢true is)

not_chosen : {A : Type 0} (c s : Bool) (x y : A) → c ≡ false → cond (c && s) x y ≡ y
not_chosen true s x y is = absurd (false≢true (sym is))
not_chosen false s x y is = refl

-- the places after an emission that is current
places_after : (h : History) (rows : List Prop) (e : Entry) (lists : List (Vec ℕ)) (d v : Vec ℕ) → PlacesAre h.changes lists (counted_of h) rows → is_current h (next_entry h e) ≡ true → v.items ≡ with_place h.changes e.emitter.0 (length h.changes + 1) (get_or lists e.prop.0 d).items → PlacesAre (h.changes ++ Emit e ∷ []) (set lists e.prop.0 v) (counted_of (emitted h e)) rows
places_after h rows e lists d v is current new =
    let cs = h.changes in
    let ds = cs ++ Emit e ∷ [] in
    let p = e.prop.0 in
    let some = λ (x : PlacedEntry). Some x in
    let view = λ (b : Vec ℕ). map (placed_at ds) b.items in
    let f = λ (q : ℕ). map some (filter (is_on q) (counted_of h)) in
    let g = λ (q : ℕ). map some (filter (is_on q) (counted_of (emitted h e))) in
    let zero_more : 0 + p ≡ p = omega arith in
    let here = λ (w : p < length rows).
    ap (map (placed_at ds)) new
    ∙ (list_after h e (get_or lists p d).items (filter (is_on p) (counted_of h)) (places_at cs lists (counted_of h) rows p d is w)
    ∙ (sym (ap (map some) (emission_counts h e p ∙ choose (is_current h (next_entry h e)) (eqb p p) _ _ current (eq-eqb p p refl))) ∙ ap g (sym zero_more))) in
    let else_same = λ (q : ℕ) (ne : q ≢ 0 + p). sym (ap (map some) (counts_elsewhere h e q (λ same. ne (same ∙ sym zero_more)))) in
    map-set view lists p v
    ∙ (ap (λ (l : List (List (Option PlacedEntry))). set l p (view v)) (found_after cs (Emit e ∷ []) lists (counted_of h) rows is ∙ is)
    ∙ set-at_each f g 0 rows p (view v) here else_same)

-- the places after an emission that isn't
places_kept : (h : History) (rows : List Prop) (e : Entry) (lists : List (Vec ℕ)) → PlacesAre h.changes lists (counted_of h) rows → is_current h (next_entry h e) ≡ false → PlacesAre (h.changes ++ Emit e ∷ []) lists (counted_of (emitted h e)) rows
places_kept h rows e lists is off =
    let some = λ (x : PlacedEntry). Some x in
    found_after h.changes (Emit e ∷ []) lists (counted_of h) rows is
    ∙ (is ∙ each_same _ _ 0 rows (λ i w. sym (ap (map some) (emission_counts h e (0 + i) ∙ not_chosen (is_current h (next_entry h e)) (eqb e.prop.0 (0 + i)) _ _ off))))

-- the places after an emission
pub places_settled : (h : History) (rows : List Prop) (e : Entry) (lists settled : List (Vec ℕ)) (d v : Vec ℕ) (b : Bool) → PlacesAre h.changes lists (counted_of h) rows → is_current h (next_entry h e) ≡ b → v.items ≡ with_place h.changes e.emitter.0 (length h.changes + 1) (get_or lists e.prop.0 d).items → settled ≡ cond b (set lists e.prop.0 v) lists → PlacesAre (h.changes ++ Emit e ∷ []) settled (counted_of (emitted h e)) rows
places_settled h rows e lists settled d v true is current new to = subst (λ (ps : List (Vec ℕ)). PlacesAre (h.changes ++ Emit e ∷ []) ps (counted_of (emitted h e)) rows) (sym to) (places_after h rows e lists d v is current new)
places_settled h rows e lists settled d v false is current new to = subst (λ (ps : List (Vec ℕ)). PlacesAre (h.changes ++ Emit e ∷ []) ps (counted_of (emitted h e)) rows) (sym to) (places_kept h rows e lists is current)
