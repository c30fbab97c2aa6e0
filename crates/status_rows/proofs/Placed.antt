-- Counted entries by their places.
use Rattle.std.proofs.Common.{◌≡◌, ℕ, zero, suc, ◌+◌, ◌<◌, ◌≤◌, Bool, true, false, List, [], ◌∷◌, length, map, get_or, refl, sym, ap, ◌∙◌, inl, inr, arith, Option, Some}
use Rattle.std.specs.Prelude.{◌||◌, filter, nat_lt}
use Rattle.std.specs.List.{list_any}
use Rattle.std.specs.Global.{Vec}
use Rattle.std.proofs.lemmas.Bool.{both_ways, cases_lt, le-ltb, lt-ltb}
use Rattle.std.proofs.lemmas.List.{get_or-map, get_or_past}
use Rattle.c_ir.specs.declared.prop.Prop.{Prop}
use Rattle.status_history.specs.declared.history.Change.{Change}
use Rattle.status_rules.specs.Counting.{PlacedEntry}
use Rattle.status_rules.specs.Holds.{at_each, by_prop, is_on}
use Rattle.status_rules.specs.Verdicts.{has_entry}
use Rattle.status_rules.proofs.Each.{get_or-at_each, length-at_each}
use Rattle.status_rows.specs.Places.{PlacesAre, any_at, found_at, has_place, placed_at, some_placed}

length_found : (cs : List Change) (buckets : List (Vec ℕ)) → length (found_at cs buckets) ≡ length buckets
length_found cs [] = refl
length_found cs (b ∷ buckets) = ap suc (length_found cs buckets)

pub length_places : (cs : List Change) (buckets : List (Vec ℕ)) (es : List PlacedEntry) (rows : List Prop) → PlacesAre cs buckets es rows → length buckets ≡ length rows
length_places cs buckets es rows is =
    sym (length_found cs buckets) ∙ (ap length is ∙ length-at_each (λ p. map (λ (e : PlacedEntry). Some e) (filter (is_on p) es)) 0 rows)

pub places_at : (cs : List Change) (buckets : List (Vec ℕ)) (es : List PlacedEntry) (rows : List Prop) (p : ℕ) (d : Vec ℕ) → PlacesAre cs buckets es rows → p < length rows → map (placed_at cs) (get_or buckets p d).items ≡ map (λ (e : PlacedEntry). Some e) (filter (is_on p) es)
places_at cs buckets es rows p d is h =
    let view = λ (b : Vec ℕ). map (placed_at cs) b.items in
    let f = λ (q : ℕ). map (λ (e : PlacedEntry). Some e) (filter (is_on q) es) in
    let within : p < length buckets = omega (arith, length_places cs buckets es rows is) in
    let zero_more : 0 + p ≡ p = omega arith in
    sym (get_or-map view buckets p d [] within) ∙ (ap (λ l. get_or l p []) is ∙ (get_or-at_each f 0 rows p [] h ∙ ap f zero_more))

any_map : (test : PlacedEntry → Bool) (cs : List Change) (ks : List ℕ) → any_at test cs ks ≡ list_any (some_placed test) (map (placed_at cs) ks)
any_map test cs [] = refl
any_map test cs (k ∷ ks) = ap (λ b. some_placed test (placed_at cs k) || b) (any_map test cs ks)

any_some : (test : PlacedEntry → Bool) (es : List PlacedEntry) → list_any (some_placed test) (map (λ (e : PlacedEntry). Some e) es) ≡ list_any test es
any_some test [] = refl
any_some test (e ∷ es) = ap (λ b. test e || b) (any_some test es)

pub any_places : (test : PlacedEntry → Bool) (cs : List Change) (ks : List ℕ) (es : List PlacedEntry) → map (placed_at cs) ks ≡ map (λ (e : PlacedEntry). Some e) es → any_at test cs ks ≡ list_any test es
any_places test cs ks es is = any_map test cs ks ∙ (ap (list_any (some_placed test)) is ∙ any_some test es)

abbrev some_of : List (Option PlacedEntry) → Bool
some_of [] = false
some_of (o ∷ os) = true

some_of_places : (cs : List Change) (ks : List ℕ) → has_place ks ≡ some_of (map (placed_at cs) ks)
some_of_places cs [] = refl
some_of_places cs (k ∷ ks) = refl

some_of_entries : (es : List PlacedEntry) → some_of (map (λ (e : PlacedEntry). Some e) es) ≡ has_entry es
some_of_entries [] = refl
some_of_entries (e ∷ es) = refl

pub tried_from : (cs : List Change) (ks : List ℕ) (es : List PlacedEntry) → map (placed_at cs) ks ≡ map (λ (e : PlacedEntry). Some e) es → has_place ks ≡ has_entry es
tried_from cs ks es is = some_of_places cs ks ∙ (ap some_of is ∙ some_of_entries es)

below : (q n : ℕ) → nat_lt q n ≡ true → q < n
below q n h = elim (cases_lt q n) [ inl less ↦ less | inr above ↦ absurd (both_ways (nat_lt q n) (le-ltb q n above) h) ]

not_below : (q n : ℕ) → nat_lt q n ≡ false → n ≤ q
not_below q n h = elim (cases_lt q n) [ inl less ↦ absurd (both_ways (nat_lt q n) h (lt-ltb q n less)) | inr above ↦ above ]

-- at each number, the places found there are those of the entries on the property
lists_at : (cs : List Change) (lists : List (Vec ℕ)) (q : ℕ) (v : Vec ℕ) → q < length lists → v ≡ get_or lists q v → map (placed_at cs) v.items ≡ get_or (found_at cs lists) q []
lists_at cs lists q v h is =
    let view = λ (b : Vec ℕ). map (placed_at cs) b.items in
    ap view is ∙ sym (get_or-map view lists q v [] h)

somes_at : {A : Type 0} (f : ℕ → List PlacedEntry) (n : ℕ) (rows : List A) (q : ℕ) → get_or (at_each (λ p. map (λ (e : PlacedEntry). Some e) (f p)) n rows) q [] ≡ map (λ (e : PlacedEntry). Some e) (get_or (at_each f n rows) q [])
somes_at f n [] q = refl
somes_at f n (r ∷ rows) zero = refl
somes_at f n (r ∷ rows) (suc q) = somes_at f (n + 1) rows q

-- in the list of a property
pub on_list : (cs : List Change) (lists : List (Vec ℕ)) (es : List PlacedEntry) (rows : List Prop) (q : ℕ) (v : Vec ℕ) → PlacesAre cs lists es rows → nat_lt q (length lists) ≡ true → v ≡ get_or lists q v → map (placed_at cs) v.items ≡ map (λ (e : PlacedEntry). Some e) (get_or (by_prop es rows) q [])
on_list cs lists es rows q v is h at =
    lists_at cs lists q v (below q (length lists) h) at ∙ (ap (λ l. get_or l q []) is ∙ somes_at (λ p. filter (is_on p) es) 0 rows q)

-- where there is no list, there is no entry
pub on_none : (cs : List Change) (lists : List (Vec ℕ)) (es : List PlacedEntry) (rows : List Prop) (q : ℕ) → PlacesAre cs lists es rows → nat_lt q (length lists) ≡ false → [] ≡ map (λ (e : PlacedEntry). Some e) (get_or (by_prop es rows) q [])
on_none cs lists es rows q is off =
    let past = not_below q (length lists) off in
    let f = λ (p : ℕ). filter (is_on p) es in
    let len = length_places cs lists es rows is in
    sym (ap (map (λ (e : PlacedEntry). Some e)) (get_or_past (at_each f 0 rows) q [] (omega (arith, past, len, length-at_each f 0 rows))))
