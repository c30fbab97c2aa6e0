-- The places of the entries that count.
use Rattle.std.proofs.Common.{◌≡◌, ℕ, ◌+◌, Bool, true, false, cond, List, [], ◌∷◌, ◌++◌, append_assoc, length, map, refl, sym, ap, subst, ◌∙◌, arith, Option, Some}
use Rattle.std.specs.Prelude.{filter}
use Rattle.std.specs.List.{list_any}
use Rattle.std.specs.Global.{Vec}
use Rattle.c_ir.specs.declared.prop.Prop.{Prop}
use Rattle.status_history.specs.declared.history.Change.{Change}
use Rattle.status_history.specs.declared.history.Change.TheVariants.{Register, Param, Emit}
use Rattle.status_history.specs.declared.history.History.{History}
use Rattle.status_rules.specs.Counting.{PlacedEntry, counted_of, current_of, entries_from, entries_of, is_current, is_rival, last_of_each}
use Rattle.status_rules.specs.Holds.{by_prop, is_on}
use Rattle.status_rules.specs.declared.counting.CountedEntry.{CountedEntry}
use Rattle.status_rules.specs.inner.ByProp.{all_entries, placed}
use Rattle.status_rules.proofs.Each.{map-at_each}
use Rattle.status_rows.specs.Places.{PlacesAre, placed_at}
use Rattle.status_rows.specs.inner.Counted.{places_in}
use Rattle.status_rows.proofs.Histories.{each_same, length_more}
use Rattle.status_rows.proofs.Noted.{entry_there}

-- each of these entries is found at its place
abbrev AreFound : List Change → List PlacedEntry → Type 0
AreFound cs [] = Unit {0}
AreFound cs (e ∷ es) = (placed_at cs e.place ≡ Some e) × AreFound cs es

filter_one : (cs : List Change) (e : PlacedEntry) (es : List PlacedEntry) (b : Bool) → placed_at cs e.place ≡ Some e → AreFound cs es → AreFound cs (cond b (e ∷ es) es)
filter_one cs e es true is rest = (is, rest)
filter_one cs e es false is rest = rest

filter_found : (cs : List Change) (test : PlacedEntry → Bool) (es : List PlacedEntry) → AreFound cs es → AreFound cs (filter test es)
filter_found cs test [] all = tt
filter_found cs test (e ∷ es) all = filter_one cs e (filter test es) (test e) all.0 (filter_found cs test es all.1)

last_one : (cs : List Change) (e : PlacedEntry) (es : List PlacedEntry) (b : Bool) → placed_at cs e.place ≡ Some e → AreFound cs es → AreFound cs (cond b es (e ∷ es))
last_one cs e es true is rest = rest
last_one cs e es false is rest = (is, rest)

last_found : (cs : List Change) (es : List PlacedEntry) → AreFound cs es → AreFound cs (last_of_each es)
last_found cs [] all = tt
last_found cs (e ∷ es) all = last_one cs e (last_of_each es) (list_any (is_rival e) es) all.0 (last_found cs es all.1)

entries_found : (pre cs all : List Change) (n : ℕ) → pre ++ cs ≡ all → n ≡ length pre + 1 → AreFound all (entries_from n cs)
entries_found pre [] all n is at = tt
entries_found pre (Register name set ∷ cs) all n is at =
    let c = Register name set in
    entries_found (pre ++ c ∷ []) cs all (n + 1) (append_assoc pre (c ∷ []) cs ∙ is) (let more = length_more pre c in omega (arith, at, more))
entries_found pre (Param m x ∷ cs) all n is at =
    let c = Param m x in
    entries_found (pre ++ c ∷ []) cs all (n + 1) (append_assoc pre (c ∷ []) cs ∙ is) (let more = length_more pre c in omega (arith, at, more))
entries_found pre (Emit e ∷ cs) all n is at =
    let c = Emit e in (
      subst (λ (k : ℕ). placed_at all k ≡ Some (record { place = k; entry = e })) (sym at) (subst (λ (ds : List Change). placed_at ds (length pre + 1) ≡ Some (record { place = length pre + 1; entry = e })) is (entry_there pre e cs)),
      entries_found (pre ++ c ∷ []) cs all (n + 1) (append_assoc pre (c ∷ []) cs ∙ is) (let more = length_more pre c in omega (arith, at, more)),
    )

counted_found : (h : History) → AreFound h.changes (counted_of h)
unfolding counted_of
counted_found h = last_found h.changes (current_of h) (filter_found h.changes (is_current h) (entries_of h) (entries_found [] h.changes h.changes 1 refl refl))

found_list : (cs : List Change) (es : List PlacedEntry) → AreFound cs es → map (placed_at cs) (map (λ e. e.place) es) ≡ map (λ (e : PlacedEntry). Some e) es
found_list cs [] all = refl
found_list cs (e ∷ es) all =
    ap (λ (o : Option PlacedEntry). o ∷ map (placed_at cs) (map (λ x. x.place) es)) all.0
    ∙ ap (λ (os : List (Option PlacedEntry)). Some e ∷ os) (found_list cs es all.1)

map_map : {A B C : Type 0} (f : A → B) (g : B → C) (xs : List A) → map g (map f xs) ≡ map (λ x. g (f x)) xs
map_map f g [] = refl
map_map {A} {B} {C} f g (x ∷ xs) = ap (λ (ys : List C). g (f x) ∷ ys) (map_map f g xs)

same_places : (es : List CountedEntry) → map (λ e. e.place) es ≡ map (λ (e : PlacedEntry). e.place) (map placed es)
same_places [] = refl
same_places (e ∷ es) = ap (λ (ks : List ℕ). e.place ∷ ks) (same_places es)

listed_found : (cs : List Change) (entries : List (Vec CountedEntry)) → map (λ (b : Vec CountedEntry). map (placed_at cs) (places_in b)) entries ≡ map (λ (es : List PlacedEntry). map (placed_at cs) (map (λ (e : PlacedEntry). e.place) es)) (all_entries entries)
listed_found cs [] = refl
listed_found cs (b ∷ entries) =
    ap (λ (ks : List ℕ). map (placed_at cs) ks ∷ map (λ (c : Vec CountedEntry). map (placed_at cs) (places_in c)) entries) (same_places b.items)
    ∙ ap (λ (ls : List (List (Option PlacedEntry))). map (placed_at cs) (map (λ (e : PlacedEntry). e.place) (map placed b.items)) ∷ ls) (listed_found cs entries)

pub recounted : (h : History) (rows : List Prop) (lists : List (Vec ℕ)) (entries : List (Vec CountedEntry)) → map (λ (b : Vec ℕ). b.items) lists ≡ map places_in entries → all_entries entries ≡ by_prop (counted_of h) rows → PlacesAre h.changes lists (counted_of h) rows
recounted h rows lists entries are is =
    let cs = h.changes in
    let at = λ (ks : List ℕ). map (placed_at cs) ks in
    let of = λ (es : List PlacedEntry). at (map (λ (e : PlacedEntry). e.place) es) in
    sym (map_map (λ (b : Vec ℕ). b.items) at lists)
    ∙ (ap (map at) are
    ∙ (map_map places_in at entries
    ∙ (listed_found cs entries
    ∙ (ap (map of) is
    ∙ (map-at_each of (λ p. filter (is_on p) (counted_of h)) 0 rows
    ∙ each_same _ _ 0 rows (λ i w. found_list cs (filter (is_on (0 + i)) (counted_of h)) (filter_found cs (is_on (0 + i)) (counted_of h) (counted_found h))))))))
