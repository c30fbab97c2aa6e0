-- The links of calls by the lists of each point are those that are said.
use Rattle.std.proofs.Common.{◌≡◌, ◌∙◌, ◌+◌, ◌<◌, ◌≤◌, ◌==◌, ◌&&◌, ℕ, zero, suc, Bool, true, false, List, [], ◌∷◌, ◌++◌, length, refl, ap, ap₂, sym, subst, arith}
use Rattle.std.proofs.lemmas.Grind.{common_steps}
use Rattle.std.specs.Prelude.{Option, Some, None, get_or, set, replicate, slice_get, if◌then◌else◌}
use Rattle.std.proofs.lemmas.Option.{slice_get_within}
use Rattle.by_key.specs.Keys.{Groups, numbers_at}
use Rattle.by_key.specs.declared.lists.Keyed.{Keyed}
use Rattle.c_ir.specs.Keeps.{Keeps}
use Rattle.c_ir.specs.Programs.{Program}
use Rattle.c_ir.specs.declared.prop.Prop.{Prop}
use Rattle.c_ir.specs.declared.tree.Fun.{Fun}
use Rattle.c_ir.specs.declared.tree.PointInfo.{PointInfo}
use Rattle.c_runs.specs.Visits.{Clause}
use Rattle.prop_runs.specs.Numbers.{is_clause, is_call_requires, clause_at, call_requires_at, place, number_of}
use Rattle.prop_table.specs.Points.{is_requires, noted_calls, calls_at}
use Rattle.prop_table.specs.Rows.{Row, fns_rows, prop_of, numbered, rows_of}
use Rattle.prop_table.proofs.Lists.{Each, from_all}
use Rattle.prop_table.proofs.Owning.{entry_owned}
use Rattle.prop_table.proofs.Places.{InFns, fns_fit}
use Rattle.rte_alarms.specs.Entries.{link_entry, link_entries, links_said}
use Rattle.rte_alarms.specs.Links.{count_at, entry_in, callee_entries, link, links_at, links_from, links_of}
use Rattle.rte_alarms.specs.inner.Links.{clause_rows, clause_by, IsLists, counted, entry_if, link_to, links_to, row_links, links_by, entries_by}
use Rattle.rte_alarms.specs.declared.links.Lists.{Lists}
use Rattle.status_history.specs.declared.history.Entry.{Entry}

-- ---- the number of a clause

-- the place of the one before which k others pass, where the first passes or not
abbrev place_one : Bool → (ℕ → ℕ) → ℕ → ℕ
place_one b rest zero = if b then 0 else suc (rest zero)
place_one b rest (suc k) = if b then suc (rest k) else suc (rest (suc k))

place_is : (test : Prop → Bool) (x : Prop) (xs : List Prop) (k : ℕ) → place test (x ∷ xs) k
    ≡ place_one (test x) (place test xs) k
place_is test x xs zero = refl
place_is test x xs (suc k) = refl

-- with the number of a property at its point, if it is of a clause
abbrev numbers_if : Bool → Bool → ℕ → List ℕ → List ℕ
numbers_if a b id ns = if a then (if b then id ∷ ns else ns) else ns

numbers_row : (a : Bool) (key q id : ℕ) (ms : List Keyed)
    → numbers_at q ((if a then record { key = key; number = id } ∷ [] else []) ++ ms)
    ≡ numbers_if a (key == q) id (numbers_at q ms)
numbers_row true key q id ms = refl
numbers_row false key q id ms = refl

place_row : (a b : Bool) (id t k : ℕ) (ns : List ℕ) (rest : ℕ → ℕ)
    → ((j : ℕ) → get_or ns j t ≡ (id + 1) + rest j) → get_or (numbers_if a b id ns) k t
    ≡ id + place_one (a && b) rest k
place_row true true id t zero ns rest h = omega arith
place_row true true id t (suc k) ns rest h = omega (arith, h k)
place_row true false id t zero ns rest h = omega (arith, h 0)
place_row true false id t (suc k) ns rest h = omega (arith, h (suc k))
place_row false b id t zero ns rest h = omega (arith, h 0)
place_row false b id t (suc k) ns rest h = omega (arith, h (suc k))

clause_place : (q id t : ℕ) (rs : List Row) (k : ℕ) → t ≡ id + length rs
    → get_or (numbers_at q (clause_rows (numbered id rs))) k t ≡ id + place (clause_at q) (numbered id rs) k
clause_place q id t [] k e = e
clause_place q id t (r ∷ rs) k e =
    let x = prop_of id r in
    let rest = place (clause_at q) (numbered (id + 1) rs) in
    ap (λ (ns : List ℕ). get_or ns k t)
    (numbers_row (is_clause x.kind) x.point.0 q id (clause_rows (numbered (id + 1) rs)))
    ∙ place_row (is_clause x.kind) (x.point.0 == q) id t k _ rest
    (λ j. clause_place q (id + 1) t rs j (omega (arith, e)))
    ∙ ap (λ n. id + n) (sym (place_is (clause_at q) x (numbered (id + 1) rs) k))

length-numbered : (id : ℕ) (rs : List Row) → length (numbered id rs) ≡ length rs
length-numbered id [] = refl
length-numbered id (r ∷ rs) = omega (arith, length-numbered (id + 1) rs)

clause_number : (p : Program) (lists : Lists) (q k : ℕ) → IsLists p (rows_of p) lists → q < length p.points
    → clause_by lists (length (rows_of p)) q k ≡ number_of (rows_of p) (Clause q k)
unfolding rows_of
clause_number p lists q k is h =
    let rs = fns_rows p 0 p.fns in
    let t = length (numbered 0 rs) in
    ap (λ (ns : List ℕ). get_or ns k t) (is.clauses.at q h)
    ∙ clause_place q 0 t rs k (omega (arith, length-numbered 0 rs))
    ∙ omega arith

-- ---- callees

entry_below : (p : Program) (g : ℕ) (f : Fun) (o : Option PointInfo) → Keeps p → slice_get p.fns g ≡ Some f
    → slice_get p.points f.entry.0 ≡ o → f.entry.0 < length p.points
entry_below p g f None keeps is at = absurd (entry_owned p g f None keeps is at)
entry_below p g f (Some i) keeps is at = slice_get_within p.points f.entry.0 i at

entry_link : (p : Program) (lists : Lists) (n k g : ℕ) (o : Option Fun) → Keeps p
    → IsLists p (rows_of p) lists
    → slice_get p.fns g ≡ o → link_to lists (length (rows_of p)) n k (entry_if o)
    ≡ link (rows_of p) n k (entry_in o)
entry_link p lists n k g None keeps is e = refl
entry_link p lists n k g (Some f) keeps is e =
    ap (λ (key : ℕ). record { key = key; number = n } ∷ [])
    (clause_number p lists f.entry.0 k is (entry_below p g f _ keeps e refl))

link_append : (rs : List Prop) (n k : ℕ) (xs ys : List ℕ)
    → link rs n k (xs ++ ys) ≡ link rs n k xs ++ link rs n k ys
link_append rs n k [] ys = refl
link_append rs n k (x ∷ xs) ys =
    ap (λ (ms : List Keyed). record { key = number_of rs (Clause x k); number = n } ∷ ms)
    (link_append rs n k xs ys)

callee_links : (p : Program) (lists : Lists) (n k : ℕ) (gs : List ℕ) → Keeps p → IsLists p (rows_of p) lists
    → links_to p lists (length (rows_of p)) n k gs ≡ link (rows_of p) n k (callee_entries p gs)
callee_links p lists n k [] keeps is = refl
callee_links p lists n k (g ∷ gs) keeps is =
    ap₂ (λ (ms ns : List Keyed). ms ++ ns) (entry_link p lists n k g (slice_get p.fns g) keeps is refl)
    (callee_links p lists n k gs keeps is)
    ∙ sym (link_append (rows_of p) n k (entry_in (slice_get p.fns g)) (callee_entries p gs))

-- ---- counts

abbrev one_if : Bool → ℕ
one_if b = if b then 1 else 0

-- the counts are those of these properties
record IsCounted (n : ℕ) (counts : List ℕ) (before : List Prop) : Type 0 where
  few : length counts ≡ n
  at : (q : ℕ) → q < n → get_or counts q 0 ≡ count_at q before

count_more : (q : ℕ) (before : List Prop) (r : Prop) → count_at q (before ++ r ∷ [])
    ≡ count_at q before + one_if (call_requires_at q r)
count_more q [] r = omega arith
count_more q (x ∷ xs) r = omega (arith, count_more q xs r)

set_count : (counts : List ℕ) (i q : ℕ) → i < length counts
    → get_or (set counts i (get_or counts i 0 + 1)) q 0 ≡ get_or counts q 0 + one_if (i == q)
set_count counts i q h = grind (arith, common_steps)

set_if : (a : Bool) (counts : List ℕ) (i q : ℕ) → i < length counts
    → get_or (if a then set counts i (get_or counts i 0 + 1) else counts) q 0
    ≡ get_or counts q 0 + one_if (a && (i == q))
set_if true counts i q h = set_count counts i q h
set_if false counts i q h = omega arith

length-set_if : (a : Bool) (counts : List ℕ) (i n : ℕ) → length (if a then set counts i n else counts)
    ≡ length counts
length-set_if true counts i n = grind (arith, common_steps)
length-set_if false counts i n = refl

counted_more : (n : ℕ) (counts : List ℕ) (before : List Prop) (r : Prop) → r.point.0 < n
    → IsCounted n counts before → IsCounted n (counted counts r) (before ++ r ∷ [])
counted_more n counts before r h is = record {
  few = length-set_if (is_call_requires r.kind) counts r.point.0 _ ∙ is.few;
  at = λ q below. set_if (is_call_requires r.kind) counts r.point.0 q (omega (arith, h, is.few))
      ∙ ap (λ m. m + one_if (call_requires_at q r)) (is.at q below)
      ∙ sym (count_more q before r);
}

abbrev pub zeros : ℕ → List ℕ
zeros n = replicate n 0

zero_counts : (n q : ℕ) → get_or (zeros n) q 0 ≡ 0
zero_counts zero q = refl
zero_counts (suc n) zero = refl
zero_counts (suc n) (suc q) = zero_counts n q

length-zeros : (n : ℕ) → length (zeros n) ≡ n
length-zeros zero = refl
length-zeros (suc n) = omega (arith, length-zeros n)

counted_none : (n : ℕ) → IsCounted n (zeros n) []
counted_none n = record { few = length-zeros n; at = λ q h. zero_counts n q }

-- ---- links

own_point : (b : Bool) (n : ℕ) → b ≡ (b && (n == n))
own_point true n = grind arith
own_point false n = refl

row_point : (p : Program) (m : ℕ) (r : Row) → InFns p m r → r.spot.point < length p.points
row_point p m r h = slice_get_within p.points r.spot.point h.fits.spot.info h.fits.spot.is_info

links_if : (a b : Bool) (xs ys : List Keyed) → a ≡ b → xs ≡ ys → (if a then xs else [])
    ≡ (if b then ys else [])
links_if a b xs ys p q = ap₂ (λ (c : Bool) (zs : List Keyed). if c then zs else []) p q

row_link : (p : Program) (m id : ℕ) (lists : Lists) (counts : List ℕ) (before : List Prop) (r : Row) → Keeps p
    → IsLists p (rows_of p) lists → InFns p m r → IsCounted (length p.points) counts before
    → row_links p lists (length (rows_of p)) counts (prop_of id r)
    ≡ links_at p (rows_of p) id (count_at r.spot.point before) (prop_of id r)
unfolding calls_at
row_link p m id lists counts before r keeps is h counted =
    let q = r.spot.point in
    let below = row_point p m r h in
    links_if _ _ _ _ (own_point (is_call_requires r.claim.kind) q)
    (ap₂ (λ (k : ℕ) (gs : List ℕ). links_to p lists (length (rows_of p)) id k gs) (counted.at q below)
    (is.callees.at q below)
    ∙ callee_links p lists id (count_at q before) (numbers_at q (noted_calls p.fns)) keeps is)

links_same : (p : Program) (m id : ℕ) (lists : Lists) (counts : List ℕ) (before : List Prop) (rs : List Row)
    → Keeps p → IsLists p (rows_of p) lists → Each (InFns p m) rs → IsCounted (length p.points) counts before
    → links_by p lists (length (rows_of p)) counts (numbered id rs)
    ≡ links_from p (rows_of p) id before (numbered id rs)
links_same p m id lists counts before [] keeps is h c = refl
links_same p m id lists counts before (r ∷ rs) keeps is h c =
    let x = prop_of id r in
    ap₂ (λ (ms ns : List Keyed). ms ++ ns) (row_link p m id lists counts before r keeps is h.0 c)
    (links_same p m (id + 1) lists (counted counts x) (before ++ x ∷ []) rs keeps is h.1
    (counted_more (length p.points) counts before x (row_point p m r h.0) c))

all_links : (p : Program) (lists : Lists) → Keeps p → IsLists p (rows_of p) lists
    → links_by p lists (length (rows_of p)) (replicate (length p.points) 0) (rows_of p)
    ≡ links_of p (rows_of p)
unfolding links_of rows_of
all_links p lists keeps is =
    links_same p 0 0 lists (replicate (length p.points) 0) [] (fns_rows p 0 p.fns) keeps is
    (fns_fit p 0 p.fns keeps (from_all p.fns)) (counted_none (length p.points))

-- ---- entries

row_said : (b : Bool) (version n : ℕ) (xs ys : List ℕ) → xs ≡ ys
    → (if b then link_entry version n xs ∷ [] else []) ≡ (if b then link_entry version n ys ∷ [] else [])
row_said b version n xs ys e = ap (λ (zs : List ℕ). if b then link_entry version n zs ∷ [] else []) e

entries_same : (version id total : ℕ) (lists : List (List ℕ)) (links : List Keyed) (rs : List Row)
    → Groups lists total links → id + length rs ≤ total → entries_by version lists (numbered id rs)
    ≡ link_entries version links id (numbered id rs)
entries_same version id total lists links [] g h = refl
entries_same version id total lists links (r ∷ rs) g h =
    ap₂ (λ (xs ys : List Entry). xs ++ ys)
    (row_said (is_requires r.claim.kind) version id _ _ (g.at id (omega (arith, h))))
    (entries_same version (id + 1) total lists links rs g (omega (arith, h)))

said_by : (p : Program) (version : ℕ) (instances : List (List ℕ)) (links : List Keyed)
    → Groups instances (length (rows_of p)) links → entries_by version instances (rows_of p)
    ≡ link_entries version links 0 (rows_of p)
unfolding rows_of
said_by p version instances links g =
    let rs = fns_rows p 0 p.fns in
    entries_same version 0 (length (numbered 0 rs)) instances links rs g (omega (arith, length-numbered 0 rs))

-- the entries of the links of calls, from the lists and from the instances of each precondition
pub said : (p : Program) (version : ℕ) (lists : Lists) (instances : List (List ℕ)) (links : List Keyed)
    → Keeps p → IsLists p (rows_of p) lists
    → links ≡ links_by p lists (length (rows_of p)) (replicate (length p.points) 0) (rows_of p)
    → Groups instances (length (rows_of p)) links
    → entries_by version instances (rows_of p) ≡ links_said p (rows_of p) version
unfolding links_said
said p version lists instances links keeps is e g =
    said_by p version instances links g
    ∙ ap (λ (ms : List Keyed). link_entries version ms 0 (rows_of p)) (e ∙ all_links p lists keeps is)

-- those of a program's property table, where what is computed equals it
pub said_from : (p : Program) (version n : ℕ) (lists : Lists) (instances : List (List ℕ))
    (links ms : List Keyed) (rows : List Prop) → Keeps p → rows ≡ rows_of p → IsLists p rows lists
    → links ≡ links_by p lists (length rows) (replicate (length p.points) 0) rows → ms ≡ links → n
    ≡ length rows → Groups instances n ms
    → entries_by version instances rows ≡ links_said p (rows_of p) version
said_from p version n lists instances links ms rows keeps e is l m k g =
    let of_rows : IsLists p (rows_of p) lists = subst (λ (rs : List Prop). IsLists p rs lists) e is in
    let links_are : links
    ≡ links_by p lists (length (rows_of p)) (replicate (length p.points) 0) (rows_of p) =
    subst (λ (rs : List Prop). links ≡ links_by p lists (length rs) (replicate (length p.points) 0) rs) e l in
    let groups : Groups instances (length (rows_of p)) links =
    subst (λ (i : ℕ). Groups instances i links) (k ∙ ap length e)
    (subst (λ (zs : List Keyed). Groups instances n zs) m g) in
    ap (entries_by version instances) e ∙ said p version lists instances links keeps of_rows links_are groups

-- ---- the loop

pub zeros_low : (n q : ℕ) → get_or (zeros n) q 0 ≤ 0
zeros_low n q = omega (arith, zero_counts n q)

-- no count grows by more than 1
pub counts_grow : (counts : List ℕ) (r : Prop) (n q : ℕ) → ((k : ℕ) → get_or counts k 0 ≤ n)
    → get_or (counted counts r) q 0 ≤ n + 1
counts_grow counts r n q h = grow (is_call_requires r.kind) r.point.0
  where
    grow : (a : Bool) (i : ℕ)
        → get_or (if a then set counts i (get_or counts i 0 + 1) else counts) q 0 ≤ n + 1
    grow true i = let one = h i in let other = h q in grind (arith, common_steps)
    grow false i = omega (arith, h q)
