-- The links of calls: each instance at a point is linked to the precondition of the function that is called
-- there.
use Rattle.std.proofs.Common.{◌≡◌, ◌∙◌, ◌==◌, inl, inr, ◌+◌, ℕ, zero, suc, Bool, true, false, List, [], ◌∷◌, ◌++◌, Some, slice_get, refl, ap, sym, subst, arith}
use Rattle.std.proofs.lemmas.Bool.{and_parts, eqb-true, eq-eqb, true≢false}
use Rattle.std.specs.Prelude.{if◌then◌else◌}
use Rattle.by_key.specs.Keys.{numbers_at}
use Rattle.by_key.specs.declared.lists.Keyed.{Keyed}
use Rattle.c_ir.specs.Programs.{Program}
use Rattle.c_ir.specs.declared.prop.Prop.{Prop}
use Rattle.c_runs.specs.Parts.{Has}
use Rattle.c_runs.specs.Visits.{Clause}
use Rattle.prop_table.specs.Points.{calls_at}
use Rattle.prop_table.proofs.Lists.{not_some}
use Rattle.prop_runs.specs.Numbers.{is_call_requires, call_requires_at, number_of, place}
use Rattle.prop_runs.proofs.Standing.{has_left, has_right}
use Rattle.rte_alarms.specs.Links.{count_at, callee_entries, link, links_at, links_from, links_of}
use Rattle.rte_alarms.proofs.Staying.{keyed}

-- ---- counts

abbrev one_if : Bool → ℕ
one_if b = if b then 1 else 0

count_more : (r : ℕ) (xs : List Prop) (y : Prop)
    → count_at r (xs ++ y ∷ []) ≡ count_at r xs + one_if (call_requires_at r y)
count_more r [] y = omega arith
count_more r (x ∷ xs) y = omega (arith, count_more r xs y)

counted : (r : ℕ) (xs : List Prop) (y : Prop) (b : Bool) → call_requires_at r y ≡ b
    → count_at r (xs ++ y ∷ []) ≡ count_at r xs + one_if b
counted r xs y b is = count_more r xs y ∙ ap (λ (c : Bool). count_at r xs + one_if c) is

-- ---- members

if_has : {X : Type 0} (b : Bool) (xs : List X) (x : X) → b ≡ true → Has xs x → Has (if b then xs else []) x
if_has true xs x is h = h
if_has false xs x is h = absurd (true≢false (sym is))

first_number : (m : ℕ) (ns : List ℕ) (b : Bool) → b ≡ true → Has (if b then m ∷ ns else ns) m
first_number m ns true is = inl refl
first_number m ns false is = absurd (true≢false (sym is))

later_number : (i m : ℕ) (ns : List ℕ) (b : Bool) → Has ns m → Has (if b then i ∷ ns else ns) m
later_number i m ns true h = inr h
later_number i m ns false h = h

pub numbers_has : (xs : List Keyed) (n m : ℕ) → Has xs (keyed n m) → Has (numbers_at n xs) m
numbers_has [] n m h = absurd h
numbers_has (x ∷ xs) n m (inl same) =
    subst (λ (y : Keyed). Has (numbers_at n (y ∷ xs)) m) (sym same)
    (first_number m (numbers_at n xs) (n == n) (eq-eqb n n refl))
numbers_has (x ∷ xs) n m (inr h) = later_number x.number m (numbers_at n xs) (x.key == n)
    (numbers_has xs n m h)

link_has : (all : List Prop) (n k q : ℕ) (qs : List ℕ) → Has qs q
    → Has (link all n k qs) (keyed (number_of all (Clause q k)) n)
link_has all n k q [] h = absurd h
link_has all n k q (x ∷ qs) (inl same) = inl (ap (λ (y : ℕ). keyed (number_of all (Clause y k)) n) same)
link_has all n k q (x ∷ qs) (inr h) = inr (link_has all n k q qs h)

-- ---- links, where the statement at point r calls the function whose entry is q

module _ (p : Program) (all : List Prop) (r q : ℕ) (calls : Has (callee_entries p (calls_at p r)) q) where
  -- instance m is linked to clause k
  abbrev linked : ℕ → ℕ → Keyed
  linked k m = keyed (number_of all (Clause q k)) m

  moved : (xs : List Keyed) (a b m n : ℕ) → a ≡ b → m ≡ n → Has xs (linked a m) → Has xs (linked b n)
  moved xs a b m n same too h =
      subst (λ (k : ℕ). Has xs (linked k n)) same (subst (λ (i : ℕ). Has xs (linked a i)) too h)

  own_link : (n k : ℕ) → Has (link all n k (callee_entries p (calls_at p r))) (linked k n)
  own_link n k = link_has all n k q (callee_entries p (calls_at p r)) calls

  link_here : (n : ℕ) (before : List Prop) (y : Prop) → call_requires_at r y ≡ true
      → Has (links_at p all n (count_at y.point.0 before) y) (linked (count_at r before) n)
  link_here n before y passes =
      let point = eqb-true y.point.0 r (and_parts (is_call_requires y.kind) (y.point.0 == r) passes).1 in
      if_has (call_requires_at y.point.0 y)
      (link all n (count_at y.point.0 before) (callee_entries p (calls_at p y.point.0)))
      (linked (count_at r before) n)
      (subst (λ (s : ℕ). call_requires_at s y ≡ true) (sym point) passes)
      (subst (λ (s : ℕ). Has (link all n (count_at s before) (callee_entries p (calls_at p s)))
      (linked (count_at r before) n)) (sym point) (own_link n (count_at r before)))

  -- the j-th instance among these properties
  abbrev Linked : ℕ → List Prop → List Prop → ℕ → Type 0
  Linked n before rs j =
      (row : Prop) → slice_get rs (place (call_requires_at r) rs j) ≡ Some row
      → Has (links_from p all n before rs)
      (linked (count_at r before + j) (n + place (call_requires_at r) rs j))

  in_head : (n : ℕ) (before : List Prop) (y : Prop) (ys : List Prop) (x : Keyed)
      → Has (links_at p all n (count_at y.point.0 before) y) x → Has (links_from p all n before (y ∷ ys)) x
  in_head n before y ys x h =
      has_left (links_at p all n (count_at y.point.0 before) y)
      (links_from p all (n + 1) (before ++ y ∷ []) ys) x h

  in_tail : (n : ℕ) (before : List Prop) (y : Prop) (ys : List Prop) (x : Keyed)
      → Has (links_from p all (n + 1) (before ++ y ∷ []) ys) x → Has (links_from p all n before (y ∷ ys)) x
  in_tail n before y ys x h =
      has_right (links_at p all n (count_at y.point.0 before) y)
      (links_from p all (n + 1) (before ++ y ∷ []) ys) x h

  first_linked : (n : ℕ) (before : List Prop) (y : Prop) (ys : List Prop) (b : Bool) → call_requires_at r y
      ≡ b
      → Linked (n + 1) (before ++ y ∷ []) ys zero → (row : Prop)
      → slice_get (y ∷ ys) (if b then 0 else suc (place (call_requires_at r) ys zero)) ≡ Some row
      → Has (links_from p all n before (y ∷ ys))
      (linked (count_at r before + 0) (n + (if b then 0 else suc (place (call_requires_at r) ys zero))))
  first_linked n before y ys true passes rest row is =
      let k : count_at r before ≡ count_at r before + 0 = omega arith in
      let m : n ≡ n + 0 = omega arith in
      in_head n before y ys _
      (moved (links_at p all n (count_at y.point.0 before) y) (count_at r before) (count_at r before + 0) n
      (n + 0) k m
      (link_here n before y passes))
  first_linked n before y ys false passes rest row is =
      let i = place (call_requires_at r) ys zero in
      let more : count_at r (before ++ y ∷ []) ≡ count_at r before + 0 = counted r before y false passes in
      let k : count_at r (before ++ y ∷ []) + 0 ≡ count_at r before + 0 = omega (arith, more) in
      let m : (n + 1) + i ≡ n + suc i = omega arith in
      in_tail n before y ys _
      (moved (links_from p all (n + 1) (before ++ y ∷ []) ys) (count_at r (before ++ y ∷ []) + 0)
      (count_at r before + 0)
      ((n + 1) + i) (n + suc i) k m (rest row is))

  later_linked : (n : ℕ) (before : List Prop) (y : Prop) (ys : List Prop) (j : ℕ) (b : Bool)
      → call_requires_at r y ≡ b → Linked (n + 1) (before ++ y ∷ []) ys j
      → Linked (n + 1) (before ++ y ∷ []) ys (suc j) → (row : Prop)
      → slice_get (y ∷ ys)
      (if b then suc (place (call_requires_at r) ys j) else suc (place (call_requires_at r) ys (suc j)))
      ≡ Some row
      → Has (links_from p all n before (y ∷ ys)) (linked (count_at r before + suc j)
      (n + (if b then suc (place (call_requires_at r) ys j) else suc
      (place (call_requires_at r) ys (suc j)))))
  later_linked n before y ys j true passes here rest row is =
      let i = place (call_requires_at r) ys j in
      let more : count_at r (before ++ y ∷ []) ≡ count_at r before + 1 = counted r before y true passes in
      let k : count_at r (before ++ y ∷ []) + j ≡ count_at r before + suc j = omega (arith, more) in
      let m : (n + 1) + i ≡ n + suc i = omega arith in
      in_tail n before y ys _
      (moved (links_from p all (n + 1) (before ++ y ∷ []) ys) (count_at r (before ++ y ∷ []) + j)
      (count_at r before + suc j) ((n + 1) + i) (n + suc i) k m (here row is))
  later_linked n before y ys j false passes here rest row is =
      let i = place (call_requires_at r) ys (suc j) in
      let more : count_at r (before ++ y ∷ []) ≡ count_at r before + 0 = counted r before y false passes in
      let k : count_at r (before ++ y ∷ []) + suc j ≡ count_at r before + suc j = omega (arith, more) in
      let m : (n + 1) + i ≡ n + suc i = omega arith in
      in_tail n before y ys _
      (moved (links_from p all (n + 1) (before ++ y ∷ []) ys) (count_at r (before ++ y ∷ []) + suc j)
      (count_at r before + suc j) ((n + 1) + i) (n + suc i) k m (rest row is))

  linked_from : (n : ℕ) (before rs : List Prop) (j : ℕ) → Linked n before rs j
  linked_from n before [] j row is = absurd (not_some row is)
  linked_from n before (y ∷ ys) zero row is =
      first_linked n before y ys (call_requires_at r y) refl
      (linked_from (n + 1) (before ++ y ∷ []) ys zero) row is
  linked_from n before (y ∷ ys) (suc j) row is =
      later_linked n before y ys j (call_requires_at r y) refl (linked_from (n + 1) (before ++ y ∷ []) ys j)
      (linked_from (n + 1) (before ++ y ∷ []) ys (suc j)) row is

-- the k-th instance at the point is linked to the k-th clause of the callee
pub instance_linked : (p : Program) (rows : List Prop) (r q k : ℕ) (row : Prop)
    → Has (callee_entries p (calls_at p r)) q
    → slice_get rows (place (call_requires_at r) rows k) ≡ Some row
    → Has (links_of p rows) (keyed (number_of rows (Clause q k)) (place (call_requires_at r) rows k))
unfolding links_of
instance_linked p rows r q k row calls is =
    let j : 0 + k ≡ k = omega arith in
    let m : 0 + place (call_requires_at r) rows k ≡ place (call_requires_at r) rows k = omega arith in
    moved p rows r q calls (links_from p rows 0 [] rows) (0 + k) k (0 + place (call_requires_at r) rows k)
    (place (call_requires_at r) rows k) j m (linked_from p rows r q calls 0 [] rows k row is)
