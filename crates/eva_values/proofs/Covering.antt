-- What is said of a node is right where what is said of its parts is.
use Rattle.std.proofs.Common.{◌≡◌, ◌↔◌, ◌++◌, ◌&&◌, ◌||◌, ◌<◌, ◌+◌, ◌⊎◌, ℕ, zero, suc, ℤ, pos, negsuc, ◌-ℤ◌, ◌≤ℤ◌, int_le, int_lt, unsigned_abs, Bool, true, false, not, cond, List, [], ◌∷◌, Option, Some, None, is_some, refl, sym, ap, subst, ◌∙◌, inl, inr, arith, ⊎_elim}
use Rattle.std.specs.Prelude.{if◌then◌else◌}
use Rattle.std.proofs.lemmas.Int.{ints}
use Rattle.std.proofs.lemmas.Bool.{and_parts, and_from, cond_both, false≢true, true≢false}
use Rattle.std.proofs.lemmas.Option.{none-some, same_Some}
use mathlib.Core.List.{append-nil}
use Rattle.machine_ints.proofs.Choices.{choose}
use Rattle.machine_ints.proofs.Congruences.{multiple_one}
use Rattle.machine_ints.proofs.Results.{typed_are_operands, wrap_kept}
use Rattle.machine_ints.specs.Convert.{bool_of}
use Rattle.machine_ints.specs.Operators.{IsWithin, PassesIf, PassesUnaryIf, exact_unary, first_check, second_check, unary_check, is_visited, is_visited_if, may_end, unary_value, value_of}
use Rattle.machine_ints.specs.Results.{AreOperands, IsRightOperand}
use Rattle.machine_ints.specs.declared.operators.Check.{Check}
use Rattle.machine_ints.specs.declared.operators.Check.TheVariants.{Overflow}
use Rattle.machine_ints.specs.declared.operators.Operator.{Operator}
use Rattle.machine_ints.specs.declared.operators.Operator.TheVariants as O
use Rattle.machine_ints.specs.declared.operators.UnaryOperator.{UnaryOperator}
use Rattle.machine_ints.specs.declared.operators.UnaryOperator.TheVariants.{Negate, Complement}
use Rattle.fc_base.specs.declared.ids.SiteId.{SiteId}
use Rattle.fc_base.specs.declared.relation.Relation.{Relation}
use Rattle.fc_base.specs.declared.relation.Relation.TheVariants as R
use Rattle.c_ir.specs.Types.{greatest, least, same_type, width}
use Rattle.c_ir.specs.declared.kind.AlarmKind.TheVariants as K
use Rattle.c_ir.specs.declared.ty.IntType.{IntType}
use Rattle.c_ir.specs.declared.ty.IntType.TheVariants as T
use Rattle.c_rules.specs.Constants.{brought, converted, is_number, is_zero, passes, truth}
use Rattle.c_rules.proofs.Evaluations.{is_type}
use Rattle.c_rules.proofs.Formed.{same_is}
use Rattle.c_runs.specs.Evaluation.{Course, alarm_of, and_then, element, gives, is_index, operated, read, stops, tested, unary_operated, unary_tested, unless}
use Rattle.c_runs.specs.Parts.{IsOf}
use Rattle.c_runs.specs.Truth.{relates}
use Rattle.c_runs.specs.Visits.{Cells}
use Rattle.c_runs.proofs.CourseValues.{at_gives, if_gives, then_gives}
use Rattle.int_interval.proofs.Cover as intervals
use Rattle.int_interval.specs.Rows.{included_row, is_empty}
use Rattle.int_interval.specs.declared.said.Said.{Said}
use Rattle.int_interval.specs.declared.said.Said.TheVariants.{Yes, No, Maybe, Unreached}
use Rattle.int_value.specs.Checks.{equal_row, within_said}
use Rattle.int_value.specs.Covers.{Covered, CoversOperator, CoversUnary, IsUnaryOperand, visit_of}
use Rattle.int_value.specs.Rows.{contains_row, convert_row, empty_of, join_row, number_row, one_of, to_bool_row, type_range}
use Rattle.int_value.specs.Standing.{Holds, IsMark, IsRight, Stands}
use Rattle.int_value.specs.declared.made.Made.{Made}
use Rattle.int_value.specs.declared.value.Value.{Value}
use Rattle.int_value.proofs.Checked.{neg_covers, invert_covers, add_covers, sub_covers, mul_covers, div_covers, rem_covers, shl_covers, shr_covers, and_covers as bit_and_covers, or_covers as bit_or_covers, xor_covers}
use Rattle.int_value.proofs.Cover.{bool_covers, contains_member, conversion_covers, join_upper, not_empty, number_covers, relations_right, within_right}
use Rattle.abs_cells.specs.Cells.{Env, element_of, join_env, value_at, value_in}
use Rattle.abs_cells.specs.Laws.{In, Names, Relates, StandFor}
use Rattle.abs_cells.specs.Relations.{opposite_of, relation_said}
use Rattle.abs_cells.specs.declared.narrowing.Side.{Side}
use Rattle.abs_cells.proofs.Keeping.{element_stands, join_keeps, relation_right}
use Rattle.eva_values.specs.Laws.{AllMarked, Covers}
use Rattle.eva_values.specs.Marks.{made_by, made_by_unary, mark_at, mark_check, mark_read, mark_said, marks_made, marks_made_unary, said_of_number}
use Rattle.eva_values.specs.Shapes.{converted_row, shape_of}
use Rattle.eva_values.specs.Values.{Abstract, abstract_of, bits, cast_cell, compared, constant_in, either_joined, env_if, has_other, has_zero, logic_by, logic_narrowed, logic_value, may_be, negated, number_of, related_by, said_value, taken_as, tested as tested_cells, unnamed, zero_side}
use Rattle.eva_values.specs.Values as values
use Rattle.eva_values.specs.declared.seen.SiteMark.{SiteMark}
use Rattle.eva_values.proofs.Marking.{Parts, all_first, all_last, at_marked, compared_covers, if_marked, may_come, one_stands, only_marked, other_there, same_mark, same_right, tested_keeps, then_marked, whole, zero_there}
use Rattle.eva_values.proofs.Passing.{among, as_test, relates_as, relates_false, relates_true}

-- ---- bits

bits_zero : (b : Bool) → Stands (bits true b) (Some (pos 0))
bits_zero true = ((omega (arith, ints), omega (arith, ints)), multiple_one (pos 0 -ℤ pos 0))
bits_zero false = one_stands (pos 0)

bits_one : (b : Bool) → Stands (bits b true) (Some (pos 1))
bits_one true = ((omega (arith, ints), omega (arith, ints)), multiple_one (pos 1 -ℤ pos 0))
bits_one false = one_stands (pos 1)

-- where a flag is set the number is there
pub zero_bit : (a b : Bool) → a ≡ true → Stands (bits a b) (Some (pos 0))
zero_bit true b e = bits_zero b
zero_bit false b e = absurd (false≢true e)

pub one_bit : (a b : Bool) → b ≡ true → Stands (bits a b) (Some (pos 1))
one_bit a true e = bits_one a
one_bit a false e = absurd (false≢true e)

-- what a relation gives
said_stands : (s : Said) (b : Bool) → IsRight s (b ≡ true) → Stands (said_value s) (Some (truth b))
said_stands Yes true h = bits_one false
said_stands Yes false h = absurd (false≢true h)
said_stands No true h = absurd (h refl)
said_stands No false h = bits_zero false
said_stands Maybe true h = bits_one true
said_stands Maybe false h = bits_zero true
said_stands Unreached b h = absurd h

-- a test as a number isn't 0 exactly where it is true
pub truth_zero : (b : Bool) → is_zero (truth b) ≡ not b
truth_zero true = refl
truth_zero false = refl

-- ---- cells of a state

pub in_stands : (e : Env) (c : Cells) (x : ℕ) → In e c → Stands (value_in e x) (c x)
in_stands None c x all = absurd all
in_stands (Some cells) c x all = all x

number_stands : (v : Value) (z : ℤ) → Stands v (Some z) → Stands (number_of v) (Some z)
number_stands v z h = h

said_number : (v : Value) (o : Option ℤ) → Stands v o → IsRight (said_of_number v) (is_some o ≡ true)
said_number v o h = by_flag v.unset (is_empty v.range) refl refl o h
  where
    by_flag : (u e : Bool) → v.unset ≡ u → is_empty v.range ≡ e → (o : Option ℤ) → Stands v o
        → IsRight (if u then (if e then No else Maybe) else (if e then Unreached else Yes)) (is_some o ≡ true)
    by_flag true true f g None h = λ is. false≢true is
    by_flag true true f g (Some z) h = absurd (false≢true (sym (not_empty v.range z h.0) ∙ g))
    by_flag true false f g o h = tt
    by_flag false true f g None h = absurd (false≢true (sym f ∙ h))
    by_flag false true f g (Some z) h = absurd (false≢true (sym (not_empty v.range z h.0) ∙ g))
    by_flag false false f g None h = absurd (false≢true (sym f ∙ h))
    by_flag false false f g (Some z) h = refl

module _ (c : Cells) where
  -- ---- objects

  read_marked : (site : Option SiteId) (checked : Bool) (v : Value) (o : Option ℤ) → (checked ≡ true → is_some site ≡ true)
      → Stands v o → AllMarked (mark_read site checked v) (read site checked o).visits
  read_marked site true v o has h =
      only_marked K.Initialization (is_some o) (record { visits = []; value = o }) site (said_of_number v) (has refl)
      (said_number v o h) tt
  read_marked site false v o has h = tt

  read_gives : (site : Option SiteId) (checked : Bool) (o : Option ℤ) (z : ℤ) → (read site checked o).value ≡ Some z → o ≡ Some z
  read_gives site checked o z is =
      (if_gives (record { visits = []; value = o }) z checked site K.Initialization (is_some o) is).1

  pub cell_covers : (site : Option SiteId) (x : ℕ) (checked : Bool) (e : Env) → (checked ≡ true → is_some site ≡ true)
      → In e c
      → Covers c (values.named_by (Some x) (number_of (value_in e x))) (mark_read site checked (value_in e x))
      (λ taken. (compared (λ e. values.named_by (Some x) (number_of (value_in e x)))
      (λ e. mark_read site checked (value_in e x))).narrowed taken e) (read site checked (c x))
  cell_covers site x checked e has all =
      compared_covers c (λ e. values.named_by (Some x) (number_of (value_in e x))) (λ e. mark_read site checked (value_in e x))
      e (read site checked (c x)) all
      (read_marked site checked (value_in e x) (c x) has (in_stands e c x all))
      (λ z is. let got = read_gives site checked (c x) z is in
      (number_stands (value_in e x) z (subst (Stands (value_in e x)) got (in_stands e c x all)), got))

  pub element_covers : (site : Option SiteId) (first n : ℕ) (i : Abstract) (checked : Bool) (e : Env) (k : Course ℤ)
      → is_some site ≡ true → In e c → Covers c (i.side e) (i.marks e) (λ taken. i.narrowed taken e) k
      → Covers c ((values.element_abstract site first n i checked).side e) ((values.element_abstract site first n i checked).marks e)
      (λ taken. (values.element_abstract site first n i checked).narrowed taken e)
      (and_then k (λ m. and_then (element site first n m) (λ x. read site checked (c x))))
  element_covers site first n i checked e k has all covers =
      compared_covers c (values.element_abstract site first n i checked).side (values.element_abstract site first n i checked).marks e
      (and_then k (λ m. and_then (element site first n m) (λ x. read site checked (c x)))) all
      (then_marked (i.marks e) (mark_at site K.IndexBound (within_said (pos 0) (pos n -ℤ pos 1) index.range) ++ mark_read site checked v)
      k (λ m. and_then (element site first n m) (λ x. read site checked (c x))) covers.marked
      (λ m is. at_index m (covers.value m is)))
      (λ z is.
      let at = then_gives k (λ m. and_then (element site first n m) (λ x. read site checked (c x))) z is in
      let to = then_gives (element site first n at.0) (λ x. read site checked (c x)) z at.2 in
      let inside = (at_gives (gives (first + unsigned_abs at.0)) to.0 site K.IndexBound (is_index n at.0) to.1) in
      let got = read_gives site checked (c to.0) z to.2 in
      let there = stands_at at.0 (covers.value at.0 at.1) (inside.0 has) in
      let place = same_Some (first + unsigned_abs at.0) to.0 inside.1 in
      (number_stands v z (subst (Stands v) got (subst (λ (x : ℕ). Stands v (c x)) place there)), tt))
    where
      index : Value
      index = (i.side e).value

      v : Value
      v = element_of e first n index

      right_index : (m : ℤ) → Stands index (Some m) → IsRight (within_said (pos 0) (pos n -ℤ pos 1) index.range) (is_index n m ≡ true)
      right_index m h =
          same_right (within_said (pos 0) (pos n -ℤ pos 1) index.range) (IsWithin (pos 0) (pos n -ℤ pos 1) m) (is_index n m ≡ true) (
            λ w. let a = w.0 in let b = w.1 in and_from (int_le (pos 0) m) (int_lt m (pos n)) (sym (omega (arith, ints))) (sym (omega (arith, ints))),
            λ t. let p = and_parts (int_le (pos 0) m) (int_lt m (pos n)) t in let a = p.0 in let b = p.1 in (omega (arith, ints), omega (arith, ints)),
          )
          (within_right (pos 0) (pos n -ℤ pos 1) index.range m h.0)

      natural : (m : ℤ) → is_index n m ≡ true → (pos (unsigned_abs m) ≡ m) × (unsigned_abs m < n)
      natural m t = let p = and_parts (int_le (pos 0) m) (int_lt m (pos n)) t in let a = p.0 in let b = p.1 in
          (omega (arith, ints), omega (arith, ints))

      of_cells : (e : Env) → In e c → (m : ℕ) → Stands index (Some (pos m)) → m < n → Stands (element_of e first n index) (c (first + m))
      of_cells None all m h less = absurd all
      of_cells (Some cells) all m h less = element_stands cells first n index c m all h less

      stands_at : (m : ℤ) → Stands index (Some m) → is_index n m ≡ true → Stands v (c (first + unsigned_abs m))
      stands_at m h t = let p = natural m t in
          of_cells e all (unsigned_abs m) (subst (λ (w : ℤ). Stands index (Some w)) (sym p.0) h) p.1

      at_index : (m : ℤ) → Stands index (Some m)
          → AllMarked (mark_at site K.IndexBound (within_said (pos 0) (pos n -ℤ pos 1) index.range) ++ mark_read site checked v)
          (and_then (element site first n m) (λ x. read site checked (c x))).visits
      at_index m h =
          then_marked (mark_at site K.IndexBound (within_said (pos 0) (pos n -ℤ pos 1) index.range)) (mark_read site checked v)
          (element site first n m) (λ x. read site checked (c x))
          (only_marked K.IndexBound (is_index n m) (gives (first + unsigned_abs m)) site
          (within_said (pos 0) (pos n -ℤ pos 1) index.range) has (right_index m h) tt)
          (λ x is.
          let inside = at_gives (gives (first + unsigned_abs m)) x site K.IndexBound (is_index n m) is in
          read_marked site checked v (c x) (λ _. has)
          (subst (λ (x : ℕ). Stands v (c x)) (same_Some (first + unsigned_abs m) x inside.1) (stands_at m h (inside.0 has))))

-- ---- conversions

-- a conversion that keeps a number gives it
kept_by : (ty : IntType) (z : ℤ) → IsOf ty z → converted ty z ≡ z
kept_by ty z of = cond_both (same_type ty T.Bool) (bool_of z) (brought ty z) (λ (w : ℤ). w ≡ z)
    (λ same. bool_kept z (subst (λ (t : IntType). IsOf t z) (same_is ty T.Bool same) of))
    (λ _. wrap_kept (least ty) (pos (greatest ty)) (width ty) (is_type ty) z of)
  where
    bool_kept : (z : ℤ) → IsOf T.Bool z → bool_of z ≡ z
    bool_kept (pos zero) of = refl
    bool_kept (pos (suc zero)) of = refl
    bool_kept (pos (suc (suc n))) of = let h = of.1 in absurd (omega (arith, ints))
    bool_kept (negsuc n) of = let h = of.0 in absurd (omega (arith, ints))

converted_stands : (ty : IntType) (v : Value) (z : ℤ) → Stands v (Some z) → Stands (converted_row ty v) (Some (converted ty z))
converted_stands ty v z h = by_test (same_type ty T.Bool)
  where
    by_test : (b : Bool) → Stands (cond b (to_bool_row v) (convert_row (shape_of ty) v)) (Some (cond b (bool_of z) (brought ty z)))
    by_test true = (bool_covers v).1 z h
    by_test false = (conversion_covers (shape_of ty) v (is_type ty)).1 z h

-- the number of a value that lies within a type is one of it
within_type : (ty : IntType) (v : Value) (z : ℤ) → Stands v (Some z) → included_row v.range (type_range (shape_of ty)) ≡ true
    → IsOf ty z
within_type ty v z h is = intervals.included_holds v.range (type_range (shape_of ty)) z is h.0

cast_named : (c : Cells) (ty : IntType) (s : Side) (z : ℤ) → Stands s.value (Some z) → Names s.cell c z
    → Names (cast_cell ty s) c (converted ty z)
cast_named c ty s z h named = by_test (included_row s.value.range (type_range (shape_of ty))) refl
  where
    by_test : (b : Bool) → included_row s.value.range (type_range (shape_of ty)) ≡ b
        → Names (cond b s.cell None) c (converted ty z)
    by_test true e = subst (λ (w : ℤ). Names s.cell c w) (sym (kept_by ty z (within_type ty s.value z h e))) named
    by_test false e = tt

pub cast_covers : (c : Cells) (ty : IntType) (a : Abstract) (e : Env) (k : Course ℤ) → In e c
    → Covers c (a.side e) (a.marks e) (λ taken. a.narrowed taken e) k
    → Covers c (values.named_by (cast_cell ty (a.side e)) (converted_row ty (a.side e).value)) (a.marks e)
    (λ taken. (compared (λ e. values.named_by (cast_cell ty (a.side e)) (converted_row ty (a.side e).value)) a.marks).narrowed taken e)
    (and_then k (λ x. gives (converted ty x)))
cast_covers c ty a e k all covers =
    compared_covers c (λ e. values.named_by (cast_cell ty (a.side e)) (converted_row ty (a.side e).value)) a.marks e
    (and_then k (λ x. gives (converted ty x))) all
    (subst (λ (ms : List SiteMark). AllMarked ms (and_then k (λ x. gives (converted ty x))).visits) (append-nil (a.marks e))
    (then_marked (a.marks e) [] k (λ x. gives (converted ty x)) covers.marked (λ x is. tt)))
    (λ z is.
    let at = then_gives k (λ x. gives (converted ty x)) z is in
    let same = same_Some (converted ty at.0) z at.2 in (
      subst (λ (w : ℤ). Stands (converted_row ty (a.side e).value) (Some w)) same
          (converted_stands ty (a.side e).value at.0 (covers.value at.0 at.1)),
      subst (λ (w : ℤ). Names (cast_cell ty (a.side e)) c w) same
          (cast_named c ty (a.side e) at.0 (covers.value at.0 at.1) (covers.named at.0 at.1)),
    ))

-- ---- operators with one operand

unary_covers : (op : UnaryOperator) → CoversUnary op (made_by_unary op)
unary_covers Negate = neg_covers
unary_covers Complement = invert_covers

binary_covers : (op : Operator) → CoversOperator op (made_by op)
binary_covers O.Add = add_covers
binary_covers O.Sub = sub_covers
binary_covers O.Mul = mul_covers
binary_covers O.Div = div_covers
binary_covers O.Rem = rem_covers
binary_covers O.Shl = shl_covers
binary_covers O.Shr = shr_covers
binary_covers O.And = bit_and_covers
binary_covers O.Or = bit_or_covers
binary_covers O.Xor = xor_covers

-- ---- operators, by their checks

abbrev pub Visited : Bool → IntType → Option Check → Type 0
Visited overflow ty t = is_visited_if (least ty) overflow t ≡ true

ends_visited : (lo : ℤ) (overflow : Bool) (t : Option Check) → may_end lo overflow t ≡ true
    → is_visited_if lo overflow t ≡ true
ends_visited lo overflow None e = absurd (false≢true e)
ends_visited lo overflow (Some t) e = (and_parts (is_visited lo overflow t) _ e).0

module _ (site : Option SiteId) (overflow : Bool) (ty : IntType) (op : Operator) (x y : ℤ) where
  abbrev Passed : Option Check → Type 0
  Passed t = PassesIf t op (least ty) (pos (greatest ty)) (width ty) x y

  tested_marked : (t : Option Check) (rest : Course ℤ) (ns : List SiteMark) (made : Option Said)
      → (Visited overflow ty t → is_some site ≡ true) → IsMark (is_visited_if (least ty) overflow t) made (Passed t)
      → ((Visited overflow ty t → Passed t) → AllMarked ns rest.visits)
      → AllMarked (mark_check site t made ++ ns) (tested overflow site ty op x y t rest).visits
  tested_marked None rest ns made has mark later = later (λ v. tt)
  tested_marked (Some t) rest ns made has mark later =
      let test = passes t op (least ty) (pos (greatest ty)) (width ty) x y in
      let same = as_test t op (least ty) (pos (greatest ty)) (width ty) x y in
      if_marked ns (alarm_of t) test rest (is_visited (least ty) overflow t) site made has
      (same_mark (is_visited (least ty) overflow t) made (Passed (Some t)) (test ≡ true) same mark)
      (λ passed. later (λ v. same.1 (passed v)))

  tested_gives : (t : Option Check) (rest : Course ℤ) (z : ℤ) → (Visited overflow ty t → is_some site ≡ true)
      → (tested overflow site ty op x y t rest).value ≡ Some z
      → (Visited overflow ty t → Passed t) × (rest.value ≡ Some z)
  tested_gives None rest z has is = (λ v. tt, is)
  tested_gives (Some t) rest z has is =
      let test = passes t op (least ty) (pos (greatest ty)) (width ty) x y in
      let got = if_gives rest z (is_visited (least ty) overflow t) site (alarm_of t) test is in
      (λ v. (as_test t op (least ty) (pos (greatest ty)) (width ty) x y).1 (got.0 v (has v)), got.1)

-- where the first check isn't visited there is no second one
first_known : (overflow : Bool) (ty : IntType) (op : Operator) (x y : ℤ)
    → (Visited overflow ty (first_check op) → PassesIf (first_check op) op (least ty) (pos (greatest ty)) (width ty) x y)
    → (second_check op ≡ None) ⊎ PassesIf (first_check op) op (least ty) (pos (greatest ty)) (width ty) x y
first_known overflow ty O.Add x y h = inl refl
first_known overflow ty O.Sub x y h = inl refl
first_known overflow ty O.Mul x y h = inl refl
first_known overflow ty O.Div x y h = inr (h refl)
first_known overflow ty O.Rem x y h = inr (h refl)
first_known overflow ty O.Shl x y h = inr (h refl)
first_known overflow ty O.Shr x y h = inl refl
first_known overflow ty O.And x y h = inl refl
first_known overflow ty O.Or x y h = inl refl
first_known overflow ty O.Xor x y h = inl refl

-- an operator on numbers of its type: its marks and its value
pub record OperatorCovers (site : Option SiteId) (overflow : Bool) (ty : IntType) (op : Operator) (a b : Value) (x y : ℤ) : Type 0 where
  pub marked : AllMarked (marks_made site op (made_by op (shape_of ty) overflow a b)) (operated overflow site ty op x y).visits
  pub value : (z : ℤ) → (operated overflow site ty op x y).value ≡ Some z
      → Stands (made_by op (shape_of ty) overflow a b).value (Some z)

operated_covers : (site : Option SiteId) (overflow : Bool) (ty : IntType) (op : Operator) (a b : Value) (x y : ℤ)
    → Stands a (Some x) → Stands b (Some y) → IsOf ty x → IsRightOperand op (least ty) (pos (greatest ty)) y
    → (Visited overflow ty (first_check op) → is_some site ≡ true)
    → (Visited overflow ty (second_check op) → is_some site ≡ true)
    → OperatorCovers site overflow ty op a b x y
operated_covers site overflow ty op a b x y h k i j first second = record {
  marked =
      tested_marked site overflow ty op x y (first_check op) rest (mark_check site (second_check op) made.second) made.first first
      covered.first (λ passed. by_second (first_known overflow ty op x y passed));
  value = λ z is.
      let one = tested_gives site overflow ty op x y (first_check op) rest z first is in
      let two = tested_gives site overflow ty op x y (second_check op) (gives v) z second one.1 in
      subst (λ (n : ℤ). Stands made.value (Some n)) (same_Some v z two.1)
      (covered.value (λ ends. one.0 (ends_visited (least ty) overflow (first_check op) ends))
      (λ ends. two.0 (ends_visited (least ty) overflow (second_check op) ends)));
}
  where
    made : Made
    made = made_by op (shape_of ty) overflow a b

    v : ℤ
    v = value_of op (least ty) (width ty) x y

    rest : Course ℤ
    rest = tested overflow site ty op x y (second_check op) (gives v)

    covered : Covered (visit_of (shape_of ty) overflow (first_check op)) (visit_of (shape_of ty) overflow (second_check op))
        (PassesIf (first_check op) op (least ty) (pos (greatest ty)) (width ty) x y)
        (PassesIf (second_check op) op (least ty) (pos (greatest ty)) (width ty) x y) v made
    covered = binary_covers op (shape_of ty) overflow a b x y (is_type ty)
        (typed_are_operands op (least ty) (pos (greatest ty)) x y i j) h k

    by_second : (second_check op ≡ None) ⊎ PassesIf (first_check op) op (least ty) (pos (greatest ty)) (width ty) x y
        → AllMarked (mark_check site (second_check op) made.second) rest.visits
    by_second (inl none) =
        subst (λ (t : Option Check). AllMarked (mark_check site t made.second) (tested overflow site ty op x y t (gives v)).visits)
        (sym none) tt
    by_second (inr passed) =
        subst (λ (ms : List SiteMark). AllMarked ms rest.visits) (append-nil (mark_check site (second_check op) made.second))
        (tested_marked site overflow ty op x y (second_check op) (gives v) [] made.second second (covered.second passed) (λ _. tt))

pub binary_by_covers : (c : Cells) (site : Option SiteId) (overflow : Bool) (ty : IntType) (op : Operator) (a b : Abstract) (e : Env)
    (k l : Course ℤ) → In e c → Covers c (a.side e) (a.marks e) (λ taken. a.narrowed taken e) k
    → Covers c (b.side e) (b.marks e) (λ taken. b.narrowed taken e) l
    → ((x : ℤ) → k.value ≡ Some x → IsOf ty x)
    → ((y : ℤ) → l.value ≡ Some y → IsRightOperand op (least ty) (pos (greatest ty)) y)
    → (Visited overflow ty (first_check op) → is_some site ≡ true)
    → (Visited overflow ty (second_check op) → is_some site ≡ true)
    → Covers c ((values.binary_by overflow site ty op a b).side e) ((values.binary_by overflow site ty op a b).marks e)
    (λ taken. (values.binary_by overflow site ty op a b).narrowed taken e)
    (and_then k (λ x. and_then l (operated overflow site ty op x)))
binary_by_covers c site overflow ty op a b e k l all first second typed right has_first has_second =
    compared_covers c (values.binary_by overflow site ty op a b).side (values.binary_by overflow site ty op a b).marks e
    (and_then k (λ x. and_then l (operated overflow site ty op x))) all
    (then_marked (a.marks e) _ k (λ x. and_then l (operated overflow site ty op x)) first.marked
    (λ x is. then_marked (b.marks e) _ l (operated overflow site ty op x) second.marked (λ y it. (both x y is it).marked)))
    (λ z is.
    let one = then_gives k (λ x. and_then l (operated overflow site ty op x)) z is in
    let two = then_gives l (operated overflow site ty op one.0) z one.2 in
    ((both one.0 two.0 one.1 two.1).value z two.2, tt))
  where
    both : (x y : ℤ) → k.value ≡ Some x → l.value ≡ Some y
        → OperatorCovers site overflow ty op (a.side e).value (b.side e).value x y
    both x y is it = operated_covers site overflow ty op (a.side e).value (b.side e).value x y (first.value x is)
        (second.value y it) (typed x is) (right y it) has_first has_second

-- ---- operators with one operand

pub unary_by_covers : (c : Cells) (site : Option SiteId) (overflow : Bool) (ty : IntType) (op : UnaryOperator) (a : Abstract) (e : Env)
    (k : Course ℤ) → In e c → Covers c (a.side e) (a.marks e) (λ taken. a.narrowed taken e) k
    → ((x : ℤ) → k.value ≡ Some x → IsOf ty x) → (Visited overflow ty (unary_check op) → is_some site ≡ true)
    → Covers c ((values.unary_by overflow site ty op a).side e) ((values.unary_by overflow site ty op a).marks e)
    (λ taken. (values.unary_by overflow site ty op a).narrowed taken e) (and_then k (unary_operated overflow site ty op))
unary_by_covers c site overflow ty op a e k all first typed has =
    compared_covers c (values.unary_by overflow site ty op a).side (values.unary_by overflow site ty op a).marks e
    (and_then k (unary_operated overflow site ty op)) all
    (then_marked (a.marks e) _ k (unary_operated overflow site ty op) first.marked
    (λ x is. marked_by (unary_check op) has x tt (covered x is).first))
    (λ z is.
    let at = then_gives k (unary_operated overflow site ty op) z is in
    let got = gives_by (unary_check op) has at.0 z at.2 in (
      subst (λ (n : ℤ). Stands made.value (Some n)) (same_Some (v at.0) z got.1)
          ((covered at.0 at.1).value (λ ends. got.0 (ends_visited (least ty) overflow (unary_check op) ends)) (λ ends. tt)),
      tt,
    ))
  where
    made : Made
    made = made_by_unary op (shape_of ty) overflow (a.side e).value

    v : ℤ → ℤ
    v x = unary_value op (least ty) (width ty) x

    operand : (op : UnaryOperator) (x : ℤ) → IsOf ty x → IsUnaryOperand op (least ty) (pos (greatest ty)) x
    operand Negate x of = tt
    operand Complement x of = of

    covered : (x : ℤ) → k.value ≡ Some x
        → Covered (visit_of (shape_of ty) overflow (unary_check op)) (visit_of (shape_of ty) overflow None)
        (PassesUnaryIf (unary_check op) op (least ty) (pos (greatest ty)) x) (Unit {0}) (v x) made
    covered x is = unary_covers op (shape_of ty) overflow (a.side e).value x (is_type ty) (operand op x (typed x is)) (first.value x is)

    marked_by : (t : Option Check) → (Visited overflow ty t → is_some site ≡ true) → (x : ℤ)
        → (Unit {0}) → IsMark (is_visited_if (least ty) overflow t) made.first (PassesUnaryIf t op (least ty) (pos (greatest ty)) x)
        → AllMarked (mark_check site t made.first) (unary_tested overflow site ty op x t (gives (v x))).visits
    marked_by None has x keep mark = tt
    marked_by (Some t) has x keep mark =
        let test = is_number ty (exact_unary op x) in
        subst (λ (ms : List SiteMark). AllMarked ms (unary_tested overflow site ty op x (Some t) (gives (v x))).visits)
        (append-nil (mark_said site (alarm_of t) made.first))
        (if_marked [] (alarm_of t) test (gives (v x)) (is_visited (least ty) overflow t) site made.first has
        (same_mark (is_visited (least ty) overflow t) made.first (PassesUnaryIf (Some t) op (least ty) (pos (greatest ty)) x) (test ≡ true)
        (among (least ty) (pos (greatest ty)) (exact_unary op x)) mark) (λ _. tt))

    gives_by : (t : Option Check) → (Visited overflow ty t → is_some site ≡ true) → (x z : ℤ)
        → (unary_tested overflow site ty op x t (gives (v x))).value ≡ Some z
        → (Visited overflow ty t → PassesUnaryIf t op (least ty) (pos (greatest ty)) x) × ((gives (v x)).value ≡ Some z)
    gives_by None has x z is = (λ _. tt, is)
    gives_by (Some t) has x z is =
        let got = if_gives (gives (v x)) z (is_visited (least ty) overflow t) site (alarm_of t) (is_number ty (exact_unary op x)) is in
        (λ v. (among (least ty) (pos (greatest ty)) (exact_unary op x)).1 (got.0 v (has v)), got.1)

-- ---- operators without checks

-- `+`
pub kept_covers : (c : Cells) (a : Abstract) (e : Env) (k : Course ℤ) → In e c
    → Covers c (a.side e) (a.marks e) (λ taken. a.narrowed taken e) k
    → Covers c (unnamed (a.side e).value) (a.marks e)
    (λ taken. (compared (λ e. unnamed (a.side e).value) a.marks).narrowed taken e) (and_then k gives)
kept_covers c a e k all first =
    compared_covers c (λ e. unnamed (a.side e).value) a.marks e (and_then k gives) all
    (subst (λ (ms : List SiteMark). AllMarked ms (and_then k gives).visits) (append-nil (a.marks e))
    (then_marked (a.marks e) [] k gives first.marked (λ x is. tt)))
    (λ z is.
    let at = then_gives k gives z is in
    (subst (λ (n : ℤ). Stands (a.side e).value (Some n)) (same_Some at.0 z at.2) (first.value at.0 at.1), tt))

-- a condition's truth the other way round
turned_round : (taken : Bool) (x : ℤ) → is_zero (truth (is_zero x)) ≡ taken → not (not taken) ≡ not (is_zero x)
turned_round taken x e = twice taken ∙ sym e ∙ truth_zero (is_zero x)
  where
    twice : (b : Bool) → not (not b) ≡ b
    twice true = refl
    twice false = refl

pub negated_covers : (c : Cells) (a : Abstract) (e : Env) (k : Course ℤ) → In e c
    → Covers c (a.side e) (a.marks e) (λ taken. a.narrowed taken e) k
    → Covers c ((negated a).side e) ((negated a).marks e) (λ taken. (negated a).narrowed taken e)
    (and_then k (λ x. gives (truth (is_zero x))))
negated_covers c a e k all first =
    whole c ((negated a).side e) (a.marks e) (λ taken. a.narrowed (not taken) e) (and_then k rest) (record {
      marked = subst (λ (ms : List SiteMark). AllMarked ms (and_then k rest).visits) (append-nil (a.marks e))
          (then_marked (a.marks e) [] k rest first.marked (λ x is. tt));
      value = λ z is. let at = then_gives k rest z is in
          subst (λ (n : ℤ). Stands (said_value said) (Some n)) (same_Some (truth (is_zero at.0)) z at.2)
          (said_stands said (is_zero at.0) (right at.0 (first.value at.0 at.1)));
      named = λ z is. tt;
      left = λ z is b is0. let at = then_gives k rest z is in
          let same = ap is_zero (same_Some (truth (is_zero at.0)) z at.2) in
          subst (λ (t : Bool). In (a.narrowed t e) c) (sym (turned_round b at.0 (same ∙ is0))) (first.left at.0 at.1);
    })
  where
    rest : ℤ → Course ℤ
    rest x = gives (truth (is_zero x))

    is0 : Value
    is0 = one_of (pos 0) false

    said : Said
    said = equal_row (a.side e).value is0

    right : (x : ℤ) → Stands (a.side e).value (Some x) → IsRight said (is_zero x ≡ true)
    right x h = same_right said (x ≡ pos 0) (is_zero x ≡ true) (relates_as R.Equal x (pos 0))
        (relations_right (a.side e).value is0 x (pos 0) h (one_stands (pos 0))).2

-- what two courses gave one after the other
record Both (k l : Course ℤ) (f : ℤ → ℤ → ℤ) (z : ℤ) : Type 0 where
  x : ℤ
  y : ℤ
  left : k.value ≡ Some x
  right : l.value ≡ Some y
  same : f x y ≡ z

-- relations
pub related_covers : (c : Cells) (r : Relation) (a b : Abstract) (e : Env) (k l : Course ℤ) → In e c
    → Covers c (a.side e) (a.marks e) (λ taken. a.narrowed taken e) k
    → Covers c (b.side e) (b.marks e) (λ taken. b.narrowed taken e) l
    → Covers c ((related_by r a b).side e) ((related_by r a b).marks e) (λ taken. (related_by r a b).narrowed taken e)
    (and_then k (λ x. and_then l (λ y. gives (truth (relates r x y)))))
related_covers c r a b e k l all first second =
    whole c ((related_by r a b).side e) ((related_by r a b).marks e) (λ taken. tested_cells r (a.side e) (b.side e) taken e)
    (and_then k (λ x. and_then l (rest x))) (record {
      marked = then_marked (a.marks e) (b.marks e) k (λ x. and_then l (rest x)) first.marked
          (λ x is. subst (λ (ms : List SiteMark). AllMarked ms (and_then l (rest x)).visits) (append-nil (b.marks e))
          (then_marked (b.marks e) [] l (rest x) second.marked (λ y it. tt)));
      value = λ z is. let g = got z is in
          subst (λ (n : ℤ). Stands (said_value said) (Some n)) g.same
          (said_stands said (relates r g.x g.y) (right g.x g.y (first.value g.x g.left) (second.value g.y g.right)));
      named = λ z is. tt;
      left = λ z is t is0. let g = got z is in
          let same = sym (ap is_zero g.same ∙ is0) ∙ truth_zero (relates r g.x g.y) in
          keeps g.x g.y (first.value g.x g.left) (second.value g.y g.right) (first.named g.x g.left) (second.named g.y g.right)
          t (relates r g.x g.y) refl same;
    })
  where
    rest : ℤ → ℤ → Course ℤ
    rest x y = gives (truth (relates r x y))

    said : Said
    said = relation_said r (a.side e).value (b.side e).value

    right : (x y : ℤ) → Stands (a.side e).value (Some x) → Stands (b.side e).value (Some y) → IsRight said (relates r x y ≡ true)
    right x y h m = same_right said (Relates r x y) (relates r x y ≡ true) (relates_as r x y)
        (relation_right r (a.side e).value (b.side e).value x y h m)

    got : (z : ℤ) → (and_then k (λ x. and_then l (rest x))).value ≡ Some z → Both k l (λ x y. truth (relates r x y)) z
    got z is =
        let one = then_gives k (λ x. and_then l (rest x)) z is in
        let two = then_gives l (rest one.0) z one.2 in
        record { x = one.0; y = two.0; left = one.1; right = two.1; same = same_Some (truth (relates r one.0 two.0)) z two.2 }

    keeps : (x y : ℤ) → Stands (a.side e).value (Some x) → Stands (b.side e).value (Some y) → Names (a.side e).cell c x
        → Names (b.side e).cell c y → (t held : Bool) → relates r x y ≡ held → t ≡ not held
        → In (tested_cells r (a.side e) (b.side e) (not t) e) c
    keeps x y h m n o true true is same = absurd (true≢false same)
    keeps x y h m n o true false is same = tested_keeps c r (a.side e) (b.side e) x y false e (relates_false r x y is) h m n o all
    keeps x y h m n o false true is same = tested_keeps c r (a.side e) (b.side e) x y true e (relates_true r x y is) h m n o all
    keeps x y h m n o false false is same = absurd (false≢true same)

-- ---- `&&`, `||` and `?:`

-- what follows where the left operand goes on
module _ (c : Cells) (a b : Abstract) (e : Env) (k l : Course ℤ) (all : In e c)
    (first : Covers c (a.side e) (a.marks e) (λ taken. a.narrowed taken e) k) where
  abbrev rest : ℤ → Course ℤ
  rest y = gives (truth (not (is_zero y)))

  abbrev pub GoesOn : Bool → Type 0
  GoesOn goes = In (a.narrowed goes e) c
      → Covers c (b.side (a.narrowed goes e)) (b.marks (a.narrowed goes e)) (λ taken. b.narrowed taken (a.narrowed goes e)) l

  came : (x : ℤ) → k.value ≡ Some x → (t : Bool) → is_zero x ≡ t → In (a.narrowed (not t) e) c
  came x is t is0 = subst (λ (b : Bool). In (a.narrowed (not b) e) c) is0 (first.left x is)

  rest_marked : (goes : Bool) → Covers c (b.side (a.narrowed goes e)) (b.marks (a.narrowed goes e)) (λ taken. b.narrowed taken (a.narrowed goes e)) l
      → AllMarked (b.marks (a.narrowed goes e)) (and_then l rest).visits
  rest_marked goes second =
      subst (λ (ms : List SiteMark). AllMarked ms (and_then l rest).visits) (append-nil (b.marks (a.narrowed goes e)))
      (then_marked (b.marks (a.narrowed goes e)) [] l rest second.marked (λ y is. tt))

  -- the value and what is left, by the truth of the right operand
  pub record Follows (side : Side) (narrowed : Bool → Env) (z : ℤ) : Type 0 where
    pub value : Stands side.value (Some z)
    pub left : (t : Bool) → is_zero z ≡ t → In (narrowed (not t)) c

  truth_test : (z y : ℤ) → truth (not (is_zero y)) ≡ z → (t : Bool) → is_zero z ≡ t → t ≡ is_zero y
  truth_test z y same t is0 = sym is0 ∙ sym (ap is_zero same) ∙ truth_zero (not (is_zero y)) ∙ twice (is_zero y)
    where
      twice : (b : Bool) → not (not b) ≡ b
      twice true = refl
      twice false = refl

  or_last : (p q : Bool) → q ≡ true → (p || q) ≡ true
  or_last true q e = refl
  or_last false q e = e

  or_first : (p q : Bool) → p ≡ true → (p || q) ≡ true
  or_first true q e = refl
  or_first false q e = absurd (false≢true e)

  -- `&&`
  module _ (goes_on : GoesOn true) where
    abbrev and_side : Side
    and_side = (logic_by true a b).side e

    abbrev and_left : Bool → Env
    and_left taken = logic_narrowed true a b taken e

    and_stopped : (x z : ℤ) → k.value ≡ Some x → is_zero x ≡ true → pos 0 ≡ z → Follows and_side and_left z
    and_stopped x z is is0 same = record {
      value = subst (λ (n : ℤ). Stands and_side.value (Some n)) same
          (zero_bit _ _ (or_first _ _ (zero_there (a.side e).value x (first.value x is) is0)));
      left = λ t it. subst (λ (b : Bool). In (and_left (not b)) c) (ap is_zero same ∙ it)
          ((join_keeps (a.narrowed false e) (b.narrowed false (a.narrowed true e)) c).0 (came x is true is0));
    }

    and_went : (x y z : ℤ) → k.value ≡ Some x → is_zero x ≡ false → l.value ≡ Some y → truth (not (is_zero y)) ≡ z
        → Follows and_side and_left z
    and_went x y z is other it same = by_test (is_zero y) refl
      where
        second : Covers c (b.side (a.narrowed true e)) (b.marks (a.narrowed true e)) (λ taken. b.narrowed taken (a.narrowed true e)) l
        second = goes_on (came x is false other)

        right : (t : Bool) → is_zero y ≡ t → In (b.narrowed (not t) (a.narrowed true e)) c
        right t is0 = subst (λ (b' : Bool). In (b.narrowed (not b') (a.narrowed true e)) c) is0 (second.left y it)

        by_test : (t : Bool) → is_zero y ≡ t → Follows and_side and_left z
        by_test true is0 = record {
          value = subst (λ (n : ℤ). Stands and_side.value (Some n)) (ap (λ (b : Bool). truth (not b)) (sym is0) ∙ same)
              (zero_bit _ _ (or_last _ _ (zero_there (b.side (a.narrowed true e)).value y (second.value y it) is0)));
          left = λ t is'. subst (λ (b : Bool). In (and_left (not b)) c) (sym (truth_test z y same t is' ∙ is0))
              ((join_keeps (a.narrowed false e) (b.narrowed false (a.narrowed true e)) c).1 (right true is0));
        }
        by_test false other' = record {
          value = subst (λ (n : ℤ). Stands and_side.value (Some n)) (ap (λ (b : Bool). truth (not b)) (sym other') ∙ same)
              (one_bit _ _ (other_there (b.side (a.narrowed true e)).value y (second.value y it) other'));
          left = λ t is'. subst (λ (b : Bool). In (and_left (not b)) c) (sym (truth_test z y same t is' ∙ other'))
              (right false other');
        }

    and_follows : (x z : ℤ) → k.value ≡ Some x → (t : Bool) → is_zero x ≡ t
        → (unless (cond t (Some (pos 0)) None) (and_then l rest)).value ≡ Some z → Follows and_side and_left z
    and_follows x z is true is0 gave = and_stopped x z is is0 (same_Some (pos 0) z gave)
    and_follows x z is false other gave =
        let at = then_gives l rest z gave in
        and_went x at.0 z is other at.1 (same_Some (truth (not (is_zero at.0))) z at.2)

    and_marked : (x : ℤ) → k.value ≡ Some x → (t : Bool) → is_zero x ≡ t
        → AllMarked (b.marks (a.narrowed true e)) (unless (cond t (Some (pos 0)) None) (and_then l rest)).visits
    and_marked x is true is0 = tt
    and_marked x is false other = rest_marked true (goes_on (came x is false other))

    abbrev and_course : ℤ → Course ℤ
    and_course x = unless (if is_zero x then Some (pos 0) else None) (and_then l rest)

    pub and_covers : Covers c ((logic_by true a b).side e) ((logic_by true a b).marks e)
        (λ taken. (logic_by true a b).narrowed taken e) (and_then k and_course)
    and_covers = whole c and_side ((logic_by true a b).marks e) and_left (and_then k and_course) (record {
      marked = then_marked (a.marks e) (b.marks (a.narrowed true e)) k and_course first.marked
          (λ x is. and_marked x is (is_zero x) refl);
      value = λ z is. let at = then_gives k and_course z is in (and_follows at.0 z at.1 (is_zero at.0) refl at.2).value;
      named = λ z is. tt;
      left = λ z is. let at = then_gives k and_course z is in (and_follows at.0 z at.1 (is_zero at.0) refl at.2).left;
    })

  -- `||`
  module _ (goes_on : GoesOn false) where
    abbrev or_side : Side
    or_side = (logic_by false a b).side e

    abbrev or_left : Bool → Env
    or_left taken = logic_narrowed false a b taken e

    or_stopped : (x z : ℤ) → k.value ≡ Some x → is_zero x ≡ false → pos 1 ≡ z → Follows or_side or_left z
    or_stopped x z is other same = record {
      value = subst (λ (n : ℤ). Stands or_side.value (Some n)) same
          (one_bit _ _ (or_first _ _ (other_there (a.side e).value x (first.value x is) other)));
      left = λ t it. subst (λ (b : Bool). In (or_left (not b)) c) (ap is_zero same ∙ it)
          ((join_keeps (a.narrowed true e) (b.narrowed true (a.narrowed false e)) c).0 (came x is false other));
    }

    or_went : (x y z : ℤ) → k.value ≡ Some x → is_zero x ≡ true → l.value ≡ Some y → truth (not (is_zero y)) ≡ z
        → Follows or_side or_left z
    or_went x y z is is0 it same = by_test (is_zero y) refl
      where
        second : Covers c (b.side (a.narrowed false e)) (b.marks (a.narrowed false e)) (λ taken. b.narrowed taken (a.narrowed false e)) l
        second = goes_on (came x is true is0)

        right : (t : Bool) → is_zero y ≡ t → In (b.narrowed (not t) (a.narrowed false e)) c
        right t is0 = subst (λ (b' : Bool). In (b.narrowed (not b') (a.narrowed false e)) c) is0 (second.left y it)

        by_test : (t : Bool) → is_zero y ≡ t → Follows or_side or_left z
        by_test true is0' = record {
          value = subst (λ (n : ℤ). Stands or_side.value (Some n)) (ap (λ (b : Bool). truth (not b)) (sym is0') ∙ same)
              (zero_bit _ _ (zero_there (b.side (a.narrowed false e)).value y (second.value y it) is0'));
          left = λ t is'. subst (λ (b : Bool). In (or_left (not b)) c) (sym (truth_test z y same t is' ∙ is0')) (right true is0');
        }
        by_test false other = record {
          value = subst (λ (n : ℤ). Stands or_side.value (Some n)) (ap (λ (b : Bool). truth (not b)) (sym other) ∙ same)
              (one_bit _ _ (or_last _ _ (other_there (b.side (a.narrowed false e)).value y (second.value y it) other)));
          left = λ t is'. subst (λ (b : Bool). In (or_left (not b)) c) (sym (truth_test z y same t is' ∙ other))
              ((join_keeps (a.narrowed true e) (b.narrowed true (a.narrowed false e)) c).1 (right false other));
        }

    or_follows : (x z : ℤ) → k.value ≡ Some x → (t : Bool) → is_zero x ≡ t
        → (unless (cond t None (Some (pos 1))) (and_then l rest)).value ≡ Some z → Follows or_side or_left z
    or_follows x z is true is0 gave =
        let at = then_gives l rest z gave in
        or_went x at.0 z is is0 at.1 (same_Some (truth (not (is_zero at.0))) z at.2)
    or_follows x z is false other gave = or_stopped x z is other (same_Some (pos 1) z gave)

    or_marked : (x : ℤ) → k.value ≡ Some x → (t : Bool) → is_zero x ≡ t
        → AllMarked (b.marks (a.narrowed false e)) (unless (cond t None (Some (pos 1))) (and_then l rest)).visits
    or_marked x is true is0 = rest_marked false (goes_on (came x is true is0))
    or_marked x is false other = tt

    abbrev or_course : ℤ → Course ℤ
    or_course x = unless (if is_zero x then None else Some (pos 1)) (and_then l rest)

    pub or_covers : Covers c ((logic_by false a b).side e) ((logic_by false a b).marks e)
        (λ taken. (logic_by false a b).narrowed taken e) (and_then k or_course)
    or_covers = whole c or_side ((logic_by false a b).marks e) or_left (and_then k or_course) (record {
      marked = then_marked (a.marks e) (b.marks (a.narrowed false e)) k or_course first.marked
          (λ x is. or_marked x is (is_zero x) refl);
      value = λ z is. let at = then_gives k or_course z is in (or_follows at.0 z at.1 (is_zero at.0) refl at.2).value;
      named = λ z is. tt;
      left = λ z is. let at = then_gives k or_course z is in (or_follows at.0 z at.1 (is_zero at.0) refl at.2).left;
    })

-- ---- `?:`, constants and what has no value

pub choice_covers : (c : Cells) (q a b : Abstract) (e : Env) (k la lb : Course ℤ) → In e c
    → Covers c (q.side e) (q.marks e) (λ taken. q.narrowed taken e) k
    → (In (q.narrowed true e) c
    → Covers c (a.side (q.narrowed true e)) (a.marks (q.narrowed true e)) (λ taken. a.narrowed taken (q.narrowed true e)) la)
    → (In (q.narrowed false e) c
    → Covers c (b.side (q.narrowed false e)) (b.marks (q.narrowed false e)) (λ taken. b.narrowed taken (q.narrowed false e)) lb)
    → Covers c (unnamed (join_row (a.side (q.narrowed true e)).value (b.side (q.narrowed false e)).value))
    (q.marks e ++ (a.marks (q.narrowed true e) ++ b.marks (q.narrowed false e)))
    (λ taken. (compared (λ e. unnamed (join_row (a.side (q.narrowed true e)).value (b.side (q.narrowed false e)).value))
    (λ e. q.marks e ++ (a.marks (q.narrowed true e) ++ b.marks (q.narrowed false e)))).narrowed taken e)
    (and_then k (λ x. if is_zero x then lb else la))
choice_covers c q a b e k la lb all first goes_a goes_b =
    compared_covers c (λ e. unnamed (join_row (a.side (q.narrowed true e)).value (b.side (q.narrowed false e)).value))
    (λ e. q.marks e ++ (a.marks (q.narrowed true e) ++ b.marks (q.narrowed false e))) e (and_then k chosen) all
    (then_marked (q.marks e) (am ++ bm) k chosen first.marked (λ x is. marked x is (is_zero x) refl))
    (λ z is. let at = then_gives k chosen z is in (held at.0 z at.1 (is_zero at.0) refl at.2, tt))
  where
    chosen : ℤ → Course ℤ
    chosen x = if is_zero x then lb else la

    am : List SiteMark
    am = a.marks (q.narrowed true e)

    bm : List SiteMark
    bm = b.marks (q.narrowed false e)

    came' : (x : ℤ) → k.value ≡ Some x → (t : Bool) → is_zero x ≡ t → In (q.narrowed (not t) e) c
    came' x is t is0 = subst (λ (b : Bool). In (q.narrowed (not b) e) c) is0 (first.left x is)

    marked : (x : ℤ) → k.value ≡ Some x → (t : Bool) → is_zero x ≡ t → AllMarked (am ++ bm) (cond t lb la).visits
    marked x is true is0 = all_last am bm lb.visits (goes_b (came' x is true is0)).marked
    marked x is false other = all_first am bm la.visits (goes_a (came' x is false other)).marked

    held : (x z : ℤ) → k.value ≡ Some x → (t : Bool) → is_zero x ≡ t → (cond t lb la).value ≡ Some z
        → Stands (join_row (a.side (q.narrowed true e)).value (b.side (q.narrowed false e)).value) (Some z)
    held x z is true is0 gave =
        (join_upper (a.side (q.narrowed true e)).value (b.side (q.narrowed false e)).value (Some z)).1
        ((goes_b (came' x is true is0)).value z gave)
    held x z is false other gave =
        (join_upper (a.side (q.narrowed true e)).value (b.side (q.narrowed false e)).value (Some z)).0
        ((goes_a (came' x is false other)).value z gave)

pub constant_covers : (c : Cells) (v : ℤ) (e : Env) → In e c
    → Covers c (unnamed (constant_in e v)) [] (λ taken. (compared (λ e. unnamed (constant_in e v)) (λ e. [])).narrowed taken e) (gives v)
constant_covers c v e all =
    compared_covers c (λ e. unnamed (constant_in e v)) (λ e. []) e (gives v) all tt
    (λ z is. (subst (λ (n : ℤ). Stands (constant_in e v) (Some n)) (same_Some v z is) (there e all), tt))
  where
    there : (e : Env) → In e c → Stands (constant_in e v) (Some v)
    there None all = absurd all
    there (Some cells) all = (number_covers v).1

pub nothing_covers : (c : Cells) (e : Env) → In e c
    → Covers c (unnamed (empty_of false)) [] (λ taken. (compared (λ e. unnamed (empty_of false)) (λ e. [])).narrowed taken e) stops
nothing_covers c e all =
    compared_covers c (λ e. unnamed (empty_of false)) (λ e. []) e stops all tt (λ z is. absurd (none-some z is))
