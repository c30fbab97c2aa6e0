-- Checks as tests: a test comes out as the fact on numbers; and where a visited check has a site.
use Rattle.std.proofs.Common.{◌≡◌, ◌≢◌, ◌↔◌, ◌&&◌, ◌+ℤ◌, ◌-ℤ◌, ◌*ℤ◌, ◌≤ℤ◌, ◌<ℤ◌, ℕ, ℤ, pos, negsuc, int_le, int_lt, Bool, true, false, not, Option, Some, None, is_some, refl, sym, ap, subst, ◌∙◌, arith}
use Rattle.std.proofs.lemmas.Int.{ints}
use Rattle.std.proofs.lemmas.Bool.{and_parts, and_from, false≢true, true≢false}
use Rattle.fc_base.specs.declared.ids.SiteId.{SiteId}
use Rattle.fc_base.specs.declared.relation.Relation.{Relation}
use Rattle.fc_base.specs.declared.relation.Relation.TheVariants as R
use Rattle.fc_base.specs.declared.syntax.BinaryOp.{BinaryOp}
use Rattle.fc_base.specs.declared.syntax.BinaryOp.TheVariants as B
use Rattle.machine_ints.specs.Operators.{IsWithin, Passes, PassesIf, first_check, second_check, is_visited, is_visited_if, may_end, ends_run, shl_of}
use Rattle.machine_ints.specs.declared.operators.Check.{Check}
use Rattle.machine_ints.specs.declared.operators.Check.TheVariants.{Division, Overflow, Shift}
use Rattle.machine_ints.specs.declared.operators.Operator.{Operator}
use Rattle.machine_ints.specs.declared.operators.Operator.TheVariants as O
use Rattle.c_ir.specs.Checks.{binary_checks}
use Rattle.c_ir.specs.Formed.{has_site}
use Rattle.c_ir.specs.Types.{least}
use Rattle.c_ir.specs.declared.ty.IntType.{IntType}
use Rattle.c_rules.specs.Constants.{equals, is_among, is_zero, passes_overflow, passes, written}
use Rattle.c_rules.proofs.Evaluations.{true_among}
use Rattle.c_runs.proofs.OperatorValues.{overflow_has, site_needed}
use Rattle.c_runs.proofs.PassedChecks.{check_passed}
use Rattle.c_runs.specs.Truth.{relates}
use Rattle.abs_cells.specs.Laws.{Relates}
use Rattle.abs_cells.specs.Relations.{opposite_of}

-- ---- tests

among_true : (lo hi z : ℤ) → IsWithin lo hi z → is_among lo hi z ≡ true
among_true lo hi z (l, h) = and_from (int_le lo z) (int_le z hi) (sym (omega (arith, ints))) (sym (omega (arith, ints)))

pub among : (lo hi z : ℤ) → IsWithin lo hi z ↔ (is_among lo hi z ≡ true)
among lo hi z = (among_true lo hi z, true_among lo hi z)

equals_true : (x y : ℤ) → x ≡ y → equals x y ≡ true
equals_true x y e = and_from (int_le x y) (int_le y x) (sym (omega (arith, ints))) (sym (omega (arith, ints)))

pub true_equals : (x y : ℤ) → equals x y ≡ true → x ≡ y
true_equals x y t = let p = and_parts (int_le x y) (int_le y x) t in let l = p.0 in let h = p.1 in omega (arith, ints)

not_from : (b : Bool) → (b ≡ true → ⊥) → not b ≡ true
not_from true n = absurd (n refl)
not_from false n = refl

quotient_passes : (lo x y : ℤ) → (x ≡ lo → y ≢ negsuc 0) → not (equals x lo && equals y (negsuc 0)) ≡ true
quotient_passes lo x y h = not_from (equals x lo && equals y (negsuc 0))
    (λ e. let t = and_parts (equals x lo) (equals y (negsuc 0)) e in
    h (true_equals x lo t.0) (true_equals y (negsuc 0) t.1))

overflow_passes : (op : Operator) (lo hi : ℤ) (w : ℕ) (x y : ℤ) → Passes Overflow op lo hi w x y
    → passes_overflow op lo hi x y ≡ true
overflow_passes O.Add lo hi w x y h = among_true lo hi (x +ℤ y) h
overflow_passes O.Sub lo hi w x y h = among_true lo hi (x -ℤ y) h
overflow_passes O.Mul lo hi w x y h = among_true lo hi (x *ℤ y) h
overflow_passes O.Div lo hi w x y h = quotient_passes lo x y h
overflow_passes O.Rem lo hi w x y h = quotient_passes lo x y h
overflow_passes O.Shl lo hi w x y h = let p = h.0 in let q = h.1 in
    and_from (int_le (pos 0) x) (int_le (shl_of x y) hi) (sym (omega (arith, ints))) (sym (omega (arith, ints)))
overflow_passes O.Shr lo hi w x y h = refl
overflow_passes O.And lo hi w x y h = refl
overflow_passes O.Or lo hi w x y h = refl
overflow_passes O.Xor lo hi w x y h = refl

check_passes : (t : Check) (op : Operator) (lo hi : ℤ) (w : ℕ) (x y : ℤ) → Passes t op lo hi w x y
    → passes t op lo hi w x y ≡ true
check_passes Division op lo hi w x y h = not_from (is_zero y) (λ e. h (true_equals y (pos 0) e))
check_passes Overflow op lo hi w x y h = overflow_passes op lo hi w x y h
check_passes Shift op lo hi w x y h = let p = h.0 in let q = h.1 in
    and_from (int_le (pos 0) y) (int_lt y (pos w)) (sym (omega (arith, ints))) (sym (omega (arith, ints)))

pub as_test : (t : Check) (op : Operator) (lo hi : ℤ) (w : ℕ) (x y : ℤ)
    → Passes t op lo hi w x y ↔ (passes t op lo hi w x y ≡ true)
as_test t op lo hi w x y = (check_passes t op lo hi w x y, check_passed t op lo hi w x y)

-- ---- sites

-- an operator whose check ends a run has a site
pub visited_ends : (t : Check) (lo : ℤ) (overflow : Bool) → is_visited lo overflow t ≡ true
    → may_end lo overflow (Some t) ≡ true
visited_ends Division lo overflow is = refl
visited_ends Overflow lo overflow is = and_from (is_visited lo overflow Overflow) (ends_run Overflow) is refl
visited_ends Shift lo overflow is = refl

module _ (site : Option SiteId) (overflow : Bool) (ty : IntType) where
  pub first_site : (op : Operator) → has_site site (binary_checks (written op) ty) ≡ true
      → is_visited_if (least ty) overflow (first_check op) ≡ true → is_some site ≡ true
  unfolding binary_checks
  first_site O.Add has is = site_needed site _ has (overflow_has ty overflow (visited_ends Overflow (least ty) overflow is))
  first_site O.Sub has is = site_needed site _ has (overflow_has ty overflow (visited_ends Overflow (least ty) overflow is))
  first_site O.Mul has is = site_needed site _ has (overflow_has ty overflow (visited_ends Overflow (least ty) overflow is))
  first_site O.Div has is = site_needed site _ has refl
  first_site O.Rem has is = site_needed site _ has refl
  first_site O.Shl has is = site_needed site _ has refl
  first_site O.Shr has is = site_needed site _ has refl
  first_site O.And has is = absurd (false≢true is)
  first_site O.Or has is = absurd (false≢true is)
  first_site O.Xor has is = absurd (false≢true is)

  pub second_site : (op : Operator) → has_site site (binary_checks (written op) ty) ≡ true
      → is_visited_if (least ty) overflow (second_check op) ≡ true → is_some site ≡ true
  unfolding binary_checks
  second_site O.Add has is = absurd (false≢true is)
  second_site O.Sub has is = absurd (false≢true is)
  second_site O.Mul has is = absurd (false≢true is)
  second_site O.Div has is = site_needed site _ has refl
  second_site O.Rem has is = site_needed site _ has refl
  second_site O.Shl has is = site_needed site _ has refl
  second_site O.Shr has is = absurd (false≢true is)
  second_site O.And has is = absurd (false≢true is)
  second_site O.Or has is = absurd (false≢true is)
  second_site O.Xor has is = absurd (false≢true is)

-- ---- relations

pub relates_true : (r : Relation) (x y : ℤ) → relates r x y ≡ true → Relates r x y
relates_true R.Less x y e = omega (arith, ints)
relates_true R.LessEq x y e = omega (arith, ints)
relates_true R.Greater x y e = omega (arith, ints)
relates_true R.GreaterEq x y e = omega (arith, ints)
relates_true R.Equal x y e = true_equals x y e
relates_true R.NotEqual x y e = λ same. flipped (equals x y) e (equals_true x y same)
  where
    flipped : (b : Bool) → not b ≡ true → b ≡ true → ⊥
    flipped true e f = false≢true e
    flipped false e f = false≢true f

pub relates_false : (r : Relation) (x y : ℤ) → relates r x y ≡ false → Relates (opposite_of r) x y
relates_false R.Less x y e = omega (arith, ints)
relates_false R.LessEq x y e = omega (arith, ints)
relates_false R.Greater x y e = omega (arith, ints)
relates_false R.GreaterEq x y e = omega (arith, ints)
relates_false R.Equal x y e = λ same. true≢false (sym (equals_true x y same) ∙ e)
relates_false R.NotEqual x y e = true_equals x y (flipped (equals x y) e)
  where
    flipped : (b : Bool) → not b ≡ false → b ≡ true
    flipped true e = refl
    flipped false e = absurd (true≢false e)

true_relates : (r : Relation) (x y : ℤ) → Relates r x y → relates r x y ≡ true
true_relates R.Less x y h = sym (omega (arith, ints))
true_relates R.LessEq x y h = sym (omega (arith, ints))
true_relates R.Greater x y h = sym (omega (arith, ints))
true_relates R.GreaterEq x y h = sym (omega (arith, ints))
true_relates R.Equal x y h = equals_true x y h
true_relates R.NotEqual x y h = not_from (equals x y) (λ e. h (true_equals x y e))

pub relates_as : (r : Relation) (x y : ℤ) → Relates r x y ↔ (relates r x y ≡ true)
relates_as r x y = (true_relates r x y, relates_true r x y)
