-- Operators whose operands are numbers of their types give numbers of theirs.
use Rattle.std.proofs.Common.{◌≡◌, ◌∙◌, ◌&&◌, ℤ, pos, int_lt, Bool, true, false, cond, ap, Option, Some, None, is_some, refl, sym, subst, arith}
use Rattle.std.proofs.lemmas.Int.{ints}
use Rattle.std.proofs.lemmas.Bool.{and_parts, true≢false, cond_both}
use Rattle.std.proofs.lemmas.Option.{none-some, same_Some}
use Rattle.fc_base.specs.declared.ids.SiteId.{SiteId}
use Rattle.fc_base.specs.declared.syntax.BinaryOp.{BinaryOp}
use Rattle.fc_base.specs.declared.syntax.BinaryOp.TheVariants as B
use Rattle.fc_base.specs.declared.syntax.UnaryOp.{UnaryOp}
use Rattle.fc_base.specs.declared.syntax.UnaryOp.TheVariants as U
use Rattle.machine_ints.specs.Convert.{bool_of}
use Rattle.machine_ints.specs.Operators.{PassesIf, exact_unary, first_check, second_check, unary_check, is_visited, may_end, value_of, unary_value}
use Rattle.machine_ints.specs.Results.{IsRightOperand}
use Rattle.machine_ints.specs.declared.operators.Check.{Check}
use Rattle.machine_ints.specs.declared.operators.Check.TheVariants.{Overflow}
use Rattle.machine_ints.specs.declared.operators.Operator.{Operator}
use Rattle.machine_ints.specs.declared.operators.Operator.TheVariants as O
use Rattle.machine_ints.specs.declared.operators.UnaryOperator.{UnaryOperator}
use Rattle.machine_ints.specs.declared.operators.UnaryOperator.TheVariants.{Negate, Complement}
use Rattle.machine_ints.proofs.Results.{value_is_typed, unary_is_typed, wrap_within, bool_is_typed}
use Rattle.c_ir.specs.Checks.{binary_checks, overflow, arithmetic, division}
use Rattle.c_ir.specs.Formed.{same_bool, has_site, unary_types, binary_types, arithmetic_types, relation_types, shift_types}
use Rattle.c_ir.specs.Types.{least, greatest, width, is_signed, same_type}
use Rattle.c_ir.specs.declared.kind.AlarmKind.TheVariants as A
use Rattle.c_ir.specs.declared.tree.Checks.{Checks}
use Rattle.c_ir.specs.declared.ty.IntType.{IntType}
use Rattle.c_ir.specs.declared.ty.IntType.TheVariants as T
use Rattle.c_rules.specs.Constants.{is_number, is_zero, truth, brought, converted, passes, decided, binary_result}
use Rattle.c_runs.specs.Evaluation.{Course, gives, alarm_of, tested, operated, unary_tested, unary_operated, unary, binary}
use Rattle.c_runs.specs.Parts.{IsOf}
use Rattle.c_runs.proofs.CourseValues.{if_gives}
use Rattle.c_rules.proofs.Evaluations.{is_type}
use Rattle.c_rules.proofs.Formed.{same_is}
use Rattle.c_runs.proofs.PassedChecks.{check_passed}

-- ---- numbers of types

pub of_same : (a b : IntType) (z : ℤ) → same_type a b ≡ true → IsOf a z → IsOf b z
of_same a b z same is = subst (λ (t : IntType). IsOf t z) (same_is a b same) is

-- the value that a course gives is of this type
pub of_given : (ty : IntType) (v z : ℤ) → ◌≡◌ {A = Option ℤ} (Some v) (Some z) → IsOf ty v → IsOf ty z
of_given ty v z is of = subst (λ (n : ℤ). IsOf ty n) (same_Some v z is) of

truth_is : (b : Bool) → IsOf T.Int (truth b)
truth_is true = (omega (arith, ints), omega (arith, ints))
truth_is false = (omega (arith, ints), omega (arith, ints))

-- what a relation gives, in a type that is `int`
truth_of : (ty : IntType) (b : Bool) (z : ℤ) → same_type ty T.Int ≡ true → ◌≡◌ {A = Option ℤ} (Some (truth b)) (Some z)
    → IsOf ty z
truth_of ty b z same is =
    of_given ty (truth b) z is (subst (λ (t : IntType). IsOf t (truth b)) (sym (same_is ty T.Int same)) (truth_is b))

-- a conversion gives a number of its type
pub converted_is : (ty : IntType) (z : ℤ) → IsOf ty (converted ty z)
converted_is ty z =
    cond_both (same_type ty T.Bool) (bool_of z) (brought ty z) (λ (v : ℤ). IsOf ty v)
    (λ same. subst (λ (t : IntType). IsOf t (bool_of z)) (sym (same_is ty T.Bool same)) (bool_is_typed z))
    (λ other. wrap_within (least ty) (pos (greatest ty)) (width ty) (is_type ty) z)

-- ---- sites

negated : (b : Bool) → b ≡ true → same_bool false b ≡ false
negated true is = refl
negated false is = sym is

-- where there is a check there is a site
pub site_needed : (site : Option SiteId) (checks : Checks) → has_site site checks ≡ true → is_some checks.first ≡ true
    → is_some site ≡ true
unfolding has_site
site_needed None checks has first = absurd (true≢false (sym has ∙ negated (is_some checks.first) first))
site_needed (Some n) checks has first = refl

signed_least : (ty : IntType) → int_lt (least ty) (pos 0) ≡ is_signed ty
signed_least T.Bool = refl
signed_least T.Char = refl
signed_least T.SignedChar = refl
signed_least T.UnsignedChar = refl
signed_least T.Short = refl
signed_least T.UnsignedShort = refl
signed_least T.Int = refl
signed_least T.UnsignedInt = refl
signed_least T.Long = refl
signed_least T.UnsignedLong = refl
signed_least T.LongLong = refl
signed_least T.UnsignedLongLong = refl

overflow_if : (signed checked : Bool) → ((signed && checked) && true) ≡ true
    → is_some (cond signed (Some A.SignedOverflow) None) ≡ true
overflow_if true checked is = refl
overflow_if false checked is = is

-- where overflow is visited the operator has the check
pub overflow_has : (ty : IntType) (checked : Bool) → may_end (least ty) checked (Some Overflow) ≡ true
    → is_some (overflow ty) ≡ true
overflow_has ty checked is =
    overflow_if (is_signed ty) checked
    (subst (λ (b : Bool). ((b && checked) && true) ≡ true) (signed_least ty) is)

-- ---- operators: whether overflow is checked, and the site

module _ (checked : Bool) (site : Option SiteId) where
  unary_tested_gives : (ty : IntType) (op : UnaryOperator) (x : ℤ) (t : Option Check) (rest : Course ℤ) (z : ℤ)
      → (unary_tested checked site ty op x t rest).value ≡ Some z → rest.value ≡ Some z
  unary_tested_gives ty op x None rest z is = is
  unary_tested_gives ty op x (Some t) rest z is =
      (if_gives rest z (is_visited (least ty) checked t) site (alarm_of t) (is_number ty (exact_unary op x)) is).1

  unary_operated_is : (ty : IntType) (op : UnaryOperator) (x z : ℤ)
      → (unary_operated checked site ty op x).value ≡ Some z → IsOf ty z
  unary_operated_is ty op x z is =
      let value = unary_value op (least ty) (width ty) x in
      let given = unary_tested_gives ty op x (unary_check op) (gives value) z is in
      of_given ty value z given (unary_is_typed op (least ty) (pos (greatest ty)) (width ty) x (is_type ty)).0

  pub unary_is : (op : UnaryOp) (ty of : IntType) (x z : ℤ) → unary_types op ty of ≡ true → IsOf of x
      → (unary checked site ty op x).value ≡ Some z → IsOf ty z
  unfolding unary_types
  unary_is U.Plus ty of x z types i is = of_given ty x z is (of_same of ty x (and_parts _ _ types).0 i)
  unary_is U.Minus ty of x z types i is = unary_operated_is ty Negate x z is
  unary_is U.Not ty of x z types i is = truth_of ty (is_zero x) z types is
  unary_is U.Invert ty of x z types i is = unary_operated_is ty Complement x z is

  -- a check that was visited was passed
  tested_gives : (ty : IntType) (op : Operator) (x y : ℤ) (t : Option Check) (rest : Course ℤ) (z : ℤ)
      → (tested checked site ty op x y t rest).value ≡ Some z
      → (may_end (least ty) checked t ≡ true → is_some site ≡ true
      → PassesIf t op (least ty) (pos (greatest ty)) (width ty) x y)
      × (rest.value ≡ Some z)
  tested_gives ty op x y None rest z is = (λ ends has. tt, is)
  tested_gives ty op x y (Some t) rest z is =
      let lo = least ty in
      let hi = pos (greatest ty) in
      let test = passes t op lo hi (width ty) x y in
      let given = if_gives rest z (is_visited lo checked t) site (alarm_of t) test is in
      (λ ends has. check_passed t op lo hi (width ty) x y (given.0 (and_parts _ _ ends).0 has), given.1)

  operated_is : (ty : IntType) (op : Operator) (x y z : ℤ) → IsOf ty x
      → IsRightOperand op (least ty) (pos (greatest ty)) y
      → (may_end (least ty) checked (first_check op) ≡ true → is_some site ≡ true)
      → (operated checked site ty op x y).value ≡ Some z → IsOf ty z
  operated_is ty op x y z i j needed is =
      let lo = least ty in
      let hi = pos (greatest ty) in
      let value = value_of op lo (width ty) x y in
      let after_first = tested checked site ty op x y (second_check op) (gives value) in
      let first = tested_gives ty op x y (first_check op) after_first z is in
      let second = tested_gives ty op x y (second_check op) (gives value) z first.1 in
      of_given ty value z second.1
      (value_is_typed op lo hi (width ty) checked x y (is_type ty) i j (λ ends. first.0 ends (needed ends))).0

  -- both operands of the result's type
  arithmetic_is : (op : Operator) (ty l r : IntType) (x y z : ℤ) → arithmetic_types ty l r ≡ true
      → IsOf l x → IsOf r y → (IsOf ty y → IsRightOperand op (least ty) (pos (greatest ty)) y)
      → (may_end (least l) checked (first_check op) ≡ true → is_some site ≡ true)
      → (operated checked site ty op x y).value ≡ Some z → IsOf ty z
  arithmetic_is op ty l r x y z types i j right needed is =
      let same = and_parts _ _ (and_parts _ _ types).0 in
      let left = sym (same_is l ty same.0) in
      operated_is ty op x y z (of_same l ty x same.0 i) (right (of_same r ty y same.1 j))
      (λ ends. needed (subst (λ (t : IntType). may_end (least t) checked (first_check op) ≡ true) left ends)) is

  -- the left one of the result's type
  shift_is : (op : Operator) (ty l r : IntType) (x y z : ℤ) → shift_types ty l r ≡ true → IsOf l x
      → IsRightOperand op (least ty) (pos (greatest ty)) y → is_some site ≡ true
      → (operated checked site ty op x y).value ≡ Some z → IsOf ty z
  shift_is op ty l r x y z types i right has is =
      operated_is ty op x y z (of_same l ty x (and_parts _ _ (and_parts _ _ types).0).0 i) right (λ ends. has) is

  -- no check
  bits_is : (op : Operator) (ty l r : IntType) (x y z : ℤ) → first_check op ≡ None → arithmetic_types ty l r ≡ true
      → IsOf l x → IsOf r y → (IsOf ty y → IsRightOperand op (least ty) (pos (greatest ty)) y)
      → (operated checked site ty op x y).value ≡ Some z → IsOf ty z
  bits_is op ty l r x y z none types i j right is =
      arithmetic_is op ty l r x y z types i j right
      (λ ends. absurd (true≢false (sym ends ∙ ap (may_end (least l) checked) none))) is

  -- one check, of overflow
  sum_is : (op : Operator) (ty l r : IntType) (x y z : ℤ) → first_check op ≡ Some Overflow
      → arithmetic_types ty l r ≡ true → has_site site (arithmetic l) ≡ true → IsOf l x → IsOf r y
      → (IsOf ty y → IsRightOperand op (least ty) (pos (greatest ty)) y)
      → (operated checked site ty op x y).value ≡ Some z → IsOf ty z
  sum_is op ty l r x y z first types has i j right is =
      arithmetic_is op ty l r x y z types i j right
      (λ ends. site_needed site (arithmetic l) has
      (overflow_has l checked (subst (λ (t : Option Check). may_end (least l) checked t ≡ true) first ends))) is

  relation_is : (ty l r : IntType) (b : Bool) (z : ℤ) → relation_types ty l r ≡ true
      → ◌≡◌ {A = Option ℤ} (Some (truth b)) (Some z) → IsOf ty z
  relation_is ty l r b z types is = truth_of ty b z (and_parts _ _ types).1 is

  pub binary_is : (op : BinaryOp) (ty l r : IntType) (x y z : ℤ) → binary_types op ty l r ≡ true
      → has_site site (binary_checks op l) ≡ true → IsOf l x → IsOf r y
      → (binary checked site ty op x y).value ≡ Some z → IsOf ty z
  unfolding binary_types binary_checks binary_result
  binary_is B.LogicOr ty l r x y z types has i j is = truth_of ty _ z types is
  binary_is B.LogicAnd ty l r x y z types has i j is = truth_of ty _ z types is
  binary_is B.Or ty l r x y z types has i j is = bits_is O.Or ty l r x y z refl types i j (λ k. k) is
  binary_is B.Xor ty l r x y z types has i j is = bits_is O.Xor ty l r x y z refl types i j (λ k. k) is
  binary_is B.And ty l r x y z types has i j is = bits_is O.And ty l r x y z refl types i j (λ k. k) is
  binary_is B.Equal ty l r x y z types has i j is = relation_is ty l r _ z types is
  binary_is B.NotEqual ty l r x y z types has i j is = relation_is ty l r _ z types is
  binary_is B.Less ty l r x y z types has i j is = relation_is ty l r _ z types is
  binary_is B.Greater ty l r x y z types has i j is = relation_is ty l r _ z types is
  binary_is B.LessEq ty l r x y z types has i j is = relation_is ty l r _ z types is
  binary_is B.GreaterEq ty l r x y z types has i j is = relation_is ty l r _ z types is
  binary_is B.Shl ty l r x y z types has i j is =
      shift_is O.Shl ty l r x y z types i tt (site_needed site (binary_checks B.Shl l) has refl) is
  binary_is B.Shr ty l r x y z types has i j is =
      shift_is O.Shr ty l r x y z types i tt (site_needed site (binary_checks B.Shr l) has refl) is
  binary_is B.Add ty l r x y z types has i j is = sum_is O.Add ty l r x y z refl types has i j (λ k. k) is
  binary_is B.Sub ty l r x y z types has i j is = sum_is O.Sub ty l r x y z refl types has i j (λ k. k) is
  binary_is B.Mul ty l r x y z types has i j is = sum_is O.Mul ty l r x y z refl types has i j (λ k. k) is
  binary_is B.Div ty l r x y z types has i j is =
      arithmetic_is O.Div ty l r x y z types i j (λ k. k) (λ ends. site_needed site (division l) has refl) is
  binary_is B.Rem ty l r x y z types has i j is =
      arithmetic_is O.Rem ty l r x y z types i j (λ k. k) (λ ends. site_needed site (division l) has refl) is

-- ---- what the left operand decides alone

or_decided : (ty : IntType) (b : Bool) (z : ℤ) → same_type ty T.Int ≡ true → cond b None (Some (pos 1)) ≡ Some z
    → IsOf ty z
or_decided ty true z same is = absurd (none-some z is)
or_decided ty false z same is = truth_of ty true z same is

and_decided : (ty : IntType) (b : Bool) (z : ℤ) → same_type ty T.Int ≡ true → cond b (Some (pos 0)) None ≡ Some z
    → IsOf ty z
and_decided ty true z same is = truth_of ty false z same is
and_decided ty false z same is = absurd (none-some z is)

pub decided_is : (op : BinaryOp) (ty l r : IntType) (x z : ℤ) → binary_types op ty l r ≡ true → decided op x ≡ Some z
    → IsOf ty z
unfolding binary_types
decided_is B.LogicOr ty l r x z types is = or_decided ty (is_zero x) z types is
decided_is B.LogicAnd ty l r x z types is = and_decided ty (is_zero x) z types is
decided_is op ty l r x z types is = absurd (none-some z is)
