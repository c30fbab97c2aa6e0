-- Courses that make only visits of one sort, and operators whose checks are of that sort.
use Rattle.std.proofs.Common.{◌≡◌, ◌∙◌, ℤ, Bool, true, false, ◌&&◌, Option, Some, None, refl, ap, sym}
use Rattle.std.proofs.lemmas.Bool.{and_parts, true≢false}
use Rattle.fc_base.specs.declared.ids.SiteId.{SiteId}
use Rattle.fc_base.specs.declared.syntax.BinaryOp.{BinaryOp}
use Rattle.fc_base.specs.declared.syntax.BinaryOp.TheVariants as B
use Rattle.fc_base.specs.declared.syntax.UnaryOp.{UnaryOp}
use Rattle.fc_base.specs.declared.syntax.UnaryOp.TheVariants as U
use Rattle.machine_ints.specs.declared.operators.Check.{Check as Test}
use Rattle.machine_ints.specs.declared.operators.Check.TheVariants.{Overflow}
use Rattle.machine_ints.specs.declared.operators.Operator.{Operator}
use Rattle.machine_ints.specs.declared.operators.Operator.TheVariants as O
use Rattle.machine_ints.specs.declared.operators.UnaryOperator.{UnaryOperator}
use Rattle.machine_ints.specs.declared.operators.UnaryOperator.TheVariants.{Negate}
use Rattle.machine_ints.specs.Operators.{first_check, second_check, is_visited, value_of}
use Rattle.c_ir.specs.declared.kind.AlarmKind.{AlarmKind}
use Rattle.c_ir.specs.declared.kind.AlarmKind.TheVariants as A
use Rattle.c_ir.specs.declared.ty.IntType.{IntType}
use Rattle.c_ir.specs.declared.ty.IntType.TheVariants as T
use Rattle.c_ir.specs.declared.tree.Checks.{Checks}
use Rattle.c_ir.specs.Checks.{unary_checks, binary_checks, overflow as overflow_of}
use Rattle.c_ir.specs.Formed.{binary_types}
use Rattle.c_ir.specs.Types.{least, width, same_type}
use Rattle.c_rules.proofs.Formed.{same_is}
use Rattle.c_runs.specs.Visits.{Check, Visit, visit}
use Rattle.c_runs.specs.Evaluation.{Course, gives, on_value, and_then, going_on, checked_at, checked_if, alarm_of, tested, operated, unary_tested, unary, binary}
use Rattle.prop_table.proofs.Lists.{Each, each_append}

-- ---- one after another

on_value_fine : {A B : Type 0} (P : Visit → Type 0) (o : Option A) (f : A → Course B)
    → ((a : A) → Each P (f a).visits) → Each P (on_value o f).visits
on_value_fine P None f h = tt
on_value_fine P (Some a) f h = h a

pub then_fine : {A B : Type 0} (P : Visit → Type 0) (c : Course A) (f : A → Course B) → Each P c.visits
    → ((a : A) → Each P (f a).visits) → Each P (and_then c f).visits
then_fine P c f h more = each_append P c.visits (on_value c.value f).visits h (on_value_fine P c.value f more)

going_fine : {A : Type 0} (P : Visit → Type 0) (b : Bool) (rest : Course A) → Each P rest.visits
    → Each P (going_on b rest).visits
going_fine P true rest h = h
going_fine P false rest h = tt

-- ---- checks

-- visits of this check are such
abbrev pub Bears : (Visit → Type 0) → Option SiteId → AlarmKind → Type 0
Bears P site kind = (n : SiteId) → site ≡ Some n → (b : Bool) → P (visit (Check n.0 kind) b)

pub checked_fine : {A : Type 0} (P : Visit → Type 0) (site : Option SiteId) (kind : AlarmKind) (b : Bool)
    (rest : Course A)
    → Bears P site kind → Each P rest.visits → Each P (checked_at site kind b rest).visits
checked_fine P None kind b rest h more = more
checked_fine P (Some n) kind b rest h more = (h n refl b, going_fine P _ rest more)

pub checked_if_fine : {A : Type 0} (P : Visit → Type 0) (t : Bool) (site : Option SiteId) (kind : AlarmKind)
    (b : Bool) (rest : Course A)
    → (t ≡ true → Bears P site kind) → Each P rest.visits → Each P (checked_if t site kind b rest).visits
checked_if_fine P true site kind b rest h more = checked_fine P site kind b rest (h refl) more
checked_if_fine P false site kind b rest h more = more

-- where the test is made its visits are such
abbrev Tests : (Visit → Type 0) → Bool → Option SiteId → IntType → Option Test → Type 0
Tests P overflow site ty None = Unit {0}
Tests P overflow site ty (Some t) = is_visited (least ty) overflow t ≡ true → Bears P site (alarm_of t)

tested_fine : (P : Visit → Type 0) (overflow : Bool) (site : Option SiteId) (ty : IntType) (op : Operator)
    (x y : ℤ) (o : Option Test) (rest : Course ℤ)
    → Tests P overflow site ty o → Each P rest.visits → Each P (tested overflow site ty op x y o rest).visits
tested_fine P overflow site ty op x y None rest h more = more
tested_fine P overflow site ty op x y (Some t) rest h more =
    checked_if_fine P _ site (alarm_of t) _ rest h more

operated_fine : (P : Visit → Type 0) (overflow : Bool) (site : Option SiteId) (ty : IntType) (op : Operator)
    (x y : ℤ)
    → Tests P overflow site ty (first_check op) → Tests P overflow site ty (second_check op)
    → Each P (operated overflow site ty op x y).visits
operated_fine P overflow site ty op x y first second =
    tested_fine P overflow site ty op x y (first_check op) _ first
    (tested_fine P overflow site ty op x y (second_check op)
    (gives (value_of op (least ty) (width ty) x y)) second tt)

unary_tested_fine : (P : Visit → Type 0) (overflow : Bool) (site : Option SiteId) (ty : IntType)
    (op : UnaryOperator) (x : ℤ) (o : Option Test) (rest : Course ℤ)
    → Tests P overflow site ty o → Each P rest.visits
    → Each P (unary_tested overflow site ty op x o rest).visits
unary_tested_fine P overflow site ty op x None rest h more = more
unary_tested_fine P overflow site ty op x (Some t) rest h more =
    checked_if_fine P _ site (alarm_of t) _ rest h more

-- ---- which checks an operator has

-- signed arithmetic has a check of overflow
signed : (ty : IntType) (overflow : Bool) → is_visited (least ty) overflow Overflow ≡ true
    → overflow_of ty ≡ Some A.SignedOverflow
signed T.Bool overflow is = absurd (true≢false (sym is))
signed T.Char overflow is = refl
signed T.SignedChar overflow is = refl
signed T.UnsignedChar overflow is = absurd (true≢false (sym is))
signed T.Short overflow is = refl
signed T.UnsignedShort overflow is = absurd (true≢false (sym is))
signed T.Int overflow is = refl
signed T.UnsignedInt overflow is = absurd (true≢false (sym is))
signed T.Long overflow is = refl
signed T.UnsignedLong overflow is = absurd (true≢false (sym is))
signed T.LongLong overflow is = refl
signed T.UnsignedLongLong overflow is = absurd (true≢false (sym is))

-- visits of these checks are such
pub record BearsAll (P : Visit → Type 0) (site : Option SiteId) (checks : Checks) : Type 0 where
  pub first : (a : AlarmKind) → checks.first ≡ Some a → Bears P site a
  pub second : (a : AlarmKind) → checks.second ≡ Some a → Bears P site a

pub unary_fine : (P : Visit → Type 0) (overflow : Bool) (site : Option SiteId) (ty : IntType) (op : UnaryOp)
    (x : ℤ)
    → BearsAll P site (unary_checks op ty) → Each P (unary overflow site ty op x).visits
unfolding unary_checks
unary_fine P overflow site ty U.Plus x all = tt
unary_fine P overflow site ty U.Minus x all =
    unary_tested_fine P overflow site ty Negate x (Some Overflow) _
    (λ is. all.first A.SignedOverflow (signed ty overflow is)) tt
unary_fine P overflow site ty U.Not x all = tt
unary_fine P overflow site ty U.Invert x all = tt

-- the type of the left operand is that of the result
left_is : (l ty : IntType) (b c : Bool) → ((same_type l ty && b) && c) ≡ true → l ≡ ty
left_is l ty b c is = same_is l ty (and_parts _ _ (and_parts _ _ is).0).0

signed_left : (l ty : IntType) (overflow : Bool) → l ≡ ty → is_visited (least ty) overflow Overflow ≡ true
    → overflow_of l ≡ Some A.SignedOverflow
signed_left l ty overflow same is = ap overflow_of same ∙ signed ty overflow is

pub binary_fine : (P : Visit → Type 0) (overflow : Bool) (site : Option SiteId) (ty l r : IntType)
    (op : BinaryOp) (x y : ℤ)
    → binary_types op ty l r ≡ true → BearsAll P site (binary_checks op l)
    → Each P (binary overflow site ty op x y).visits
unfolding binary_checks binary_types
binary_fine P overflow site ty l r B.LogicOr x y types all = tt
binary_fine P overflow site ty l r B.LogicAnd x y types all = tt
binary_fine P overflow site ty l r B.Or x y types all = operated_fine P overflow site ty O.Or x y tt tt
binary_fine P overflow site ty l r B.Xor x y types all = operated_fine P overflow site ty O.Xor x y tt tt
binary_fine P overflow site ty l r B.And x y types all = operated_fine P overflow site ty O.And x y tt tt
binary_fine P overflow site ty l r B.Equal x y types all = tt
binary_fine P overflow site ty l r B.NotEqual x y types all = tt
binary_fine P overflow site ty l r B.Less x y types all = tt
binary_fine P overflow site ty l r B.Greater x y types all = tt
binary_fine P overflow site ty l r B.LessEq x y types all = tt
binary_fine P overflow site ty l r B.GreaterEq x y types all = tt
binary_fine P overflow site ty l r B.Shl x y types all =
    operated_fine P overflow site ty O.Shl x y (λ is. all.first A.Shift refl)
    (λ is. all.second A.SignedOverflow (signed_left l ty overflow (left_is l ty _ _ types) is))
binary_fine P overflow site ty l r B.Shr x y types all =
    operated_fine P overflow site ty O.Shr x y (λ is. all.first A.Shift refl) tt
binary_fine P overflow site ty l r B.Add x y types all =
    operated_fine P overflow site ty O.Add x y
    (λ is. all.first A.SignedOverflow (signed_left l ty overflow (left_is l ty _ _ types) is)) tt
binary_fine P overflow site ty l r B.Sub x y types all =
    operated_fine P overflow site ty O.Sub x y
    (λ is. all.first A.SignedOverflow (signed_left l ty overflow (left_is l ty _ _ types) is)) tt
binary_fine P overflow site ty l r B.Mul x y types all =
    operated_fine P overflow site ty O.Mul x y
    (λ is. all.first A.SignedOverflow (signed_left l ty overflow (left_is l ty _ _ types) is)) tt
binary_fine P overflow site ty l r B.Div x y types all =
    operated_fine P overflow site ty O.Div x y (λ is. all.first A.DivisionByZero refl)
    (λ is. all.second A.SignedOverflow (signed_left l ty overflow (left_is l ty _ _ types) is))
binary_fine P overflow site ty l r B.Rem x y types all =
    operated_fine P overflow site ty O.Rem x y (λ is. all.first A.DivisionByZero refl)
    (λ is. all.second A.SignedOverflow (signed_left l ty overflow (left_is l ty _ _ types) is))
