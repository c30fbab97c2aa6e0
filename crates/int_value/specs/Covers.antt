-- What C's operators with their checks stand for: one form for all of them.
use Rattle.std.specs.Prelude.{◌≡◌, ℤ, Bool, true, Option, Some, None}
use Rattle.machine_ints.specs.Operators.{IsWithin, PassesDivision, PassesQuotient, PassesIf, PassesUnaryIf, first_check, second_check}
use Rattle.machine_ints.specs.Operators.{unary_check, is_visited, is_visited_if, may_end, exact_of, value_of, unary_value}
use Rattle.machine_ints.specs.Results.{AreOperands}
use Rattle.machine_ints.specs.declared.operators.Check.{Check}
use Rattle.machine_ints.specs.declared.operators.Check.TheVariants.{Overflow}
use Rattle.machine_ints.specs.declared.operators.Operator.{Operator}
use Rattle.machine_ints.specs.declared.operators.UnaryOperator.{UnaryOperator}
use Rattle.machine_ints.specs.declared.operators.UnaryOperator.TheVariants.{Negate, Complement}
use Rattle.int_interval.specs.Shapes.{IsShape}
use Rattle.int_interval.specs.declared.shape.Shape.{Shape}
use Rattle.int_value.specs.Standing.{Stands, HasValue, IsMark}
use Rattle.int_value.specs.declared.made.Made.{Made}
use Rattle.int_value.specs.declared.value.Value.{Value}

-- of one check: whether it is visited, and whether its failure then ends the run
pub record Visit : Type 0 where
  pub visited : Bool
  pub ends : Bool

abbrev pub visit_of : Shape → Bool → Option Check → Visit
visit_of shape overflow check = record { visited = is_visited_if shape.lo overflow check; ends = may_end shape.lo overflow check }

-- what is made of operands that come to the facts First and Second of the two checks and to the value z: the marks of
-- the checks are right, that of the second where the first passes; and where each check passes whose failure ends the
-- run, the value made stands for z
pub record Covered (one two : Visit) (First Second : Type 0) (z : ℤ) (made : Made) : Type 0 where
  pub first : IsMark one.visited made.first First
  pub second : First → IsMark two.visited made.second Second
  pub value : (one.ends ≡ true → First) → (two.ends ≡ true → Second) → Stands made.value (Some z)
  pub has_value : HasValue made.value

-- an operator with two operands, of numbers that they stand for
abbrev pub CoversOperator : Operator → (Shape → Bool → Value → Value → Made) → Type 0
CoversOperator op row =
    (shape : Shape) (overflow : Bool) (a b : Value) (x y : ℤ) → IsShape shape → AreOperands op shape.lo shape.hi x y
    → Stands a (Some x) → Stands b (Some y)
    → Covered (visit_of shape overflow (first_check op)) (visit_of shape overflow (second_check op))
    (PassesIf (first_check op) op shape.lo shape.hi shape.width x y)
    (PassesIf (second_check op) op shape.lo shape.hi shape.width x y)
    (value_of op shape.lo shape.width x y) (row shape overflow a b)

-- of `/` and `%` the divisor may be any number: the mark of the second check is right whether or not the first one
-- passes, and where both pass and are visited the value stands for the exact result
abbrev pub CoversAnyDivisor : Operator → (Shape → Bool → Value → Value → Made) → Type 0
CoversAnyDivisor op row =
    (shape : Shape) (overflow : Bool) (a b : Value) (x y : ℤ) → IsShape shape → IsWithin shape.lo shape.hi x
    → Stands a (Some x) → Stands b (Some y)
    → IsMark (is_visited shape.lo overflow Overflow) (row shape overflow a b).second (PassesQuotient shape.lo x y)
    × (is_visited shape.lo overflow Overflow ≡ true → PassesDivision y → PassesQuotient shape.lo x y
    → Stands (row shape overflow a b).value (Some (exact_of op x y)))

-- the complement is of numbers of the type
abbrev pub IsUnaryOperand : UnaryOperator → ℤ → ℤ → ℤ → Type 0
IsUnaryOperand Negate lo hi x = Unit {0}
IsUnaryOperand Complement lo hi x = IsWithin lo hi x

-- an operator with one operand, which has at most one check
abbrev pub CoversUnary : UnaryOperator → (Shape → Bool → Value → Made) → Type 0
CoversUnary op row =
    (shape : Shape) (overflow : Bool) (a : Value) (x : ℤ) → IsShape shape → IsUnaryOperand op shape.lo shape.hi x
    → Stands a (Some x)
    → Covered (visit_of shape overflow (unary_check op)) (visit_of shape overflow None)
    (PassesUnaryIf (unary_check op) op shape.lo shape.hi x) (Unit {0})
    (unary_value op shape.lo shape.width x) (row shape overflow a)
