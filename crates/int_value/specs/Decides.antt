-- A mark says yes exactly where every choice of numbers of the operands passes the check.
use Rattle.std.specs.Prelude.{◌≡◌, ◌↔◌, ℤ, Bool, true, Some}
use Rattle.machine_ints.specs.Operators.{PassesIf, PassesUnaryIf, first_check, second_check, unary_check, is_visited_if}
use Rattle.machine_ints.specs.declared.operators.Operator.{Operator}
use Rattle.machine_ints.specs.declared.operators.UnaryOperator.{UnaryOperator}
use Rattle.int_interval.specs.Shapes.{IsShape}
use Rattle.int_interval.specs.declared.interval.Interval.{Interval}
use Rattle.int_interval.specs.declared.interval.Interval.TheVariants.{Empty, Within, All}
use Rattle.int_interval.specs.declared.said.Said.TheVariants.{Yes}
use Rattle.int_interval.specs.declared.shape.Shape.{Shape}
use Rattle.int_value.specs.Standing.{Stands}
use Rattle.int_value.specs.Typed.{IsReduced}
use Rattle.int_value.specs.declared.made.Made.{Made}
use Rattle.int_value.specs.declared.value.Value.{Value}

-- the interval has a least and a greatest number
abbrev pub HasEnds : Interval → Type 0
HasEnds Empty = ⊥
HasEnds (Within lo hi) = Unit {0}
HasEnds All = ⊥

-- a reduced value with ends, as the range of a type or of a literal is
abbrev pub IsBounded : Value → Type 0
IsBounded v = HasEnds v.range × IsReduced v

-- of the first check, where it is visited
abbrev pub DecidesFirst : Operator → (Shape → Bool → Value → Value → Made) → Type 0
DecidesFirst op row =
    (shape : Shape) (overflow : Bool) (a b : Value) → IsShape shape → IsBounded a → IsBounded b
    → is_visited_if shape.lo overflow (first_check op) ≡ true
    → ((row shape overflow a b).first ≡ Some Yes)
    ↔ ((x y : ℤ) → Stands a (Some x) → Stands b (Some y) → PassesIf (first_check op) op shape.lo shape.hi shape.width x y)

-- of the second check, where some right operand passes the first one
abbrev pub DecidesSecond : Operator → (Shape → Bool → Value → Value → Made) → Type 0
DecidesSecond op row =
    (shape : Shape) (overflow : Bool) (a b : Value) (x y : ℤ) → IsShape shape → IsBounded a → IsBounded b
    → is_visited_if shape.lo overflow (second_check op) ≡ true
    → Stands b (Some y) → PassesIf (first_check op) op shape.lo shape.hi shape.width x y
    → ((row shape overflow a b).second ≡ Some Yes)
    ↔ ((x y : ℤ) → Stands a (Some x) → Stands b (Some y) → PassesIf (first_check op) op shape.lo shape.hi shape.width x y
    → PassesIf (second_check op) op shape.lo shape.hi shape.width x y)

-- of the check of an operator with one operand
abbrev pub DecidesUnary : UnaryOperator → (Shape → Bool → Value → Made) → Type 0
DecidesUnary op row =
    (shape : Shape) (overflow : Bool) (a : Value) → IsShape shape → IsBounded a
    → is_visited_if shape.lo overflow (unary_check op) ≡ true
    → ((row shape overflow a).first ≡ Some Yes)
    ↔ ((x : ℤ) → Stands a (Some x) → PassesUnaryIf (unary_check op) op shape.lo shape.hi x)
