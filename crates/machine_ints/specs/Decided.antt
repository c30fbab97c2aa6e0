-- Checks that the ranges of the operands decide.
use Rattle.std.specs.Prelude.{ℕ, ℤ, ◌≤ℤ◌}
use Rattle.machine_ints.specs.Operators.{IsWithin, Passes, PassesUnary}
use Rattle.machine_ints.specs.declared.decided.Ends.{Ends}
use Rattle.machine_ints.specs.declared.operators.Check.{Check}
use Rattle.machine_ints.specs.declared.operators.Operator.{Operator}
use Rattle.machine_ints.specs.declared.operators.UnaryOperator.{UnaryOperator}

-- the range has a number
abbrev pub IsOrdered : Ends → Type 0
IsOrdered ends = ends.lo ≤ℤ ends.hi

-- z is in the range
abbrev pub IsAmong : Ends → ℤ → Type 0
IsAmong ends z = IsWithin ends.lo ends.hi z

-- every choice of operands from the two ranges passes the check
abbrev pub AlwaysPasses : Check → Operator → Ends → ℕ → Ends → Ends → Type 0
AlwaysPasses check op of_type width left right =
    (x y : ℤ) → IsAmong left x → IsAmong right y → Passes check op of_type.lo of_type.hi width x y

abbrev pub UnaryAlwaysPasses : UnaryOperator → Ends → Ends → Type 0
UnaryAlwaysPasses op of_type operand = (x : ℤ) → IsAmong operand x → PassesUnary op of_type.lo of_type.hi x
