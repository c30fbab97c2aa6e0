-- Which shapes are those of a type (C11 6.2.6.2).
use Rattle.std.specs.Prelude.{ℤ, pos, Bool, int_lt, ◌≤ℤ◌, ◌<ℤ◌}
use Rattle.machine_ints.specs.Convert.{IsType}
use Rattle.machine_ints.specs.Operators.{complement_sum}
use Rattle.int_interval.specs.declared.shape.Shape.{Shape}
use Rattle.int_interval.specs.declared.interval.Interval.{Interval}
use Rattle.int_interval.specs.declared.interval.Interval.TheVariants.{Empty, Within, All}

abbrev pub IsShape : Shape → Type 0
IsShape shape = IsType shape.lo shape.hi shape.width

-- the type has negative numbers
abbrev pub is_signed : Shape → Bool
is_signed shape = int_lt shape.lo (pos 0)

-- the sum of a number of the type and its complement `~`
abbrev pub top_of : Shape → ℤ
top_of shape = complement_sum shape.lo shape.hi

-- the interval has numbers of the type alone, and its ends are in order
abbrev pub IsTyped : Shape → Interval → Type 0
IsTyped shape Empty = Unit {0}
IsTyped shape (Within lo hi) = (shape.lo ≤ℤ lo) × (lo ≤ℤ hi) × (hi ≤ℤ shape.hi)
IsTyped shape All = ⊥

-- each number of the interval is from 0 to below the width
abbrev pub IsShift : Shape → Interval → Type 0
IsShift shape Empty = Unit {0}
IsShift shape (Within lo hi) = (pos 0 ≤ℤ lo) × (lo ≤ℤ hi) × (hi <ℤ pos shape.width)
IsShift shape All = ⊥
