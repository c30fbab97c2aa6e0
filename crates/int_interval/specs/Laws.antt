-- What the answers stand for (the soundness of an abstract domain, after Cousot and Cousot).
use Rattle.std.specs.Prelude.{◌≡◌, ◌≢◌, ◌↔◌, ℤ, pos, ◌≤ℤ◌, IsTrue}
use Rattle.machine_ints.specs.Bits.{not_of}
use Rattle.machine_ints.specs.Convert.{wrap}
use Rattle.machine_ints.specs.Operators.{IsWithin}
use Rattle.int_interval.specs.declared.shape.Shape.{Shape}
use Rattle.int_interval.specs.declared.interval.Interval.{Interval}
use Rattle.int_interval.specs.declared.interval.Interval.TheVariants.{Empty, Within, All}
use Rattle.int_interval.specs.Rows.{is_empty, contains_row, is_just, join_row, meet_row, included_row, not_row, convert_row}
use Rattle.int_interval.specs.Shapes.{IsShape, IsShift}

-- the interval stands for the number
abbrev pub Holds : Interval → ℤ → Type 0
Holds Empty z = ⊥
Holds (Within lo hi) z = (lo ≤ℤ z) × (z ≤ℤ hi)
Holds All z = Unit {0}

-- the answer stands for each result on numbers that the operands stand for
abbrev pub Covers : (Interval → Interval → Interval) → (ℤ → ℤ → ℤ) → Type 0
Covers row exact = (a b : Interval) (x y : ℤ) → Holds a x → Holds b y → Holds (row a b) (exact x y)

-- the same where the divisor isn't 0
abbrev pub CoversDivision : (Interval → Interval → Interval) → (ℤ → ℤ → ℤ) → Type 0
CoversDivision row exact = (a b : Interval) (x y : ℤ) → Holds a x → Holds b y → y ≢ pos 0 → Holds (row a b) (exact x y)

-- the same where the right operand is within 0 to the width less 1
abbrev pub CoversShift : (Interval → Interval → Interval) → (ℤ → ℤ → ℤ) → Type 0
CoversShift row exact = (shape : Shape) (a b : Interval) (x y : ℤ) → IsShift shape b → Holds a x → Holds b y → Holds (row a b) (exact x y)

-- the same for numbers of the type
abbrev pub CoversBits : (Shape → Interval → Interval → Interval) → (ℤ → ℤ → ℤ) → Type 0
CoversBits row exact =
    (shape : Shape) (a b : Interval) (x y : ℤ) → IsShape shape → IsWithin shape.lo shape.hi x → IsWithin shape.lo shape.hi y
    → Holds a x → Holds b y → Holds (row shape a b) (exact x y)

-- a complement stands for the complement of each number of the type
abbrev pub CoversComplement : Type 0
CoversComplement =
    (shape : Shape) (a : Interval) (x : ℤ) → IsShape shape → IsWithin shape.lo shape.hi x → Holds a x
    → Holds (not_row shape a) (wrap shape.lo shape.width (not_of x))

-- a conversion stands for the conversion of each number
abbrev pub CoversConversion : Type 0
CoversConversion = (shape : Shape) (a : Interval) (x : ℤ) → IsShape shape → Holds a x → Holds (convert_row shape a) (wrap shape.lo shape.width x)

-- the test of membership
abbrev pub ContainsIsMember : Type 0
ContainsIsMember = (a : Interval) (z : ℤ) → IsTrue (contains_row a z) ↔ Holds a z

-- what is empty has no number, and what has its ends in order has one else
abbrev pub EmptyHasNone : Type 0
EmptyHasNone = (a : Interval) → IsTrue (is_empty a) → (z : ℤ) → ¬ (Holds a z)

-- what is one number has no other
abbrev pub JustIsOne : Type 0
JustIsOne = (a : Interval) (n z : ℤ) → IsTrue (is_just a n) → Holds a z → z ≡ n

-- a join is an upper bound of both
abbrev pub JoinIsUpper : Type 0
JoinIsUpper = (a b : Interval) (z : ℤ) → (Holds a z → Holds (join_row a b) z) × (Holds b z → Holds (join_row a b) z)

-- a meet stands for the numbers of both
abbrev pub MeetIsBoth : Type 0
MeetIsBoth = (a b : Interval) (z : ℤ) → Holds (meet_row a b) z ↔ (Holds a z × Holds b z)

-- what is included stands for no other numbers
abbrev pub IncludedIsSubset : Type 0
IncludedIsSubset = (a b : Interval) (z : ℤ) → IsTrue (included_row a b) → Holds a z → Holds b z
