-- What the answers stand for.
use Rattle.std.specs.Prelude.{◌≡◌, ◌⊎◌, ◌↔◌, ◌^◌, ◌≤◌, ℤ, pos, ◌-ℤ◌, ◌≤ℤ◌, ◌<ℤ◌, unsigned_abs, IsTrue}
use Rattle.machine_ints.specs.Bits.{not_of}
use Rattle.machine_ints.specs.Convert.{wrap}
use Rattle.machine_ints.specs.Divisors.{IsMultiple}
use Rattle.machine_ints.specs.Operators.{IsWithin}
use Rattle.int_interval.specs.Shapes.{IsShape}
use Rattle.int_interval.specs.declared.shape.Shape.{Shape}
use Rattle.int_congr.specs.declared.congr.Congr.{Congr}
use Rattle.int_congr.specs.Rows.{period, contains_row, join_row, included_row, may_meet, not_row, convert_row}

-- the congruence stands for the number
abbrev pub Holds : Congr → ℤ → Type 0
Holds c z = IsMultiple (pos (period c)) (z -ℤ c.rem)

-- the answer stands for each result on numbers that the operands stand for
abbrev pub Covers : (Congr → Congr → Congr) → (ℤ → ℤ → ℤ) → Type 0
Covers row exact = (a b : Congr) (x y : ℤ) → Holds a x → Holds b y → Holds (row a b) (exact x y)

-- the remainder lies from 0 to below the modulus, or the congruence is one number
abbrev pub IsNormal : Congr → Type 0
IsNormal c = (c.modulus ≡ pos 0) ⊎ ((pos 0 ≤ℤ c.rem) × (c.rem <ℤ c.modulus))

-- each answer is normal
abbrev pub IsAlwaysNormal : (Congr → Congr → Congr) → Type 0
IsAlwaysNormal row = (a b : Congr) → IsNormal (row a b)

-- both numbers are at most half the bound in absolute value, so that sums of two are kept
abbrev pub IsModest : Congr → Type 0
IsModest c = (unsigned_abs c.rem ≤ 2 ^ 125) × (period c ≤ 2 ^ 125)

-- what includes two congruences includes their join
abbrev pub JoinIsLeast : Type 0
JoinIsLeast =
    (a b c : Congr) → IsModest a → IsModest b → IsTrue (included_row a c) → IsTrue (included_row b c)
    → IsTrue (included_row (join_row a b) c)

-- the test of membership
abbrev pub ContainsIsMember : Type 0
ContainsIsMember = (c : Congr) (z : ℤ) → IsTrue (contains_row c z) ↔ Holds c z

-- a join is an upper bound of both
abbrev pub JoinIsUpper : Type 0
JoinIsUpper = (a b : Congr) (z : ℤ) → (Holds a z → Holds (join_row a b) z) × (Holds b z → Holds (join_row a b) z)

-- what is included is a subset, and each subset is included
abbrev pub IncludedIsSubset : Type 0
IncludedIsSubset = (a b : Congr) → IsTrue (included_row a b) ↔ ((z : ℤ) → Holds a z → Holds b z)

-- two congruences with a number in common may meet
abbrev pub MeetsIfCommon : Type 0
MeetsIfCommon = (a b : Congr) (z : ℤ) → Holds a z → Holds b z → IsTrue (may_meet a b)

-- a complement stands for the complement of each number of the type
abbrev pub CoversComplement : Type 0
CoversComplement =
    (shape : Shape) (a : Congr) (x : ℤ) → IsShape shape → IsWithin shape.lo shape.hi x → Holds a x
    → Holds (not_row shape a) (wrap shape.lo shape.width (not_of x))

-- a conversion stands for the conversion of each number
abbrev pub CoversConversion : Type 0
CoversConversion = (shape : Shape) (a : Congr) (x : ℤ) → Holds a x → Holds (convert_row shape a) (wrap shape.lo shape.width x)
