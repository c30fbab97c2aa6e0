-- What the answers of tests, sets, conversions, terms and relations stand for.
use Rattle.std.specs.Prelude.{◌≡◌, ◌≢◌, ◌↔◌, ℕ, ℤ, pos, ◌<ℤ◌, ◌≤ℤ◌, IsTrue, List, Option, Some, None}
use Rattle.machine_ints.specs.Convert.{wrap, bool_of}
use Rattle.machine_ints.specs.Operators.{IsWithin}
use Rattle.int_interval.specs.Laws as intervals
use Rattle.int_interval.specs.Rows.{is_empty}
use Rattle.int_interval.specs.Shapes.{IsShape}
use Rattle.int_interval.specs.declared.interval.Interval.{Interval}
use Rattle.int_interval.specs.declared.shape.Shape.{Shape}
use Rattle.int_value.specs.Checks.{within_said, less_said, less_eq_said, equal_row}
use Rattle.int_value.specs.Rows.{contains_row, single_of, reduce_row, join_row, meet_row, included_row, convert_row, to_bool_row, number_row}
use Rattle.int_value.specs.Standing.{Stands, HasValue, IsRight}
use Rattle.int_value.specs.Typed.{IsReduced}
use Rattle.int_value.specs.Widening.{widen_row}
use Rattle.int_value.specs.declared.value.Value.{Value}

-- ---- membership

abbrev pub ContainsIsMember : Type 0
ContainsIsMember = (v : Value) (z : ℤ) → IsTrue (contains_row v z) ↔ Stands v (Some z)

-- a reduced value is empty exactly where it has no number
abbrev pub EmptyIsNone : Type 0
EmptyIsNone = (v : Value) → IsReduced v → IsTrue (is_empty v.range) ↔ ((z : ℤ) → ¬ (Stands v (Some z)))

-- and gives a number exactly where it has this number and no other
abbrev pub SingleIsOne : Type 0
SingleIsOne =
    (v : Value) (n : ℤ) → IsReduced v
    → (single_of v.range ≡ Some n) ↔ (Stands v (Some n) × ((z : ℤ) → Stands v (Some z) → z ≡ n))

-- ---- sets, of numbers and of no value

abbrev pub ReduceKeeps : Type 0
ReduceKeeps = (v : Value) (o : Option ℤ) → Stands (reduce_row v) o ↔ Stands v o

abbrev pub JoinIsUpper : Type 0
JoinIsUpper = (a b : Value) (o : Option ℤ) → (Stands a o → Stands (join_row a b) o) × (Stands b o → Stands (join_row a b) o)

-- the number is in the interval, if it is one
abbrev pub IsIn : Interval → Option ℤ → Type 0
IsIn range None = Unit {0}
IsIn range (Some z) = intervals.Holds range z

abbrev pub MeetIsBoth : Type 0
MeetIsBoth = (v : Value) (range : Interval) (o : Option ℤ) → Stands (meet_row v range) o ↔ (Stands v o × IsIn range o)

abbrev pub IncludedIsSubset : Type 0
IncludedIsSubset = (a b : Value) (o : Option ℤ) → IsTrue (included_row a b) → Stands a o → Stands b o

-- the number is one of the type, if it is one
abbrev pub IsOf : Shape → Option ℤ → Type 0
IsOf shape None = Unit {0}
IsOf shape (Some z) = IsWithin shape.lo shape.hi z

-- a widening keeps each number of the type that one of both values has, whatever the values are
abbrev pub WidenIsUpper : Type 0
WidenIsUpper =
    (turn : ℕ) (thresholds : List ℤ) (shape : Shape) (old next : Value) (o : Option ℤ) → IsOf shape o
    → (Stands old o → Stands (widen_row turn thresholds shape old next) o)
    × (Stands next o → Stands (widen_row turn thresholds shape old next) o)

-- ---- conversions

abbrev pub CoversConversion : Type 0
CoversConversion =
    (shape : Shape) (v : Value) → IsShape shape
    → HasValue (convert_row shape v)
    × ((x : ℤ) → Stands v (Some x) → Stands (convert_row shape v) (Some (wrap shape.lo shape.width x)))

abbrev pub CoversBool : Type 0
CoversBool = (v : Value) → HasValue (to_bool_row v) × ((x : ℤ) → Stands v (Some x) → Stands (to_bool_row v) (Some (bool_of x)))

-- ---- terms

abbrev pub CoversUnaryTerm : (Value → Value) → (ℤ → ℤ) → Type 0
CoversUnaryTerm row exact = (a : Value) → HasValue (row a) × ((x : ℤ) → Stands a (Some x) → Stands (row a) (Some (exact x)))

abbrev pub CoversTerm : (Value → Value → Value) → (ℤ → ℤ → ℤ) → Type 0
CoversTerm row exact =
    (a b : Value) → HasValue (row a b)
    × ((x y : ℤ) → Stands a (Some x) → Stands b (Some y) → Stands (row a b) (Some (exact x y)))

-- the same where the divisor isn't 0
abbrev pub CoversDivision : (Value → Value → Value) → (ℤ → ℤ → ℤ) → Type 0
CoversDivision row exact =
    (a b : Value) → HasValue (row a b)
    × ((x y : ℤ) → Stands a (Some x) → Stands b (Some y) → y ≢ pos 0 → Stands (row a b) (Some (exact x y)))

abbrev pub CoversNumber : Type 0
CoversNumber = (n : ℤ) → HasValue (number_row n) × Stands (number_row n) (Some n)

-- the results are reduced, whatever the operands are
abbrev pub IsAlwaysReduced : (Value → Value → Value) → Type 0
IsAlwaysReduced row = (a b : Value) → IsReduced (row a b)

-- ---- relations

abbrev pub RelationsAreRight : Type 0
RelationsAreRight =
    (a b : Value) (x y : ℤ) → Stands a (Some x) → Stands b (Some y)
    → IsRight (less_said a.range b.range) (x <ℤ y) × IsRight (less_eq_said a.range b.range) (x ≤ℤ y) × IsRight (equal_row a b) (x ≡ y)

abbrev pub WithinIsRight : Type 0
WithinIsRight = (v : Value) (lo hi z : ℤ) → Stands v (Some z) → IsRight (within_said lo hi v.range) (IsWithin lo hi z)
