-- What each operation on values answers (this project's own; the reduced product is that of Cousot and Cousot).
-- A row is named after its operation; those of C's operators with their checks stand in `Checks`.
use Rattle.std.specs.Prelude.{ℤ, pos, ◌+ℤ◌, ◌-ℤ◌, int_lt, int_le, ◌&&◌, ◌||◌, not, Bool, false, if◌then◌else◌, Option, Some, None}
use Rattle.machine_ints.specs.Bound.{is_small}
use Rattle.machine_ints.specs.Divisors.{residue_of}
use Rattle.int_interval.specs.declared.shape.Shape.{Shape}
use Rattle.int_interval.specs.declared.interval.Interval.{Interval}
use Rattle.int_interval.specs.declared.interval.Interval.TheVariants.{Empty, Within, All}
use Rattle.int_interval.specs.Rows as intervals
use Rattle.int_congr.specs.declared.congr.Congr.{Congr}
use Rattle.int_congr.specs.Rows as congrs
use Rattle.int_value.specs.declared.value.Value.{Value}

-- ---- forms

abbrev pub value_of : Interval → Congr → Bool → Value
value_of range congr unset = record { range = range; congr = congr; unset = unset }

abbrev pub empty_of : Bool → Value
empty_of unset = value_of Empty congrs.unknown_of unset

-- all numbers
abbrev pub all_of : Bool → Value
all_of unset = value_of All congrs.unknown_of unset

abbrev pub one_of : ℤ → Bool → Value
one_of number unset = value_of (Within number number) (congrs.only number) unset

unfoldable pub contains_row : Value → ℤ → Bool
contains_row v number = intervals.contains_row v.range number && congrs.contains_row v.congr number

-- the one number, if there is just one
abbrev pub single_of : Interval → Option ℤ
single_of Empty = None
single_of (Within lo hi) = if intervals.is_one lo hi then Some lo else None
single_of All = None

-- ---- reduction

-- lo raised, and hi lowered, to the nearest number of the congruence, whose modulus isn't 0
abbrev pub raised_to : Congr → ℤ → ℤ
raised_to c lo = lo +ℤ pos (residue_of (c.rem -ℤ lo) (congrs.period c))

abbrev pub lowered_to : Congr → ℤ → ℤ
lowered_to c hi = hi -ℤ pos (residue_of (hi -ℤ c.rem) (congrs.period c))

-- an interval between numbers of the congruence
abbrev pub between : ℤ → ℤ → Congr → Bool → Value
between lo hi c unset = if int_lt hi lo then empty_of unset else (if int_le hi lo then one_of lo unset else value_of (Within lo hi) c unset)

unfoldable pub reduced : ℤ → ℤ → Congr → Bool → Value
reduced lo hi c unset =
    if congrs.is_only c then (if intervals.contains_row (Within lo hi) c.rem then one_of c.rem unset else empty_of unset)
    else between (raised_to c lo) (lowered_to c hi) c unset

-- an interval `All` is left as it is
abbrev pub reduced_range : Interval → Congr → Bool → Value
reduced_range Empty c unset = empty_of unset
reduced_range (Within lo hi) c unset = reduced lo hi c unset
reduced_range All c unset = value_of All c unset

unfoldable pub reduce_row : Value → Value
reduce_row v = reduced_range v.range v.congr v.unset

-- an answer by its parts: with `All` nothing more is known
abbrev pub answer_congr : Interval → Congr → Congr
answer_congr Empty c = c
answer_congr (Within lo hi) c = c
answer_congr All c = congrs.unknown_of

abbrev pub answer_of : Interval → Congr → Bool → Value
answer_of range c unset = reduced_range range (answer_congr range c) unset

-- ---- sets

abbrev pub joined_congr : Value → Value → Congr
joined_congr a b = if intervals.is_empty a.range then b.congr else (if intervals.is_empty b.range then a.congr else congrs.join_row a.congr b.congr)

unfoldable pub join_row : Value → Value → Value
join_row a b = answer_of (intervals.join_row a.range b.range) (joined_congr a b) (a.unset || b.unset)

unfoldable pub meet_row : Value → Interval → Value
meet_row v range = reduced_range (intervals.meet_row v.range range) v.congr v.unset

-- the flag goes with no set of numbers
abbrev pub unset_within : Bool → Bool → Bool
unset_within a b = not a || b

abbrev pub congr_within : Value → Value → Bool
congr_within a b = intervals.is_empty a.range || congrs.included_row a.congr b.congr

unfoldable pub included_row : Value → Value → Bool
included_row a b = intervals.included_row a.range b.range && (congr_within a b && unset_within a.unset b.unset)

-- ---- types and conversions; a conversion's result isn't unset

abbrev pub type_range : Shape → Interval
type_range shape = Within shape.lo shape.hi

-- each number of the type, and perhaps no value
abbrev pub whole_of : Shape → Bool → Value
whole_of shape unset = value_of (type_range shape) congrs.unknown_of unset

abbrev pub converted_congr : Shape → Value → Congr
converted_congr shape v = if intervals.included_row v.range (type_range shape) then v.congr else congrs.convert_row shape v.congr

unfoldable pub convert_row : Shape → Value → Value
convert_row shape v = answer_of (intervals.convert_row shape v.range) (converted_congr shape v) false

unfoldable pub to_bool_row : Value → Value
to_bool_row v =
    if intervals.is_empty v.range then empty_of false
    else (if not (contains_row v (pos 0)) then one_of (pos 1) false
    else (if intervals.is_just v.range (pos 0) then one_of (pos 0) false
    else value_of (Within (pos 0) (pos 1)) congrs.unknown_of false))

-- ---- operators on whole numbers without bound

-- one number, if it is within the bound
unfoldable pub number_row : ℤ → Value
number_row n = if is_small n then one_of n false else all_of false

unfoldable pub negation_row : Value → Value
negation_row a = answer_of (intervals.negative_row a.range) (congrs.negative_row a.congr) false

-- an operator by its interval and its congruence
abbrev pub by_parts : (Interval → Interval → Interval) → (Congr → Congr → Congr) → Value → Value → Value
by_parts f g a b = answer_of (f a.range b.range) (g a.congr b.congr) false

unfoldable pub sum_row : Value → Value → Value
sum_row = by_parts intervals.sum_row congrs.sum_row

unfoldable pub difference_row : Value → Value → Value
difference_row = by_parts intervals.difference_row congrs.difference_row

unfoldable pub product_row : Value → Value → Value
product_row = by_parts intervals.product_row congrs.product_row

unfoldable pub quotient_row : Value → Value → Value
quotient_row = by_parts intervals.quotient_row congrs.quotient_row

unfoldable pub remainder_row : Value → Value → Value
remainder_row = by_parts intervals.remainder_row congrs.remainder_row

-- ---- operators of C before their checks

unfoldable pub shl_raw : Value → Value → Value
shl_raw = by_parts intervals.shl_row congrs.shl_row

unfoldable pub shr_raw : Value → Value → Value
shr_raw = by_parts intervals.shr_row congrs.shr_row

unfoldable pub not_raw : Shape → Value → Value
not_raw shape a = answer_of (intervals.not_row shape a.range) (congrs.not_row shape a.congr) false

unfoldable pub and_raw : Shape → Value → Value → Value
and_raw shape = by_parts (intervals.and_row shape) congrs.and_row

unfoldable pub or_raw : Shape → Value → Value → Value
or_raw shape = by_parts (intervals.or_row shape) congrs.or_row

unfoldable pub xor_raw : Shape → Value → Value → Value
xor_raw shape = by_parts (intervals.xor_row shape) congrs.xor_row
