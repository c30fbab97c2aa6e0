-- What each operator answers (this project's own choice of bounds; after the interval domain of Cousot and Cousot).
-- A row is named after its operator: `sum_row a b` is the interval of the sums. All of it is over whole numbers without bound, but for the cut: past 2^126 an end isn't kept.
use Rattle.std.specs.Prelude.{ℕ, ◌-◌, ◌^◌, ℤ, pos, negsuc, neg_ℤ, ◌+ℤ◌, ◌-ℤ◌, ◌*ℤ◌, int_lt, int_le, int_div, int_rem, unsigned_abs, max, Bool, ◌&&◌, if◌then◌else◌, Option, Some, None, true, false}
use Rattle.std.specs.Int.{int_min, int_max}
use Rattle.machine_ints.specs.Bits.{and_of, or_of, xor_of, length_of}
use Rattle.machine_ints.specs.Bound.{bounded}
use Rattle.machine_ints.specs.Convert.{wrap}
use Rattle.machine_ints.specs.Corners.{least4, greatest4}
use Rattle.machine_ints.specs.Operators.{shl_of, shr_of}
use Rattle.int_interval.specs.declared.shape.Shape.{Shape}
use Rattle.int_interval.specs.declared.interval.Interval.{Interval}
use Rattle.int_interval.specs.declared.interval.Interval.TheVariants.{Empty, Within, All}
use Rattle.int_interval.specs.Shapes.{top_of}

-- ---- forms

-- the interval with these ends; past the bound, all numbers
abbrev pub range_of : Option ℤ → Option ℤ → Interval
range_of (Some lo) (Some hi) = Within lo hi
range_of (Some lo) None = All
range_of None hi = All

abbrev pub cut : ℤ → ℤ → Interval
cut lo hi = range_of (bounded lo) (bounded hi)

-- by the ends of one
abbrev pub by_range : (ℤ → ℤ → Interval) → Interval → Interval
by_range f Empty = Empty
by_range f (Within a b) = f a b
by_range f All = All

-- by the ends of both; an empty operand gives the empty interval, and else an operand `All` gives `All`
abbrev pub by_ends : (ℤ → ℤ → ℤ → ℤ → Interval) → Interval → Interval → Interval
by_ends f Empty right = Empty
by_ends f (Within a b) Empty = Empty
by_ends f (Within a b) (Within c d) = f a b c d
by_ends f (Within a b) All = All
by_ends f All Empty = Empty
by_ends f All (Within c d) = All
by_ends f All All = All

-- from the least to the greatest of four numbers that are within the bound
abbrev pub four_of : Option ℤ → Option ℤ → Option ℤ → Option ℤ → Interval
four_of None q r s = All
four_of (Some p) None r s = All
four_of (Some p) (Some q) None s = All
four_of (Some p) (Some q) (Some r) None = All
four_of (Some p) (Some q) (Some r) (Some s) = Within (least4 p q r s) (greatest4 p q r s)

-- from the least to the greatest of the function's values at the four corners
unfoldable pub corner_cut : (ℤ → ℤ → ℤ) → ℤ → ℤ → ℤ → ℤ → Interval
corner_cut f a b c d = cut (least4 (f a c) (f a d) (f b c) (f b d)) (greatest4 (f a c) (f a d) (f b c) (f b d))

-- the ends are one number
abbrev pub is_one : ℤ → ℤ → Bool
is_one lo hi = int_le lo hi && int_le hi lo

-- both pairs of ends are one number each
abbrev pub are_one : ℤ → ℤ → ℤ → ℤ → Bool
are_one a b c d = is_one a b && is_one c d

-- neither is negative
abbrev pub are_natural : ℤ → ℤ → Bool
are_natural a c = int_le (pos 0) a && int_le (pos 0) c

-- from a to b lies within from c to d
abbrev pub is_inside : ℤ → ℤ → ℤ → ℤ → Bool
is_inside a b c d = int_le c a && int_le b d

-- ---- sets

abbrev pub is_empty : Interval → Bool
is_empty Empty = true
is_empty (Within lo hi) = false
is_empty All = false

-- the number is in the interval
abbrev pub contains_row : Interval → ℤ → Bool
contains_row Empty number = false
contains_row (Within lo hi) number = int_le lo number && int_le number hi
contains_row All number = true

-- the interval is this number alone
abbrev pub is_just : Interval → ℤ → Bool
is_just Empty number = false
is_just (Within lo hi) number = is_one lo number && is_one hi number
is_just All number = false

unfoldable pub join_row : Interval → Interval → Interval
join_row Empty right = right
join_row (Within a b) Empty = Within a b
join_row (Within a b) (Within c d) = cut (int_min a c) (int_max b d)
join_row (Within a b) All = All
join_row All right = All

unfoldable pub meet_row : Interval → Interval → Interval
meet_row Empty right = Empty
meet_row (Within a b) Empty = Empty
meet_row (Within a b) (Within c d) = if int_le (int_max a c) (int_min b d) then Within (int_max a c) (int_min b d) else Empty
meet_row (Within a b) All = Within a b
meet_row All right = right

unfoldable pub included_row : Interval → Interval → Bool
included_row Empty right = true
included_row (Within a b) Empty = false
included_row (Within a b) (Within c d) = is_inside a b c d
included_row (Within a b) All = true
included_row All Empty = false
included_row All (Within c d) = false
included_row All All = true

-- ---- arithmetic

unfoldable pub negative_row : Interval → Interval
negative_row = by_range (λ a b. cut (neg_ℤ b) (neg_ℤ a))

unfoldable pub sum_row : Interval → Interval → Interval
sum_row = by_ends (λ a b c d. cut (a +ℤ c) (b +ℤ d))

unfoldable pub difference_row : Interval → Interval → Interval
difference_row = by_ends (λ a b c d. cut (a -ℤ d) (b -ℤ c))

unfoldable pub product_row : Interval → Interval → Interval
product_row = by_ends (corner_cut ◌*ℤ◌)

-- the quotients by the divisors below 0, and by those above
unfoldable pub quotients_below : ℤ → ℤ → ℤ → ℤ → Interval
quotients_below a b c d = if int_lt c (pos 0) then corner_cut int_div a b c (int_min d (negsuc 0)) else Empty

unfoldable pub quotients_above : ℤ → ℤ → ℤ → ℤ → Interval
quotients_above a b c d = if int_lt (pos 0) d then corner_cut int_div a b (int_max c (pos 1)) d else Empty

unfoldable pub quotient_row : Interval → Interval → Interval
quotient_row = by_ends (λ a b c d. join_row (quotients_below a b c d) (quotients_above a b c d))

-- the greatest absolute divisor less 1
abbrev pub reach : ℤ → ℤ → ℕ
reach c d = max (unsigned_abs c) (unsigned_abs d) - 1

abbrev pub remainder_low : ℤ → ℕ → ℤ
remainder_low a m = if int_le (pos 0) a then pos 0 else int_max a (neg_ℤ (pos m))

abbrev pub remainder_high : ℤ → ℕ → ℤ
remainder_high b m = if int_le b (pos 0) then pos 0 else int_min b (pos m)

unfoldable pub remainders : ℤ → ℤ → ℤ → ℤ → Interval
remainders a b c d =
    if are_one c (pos 0) d (pos 0) then Empty
    else (if are_one a b c d then cut (int_rem a c) (int_rem a c)
    else cut (remainder_low a (reach c d)) (remainder_high b (reach c d)))

unfoldable pub remainder_row : Interval → Interval → Interval
remainder_row = by_ends remainders

-- ---- shifts

unfoldable pub shl_row : Interval → Interval → Interval
shl_row = by_ends (corner_cut shl_of)

unfoldable pub shr_row : Interval → Interval → Interval
shr_row = by_ends (corner_cut shr_of)

-- ---- bits

-- `~x` is -1 - x, and of an unsigned type its greatest number less x
unfoldable pub not_row : Shape → Interval → Interval
not_row shape = by_range (λ a b. cut (top_of shape -ℤ b) (top_of shape -ℤ a))

-- 2^k - 1, where k is the least with both ends below 2^k
abbrev pub mask : ℤ → ℤ → ℤ
mask b d = pos (2 ^ length_of (max (unsigned_abs b) (unsigned_abs d)) - 1)

-- by `one` if both are single numbers, by `low` if neither has a negative number, else the type's range
abbrev pub by_bits : Shape → (ℤ → ℤ → ℤ) → (ℤ → ℤ → ℤ → ℤ → Interval) → Interval → Interval → Interval
by_bits shape one low = by_ends (λ a b c d.
    if are_one a b c d then cut (one a c) (one a c)
    else (if are_natural a c then low a b c d
    else cut shape.lo shape.hi))

unfoldable pub and_row : Shape → Interval → Interval → Interval
and_row shape = by_bits shape and_of (λ a b c d. cut (pos 0) (int_min b d))

unfoldable pub or_row : Shape → Interval → Interval → Interval
or_row shape = by_bits shape or_of (λ a b c d. cut (int_max a c) (mask b d))

unfoldable pub xor_row : Shape → Interval → Interval → Interval
xor_row shape = by_bits shape xor_of (λ a b c d. cut (pos 0) (mask b d))

-- ---- conversion

unfoldable pub convert_row : Shape → Interval → Interval
convert_row shape Empty = Empty
convert_row shape (Within a b) =
    if is_inside a b shape.lo shape.hi then Within a b
    else (if is_one a b then cut (wrap shape.lo shape.width a) (wrap shape.lo shape.width a)
    else cut shape.lo shape.hi)
convert_row shape All = cut shape.lo shape.hi
