-- What the domain says of checks and relations, and the operators with their checks (this project's own tables).
use Rattle.std.specs.Prelude.{ℤ, pos, negsuc, ◌-ℤ◌, int_lt, int_le, ◌&&◌, ◌||◌, not, Bool, true, false, if◌then◌else◌, Option, Some, None}
use Rattle.int_interval.specs.Rows as intervals
use Rattle.int_interval.specs.Shapes.{is_signed}
use Rattle.int_interval.specs.declared.shape.Shape.{Shape}
use Rattle.int_interval.specs.declared.said.Said.{Said}
use Rattle.int_interval.specs.declared.said.Said.TheVariants.{Yes, No, Maybe, Unreached}
use Rattle.int_interval.specs.declared.interval.Interval.{Interval}
use Rattle.int_interval.specs.declared.interval.Interval.TheVariants.{Empty, Within, All}
use Rattle.int_congr.specs.Rows as congrs
use Rattle.int_value.specs.declared.made.Made.{Made}
use Rattle.int_value.specs.declared.value.Value.{Value}
use Rattle.int_value.specs.Rows.{empty_of, contains_row, meet_row, convert_row, type_range, negation_row, sum_row, difference_row}
use Rattle.int_value.specs.Rows.{product_row, quotient_row, remainder_row, shl_raw, shr_raw, not_raw, and_raw, or_raw, xor_raw}

-- ---- forms

abbrev pub made_of : Value → Option Said → Option Said → Made
made_of value first second = record { value = value; first = first; second = second }

-- by two tests
abbrev pub said_of : Bool → Bool → Said
said_of yes_if no_if = if yes_if then Yes else (if no_if then No else Maybe)

-- the same where both operands have numbers
abbrev pub said_on : Value → Value → Bool → Bool → Said
said_on a b yes_if no_if = if intervals.is_empty a.range || intervals.is_empty b.range then Unreached else said_of yes_if no_if

-- all, none or some of the interval lies from lo to hi
abbrev pub within_said : ℤ → ℤ → Interval → Said
within_said lo hi Empty = Unreached
within_said lo hi (Within a b) = said_of (intervals.is_inside a b lo hi) (int_lt b lo || int_lt hi a)
within_said lo hi All = Maybe

-- the check signed_overflow is visited
abbrev pub is_checked : Shape → Bool → Bool
is_checked shape overflow = is_signed shape && overflow

-- ---- `+ - *` and unary `-`

unfoldable pub typed_row : Shape → Bool → Value → Made
typed_row shape overflow raw =
    if is_checked shape overflow then made_of (meet_row raw (type_range shape)) (Some (within_said shape.lo shape.hi raw.range)) None
    else made_of (convert_row shape raw) None None

unfoldable pub neg_row : Shape → Bool → Value → Made
neg_row shape overflow a = typed_row shape overflow (negation_row a)

unfoldable pub add_row : Shape → Bool → Value → Value → Made
add_row shape overflow a b = typed_row shape overflow (sum_row a b)

unfoldable pub sub_row : Shape → Bool → Value → Value → Made
sub_row shape overflow a b = typed_row shape overflow (difference_row a b)

unfoldable pub mul_row : Shape → Bool → Value → Value → Made
mul_row shape overflow a b = typed_row shape overflow (product_row a b)

-- ---- `/` and `%`

abbrev pub divisor_said : Value → Value → Said
divisor_said a b = said_on a b (not (contains_row b (pos 0))) (intervals.is_just b.range (pos 0))

abbrev pub quotient_said : Shape → Value → Value → Said
quotient_said shape a b = said_on a b (not (contains_row a shape.lo) || not (contains_row b (negsuc 0))) (intervals.is_just a.range shape.lo && intervals.is_just b.range (negsuc 0))

abbrev pub is_no : Said → Bool
is_no Yes = false
is_no No = true
is_no Maybe = false
is_no Unreached = false

-- the quotient's overflow leaves no value, and what else is left is met with the type
unfoldable pub divided_row : Shape → Bool → Value → Value → Value → Made
divided_row shape overflow a b exact =
    if is_checked shape overflow then
    made_of (if is_no (quotient_said shape a b) then empty_of false else meet_row exact (type_range shape)) (Some (divisor_said a b)) (Some (quotient_said shape a b))
    else made_of (if is_signed shape then convert_row shape exact else exact) (Some (divisor_said a b)) None

unfoldable pub div_row : Shape → Bool → Value → Value → Made
div_row shape overflow a b = divided_row shape overflow a b (quotient_row a b)

unfoldable pub rem_row : Shape → Bool → Value → Value → Made
rem_row shape overflow a b = divided_row shape overflow a b (remainder_row a b)

-- ---- shifts

abbrev pub shift_range : Shape → Interval
shift_range shape = Within (pos 0) (pos shape.width -ℤ pos 1)

-- the right operand, as far as it passes the check
abbrev pub shift_of : Shape → Value → Value
shift_of shape b = meet_row b (shift_range shape)

abbrev pub shift_said : Shape → Value → Value → Said
shift_said shape a b = if intervals.is_empty a.range then Unreached else within_said (pos 0) (pos shape.width -ℤ pos 1) b.range

abbrev pub starts_at : ℤ → Interval → Bool
starts_at lo Empty = false
starts_at lo (Within a b) = int_le lo a
starts_at lo All = false

abbrev pub ends_at : ℤ → Interval → Bool
ends_at hi Empty = false
ends_at hi (Within a b) = int_le b hi
ends_at hi All = false

abbrev pub lies_below : ℤ → Interval → Bool
lies_below lo Empty = false
lies_below lo (Within a b) = int_lt b lo
lies_below lo All = false

abbrev pub lies_above : ℤ → Interval → Bool
lies_above hi Empty = false
lies_above hi (Within a b) = int_lt hi a
lies_above hi All = false

-- the left operand's part from 0 to the greatest number
abbrev pub clipped : Shape → Value → Value
clipped shape a = meet_row a (Within (pos 0) shape.hi)

abbrev pub shl_said : Shape → Value → Value → Value → Said
shl_said shape a whole part =
    if intervals.is_empty whole.range then Unreached
    else said_of (starts_at (pos 0) a.range && ends_at shape.hi whole.range) (lies_below (pos 0) a.range || lies_above shape.hi part.range)

-- by the product of the whole left operand and of its part
abbrev pub shl_from : Shape → Bool → Value → Value → Value → Value → Made
shl_from shape overflow a b whole part =
    if is_checked shape overflow then made_of (meet_row part (type_range shape)) (Some (shift_said shape a b)) (Some (shl_said shape a whole part))
    else made_of (convert_row shape whole) (Some (shift_said shape a b)) None

unfoldable pub shl_row : Shape → Bool → Value → Value → Made
shl_row shape overflow a b = shl_from shape overflow a b (shl_raw a (shift_of shape b)) (shl_raw (clipped shape a) (shift_of shape b))

unfoldable pub shr_row : Shape → Bool → Value → Value → Made
shr_row shape overflow a b = made_of (shr_raw a (shift_of shape b)) (Some (shift_said shape a b)) None

-- ---- bit operators, which have no check

unfoldable pub invert_row : Shape → Bool → Value → Made
invert_row shape overflow a = made_of (not_raw shape a) None None

unfoldable pub bit_and_row : Shape → Bool → Value → Value → Made
bit_and_row shape overflow a b = made_of (and_raw shape a b) None None

unfoldable pub bit_or_row : Shape → Bool → Value → Value → Made
bit_or_row shape overflow a b = made_of (or_raw shape a b) None None

unfoldable pub bit_xor_row : Shape → Bool → Value → Value → Made
bit_xor_row shape overflow a b = made_of (xor_raw shape a b) None None

-- ---- relations

unfoldable pub less_said : Interval → Interval → Said
less_said Empty right = Unreached
less_said (Within a b) Empty = Unreached
less_said (Within a b) (Within c d) = said_of (int_lt b c) (int_le d a)
less_said (Within a b) All = Maybe
less_said All Empty = Unreached
less_said All (Within c d) = Maybe
less_said All All = Maybe

unfoldable pub less_eq_said : Interval → Interval → Said
less_eq_said Empty right = Unreached
less_eq_said (Within a b) Empty = Unreached
less_eq_said (Within a b) (Within c d) = said_of (int_le b c) (int_lt d a)
less_eq_said (Within a b) All = Maybe
less_eq_said All Empty = Unreached
less_eq_said All (Within c d) = Maybe
less_eq_said All All = Maybe

-- `apart` says that the congruences have no number in common
abbrev pub equal_said : Interval → Interval → Bool → Said
equal_said Empty right apart = Unreached
equal_said (Within a b) Empty apart = Unreached
equal_said (Within a b) (Within c d) apart = said_of (intervals.are_one a b c d && intervals.is_one a c) (int_lt b c || int_lt d a || apart)
equal_said (Within a b) All apart = Maybe
equal_said All Empty apart = Unreached
equal_said All (Within c d) apart = Maybe
equal_said All All apart = Maybe

unfoldable pub equal_row : Value → Value → Said
equal_row a b = equal_said a.range b.range (not (congrs.may_meet a.congr b.congr))
