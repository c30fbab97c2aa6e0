-- The tests that decide a check by the ends of the operands' ranges.
use Rattle.std.specs.Prelude.{ℕ, ◌^◌, ℤ, pos, negsuc, neg_ℤ, ◌+ℤ◌, ◌-ℤ◌, ◌*ℤ◌, int_le, int_lt, nat_lt, unsigned_abs, max, Bool, true, false, not, ◌&&◌, if◌then◌else◌, Option, Some, None}
use Rattle.machine_ints.specs.Bits.{not_of}
use Rattle.machine_ints.specs.Bound.{bounded}
use Rattle.machine_ints.specs.declared.decided.Ends.{Ends}
use Rattle.machine_ints.specs.declared.operators.Check.{Check}
use Rattle.machine_ints.specs.declared.operators.Check.TheVariants.{Division, Overflow, Shift}
use Rattle.machine_ints.specs.declared.operators.Operator.{Operator}
use Rattle.machine_ints.specs.declared.operators.Operator.TheVariants.{Add, Sub, Mul, Div, Rem, Shl, Shr, And, Or, Xor}
use Rattle.machine_ints.specs.declared.operators.UnaryOperator.{UnaryOperator}
use Rattle.machine_ints.specs.declared.operators.UnaryOperator.TheVariants.{Negate, Complement}

abbrev pub is_among : Ends → ℤ → Bool
is_among ends z = int_le ends.lo z && int_le z ends.hi

-- the number is within the bound and in the range
abbrev pub is_given_among : Ends → Option ℤ → Bool
is_given_among ends None = false
is_given_among ends (Some z) = is_among ends z

abbrev pub are_given_among : Ends → Option ℤ → Option ℤ → Bool
are_given_among ends p q = is_given_among ends p && is_given_among ends q

-- the greatest absolute value of the range
abbrev pub reach : Ends → ℕ
reach ends = max (unsigned_abs ends.lo) (unsigned_abs ends.hi)

-- 0, or times 2^by in the range
abbrev pub is_shifted_among : Ends → ℤ → ℕ → Bool
is_shifted_among ends top by =
    if int_le top (pos 0) then true
    else (if nat_lt by 127 then is_given_among ends (bounded (top *ℤ pos (2 ^ by))) else false)

abbrev pub ends_fit : Operator → Ends → Ends → Ends → Bool
ends_fit Add t a b = are_given_among t (bounded (a.lo +ℤ b.lo)) (bounded (a.hi +ℤ b.hi))
ends_fit Sub t a b = are_given_among t (bounded (a.lo -ℤ b.hi)) (bounded (a.hi -ℤ b.lo))
ends_fit Mul t a b =
    are_given_among t (bounded (a.lo *ℤ b.lo)) (bounded (a.lo *ℤ b.hi))
    && are_given_among t (bounded (a.hi *ℤ b.lo)) (bounded (a.hi *ℤ b.hi))
ends_fit Div t a b = not (is_among a t.lo && is_among b (negsuc 0))
ends_fit Rem t a b = not (is_among a t.lo && is_among b (negsuc 0))
ends_fit Shl t a b = int_le (pos 0) a.lo && is_shifted_among t a.hi (reach b)
ends_fit Shr t a b = true
ends_fit And t a b = true
ends_fit Or t a b = true
ends_fit Xor t a b = true

abbrev pub ends_pass : Check → Operator → Ends → ℕ → Ends → Ends → Bool
ends_pass Division op t width a b = not (is_among b (pos 0))
ends_pass Overflow op t width a b = ends_fit op t a b
ends_pass Shift op t width a b = int_le (pos 0) b.lo && int_lt b.hi (pos width)

abbrev pub unary_ends_fit : UnaryOperator → Ends → Ends → Bool
unary_ends_fit Negate t a = are_given_among t (bounded (neg_ℤ a.hi)) (bounded (neg_ℤ a.lo))
unary_ends_fit Complement t a = are_given_among t (Some (not_of a.hi)) (Some (not_of a.lo))
