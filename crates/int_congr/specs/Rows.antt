-- What each operator answers (this project's own; after Granger's domain of congruences). All of it is over whole
-- numbers without bound, but for the cut: where a number of the computation is past 2^126, nothing is known.
use Rattle.std.specs.Prelude.{◌≢◌, ◌⊎◌, ℕ, ◌^◌, ℤ, pos, neg_ℤ, ◌+ℤ◌, ◌-ℤ◌, ◌*ℤ◌, ◌≤ℤ◌, ◌<ℤ◌, int_div, int_rem, unsigned_abs, nat_le, ◌==◌, ◌&&◌, Bool, if◌then◌else◌, Option, Some, None}
use Rattle.machine_ints.specs.Bits.{and_of, or_of, xor_of}
use Rattle.machine_ints.specs.Bound.{bounded}
use Rattle.machine_ints.specs.Convert.{wrap}
use Rattle.machine_ints.specs.Divisors.{divides, gcd_of, residue_of}
use Rattle.machine_ints.specs.Operators.{shr_of}
use Rattle.int_interval.specs.Shapes.{top_of}
use Rattle.int_interval.specs.declared.shape.Shape.{Shape}
use Rattle.int_congr.specs.declared.congr.Congr.{Congr}

-- ---- forms

-- what stands for every number
abbrev pub unknown_of : Congr
unknown_of = record { rem = pos 0; modulus = pos 1 }

-- one number
abbrev pub only : ℤ → Congr
only r = record { rem = r; modulus = pos 0 }

-- the numbers that differ from r by a multiple of m, which isn't 0, if m is within the bound
abbrev pub modulo_period : ℤ → ℕ → Congr
modulo_period r m = if nat_le m (2 ^ 126) then record { rem = pos (residue_of r m); modulus = pos m } else unknown_of

-- the numbers that differ from r by a multiple of m, with r brought below m; 0 has the multiple 0 alone
abbrev pub modulo : Option ℤ → ℕ → Congr
modulo None m = unknown_of
modulo (Some r) m = if m == 0 then only r else modulo_period r m

abbrev pub congr_of : ℤ → ℕ → Congr
congr_of r m = modulo (bounded r) m

-- the modulus without its sign, which says nothing
abbrev pub period : Congr → ℕ
period c = unsigned_abs c.modulus

abbrev pub is_only : Congr → Bool
is_only c = period c == 0

-- exact on single numbers, else unknown
abbrev pub by_only : (ℤ → ℤ → Congr) → Congr → Congr → Congr
by_only f a b = if is_only a && is_only b then f a.rem b.rem else unknown_of

-- ---- sets

unfoldable pub contains_row : Congr → ℤ → Bool
contains_row c z = divides (period c) (unsigned_abs (z -ℤ c.rem))

-- the least congruence with both, as far as the bound lets it be told
abbrev pub join_from : Option ℤ → Congr → Congr → Congr
join_from None a b = unknown_of
join_from (Some far) a b = congr_of a.rem (gcd_of (period a) (gcd_of (period b) (unsigned_abs far)))

unfoldable pub join_row : Congr → Congr → Congr
join_row a b = join_from (bounded (a.rem -ℤ b.rem)) a b

-- the second's period divides the first's and the difference of the remainders
unfoldable pub included_row : Congr → Congr → Bool
included_row a b = divides (period b) (period a) && divides (period b) (unsigned_abs (a.rem -ℤ b.rem))

-- some number may be in both
unfoldable pub may_meet : Congr → Congr → Bool
may_meet a b = divides (gcd_of (period a) (period b)) (unsigned_abs (a.rem -ℤ b.rem))

-- ---- arithmetic

unfoldable pub negative_row : Congr → Congr
negative_row a = congr_of (neg_ℤ a.rem) (period a)

unfoldable pub sum_row : Congr → Congr → Congr
sum_row a b = congr_of (a.rem +ℤ b.rem) (gcd_of (period a) (period b))

unfoldable pub difference_row : Congr → Congr → Congr
difference_row a b = congr_of (a.rem -ℤ b.rem) (gcd_of (period a) (period b))

-- of the products m1 m2, m1 r2, m2 r1 and r1 r2
abbrev pub product_from : Option ℤ → Option ℤ → Option ℤ → Option ℤ → Congr
product_from None q s r = unknown_of
product_from (Some p) None s r = unknown_of
product_from (Some p) (Some q) None r = unknown_of
product_from (Some p) (Some q) (Some s) r = modulo r (gcd_of (unsigned_abs p) (gcd_of (unsigned_abs q) (unsigned_abs s)))

unfoldable pub product_row : Congr → Congr → Congr
product_row a b = product_from (bounded (a.modulus *ℤ b.modulus)) (bounded (a.modulus *ℤ b.rem)) (bounded (b.modulus *ℤ a.rem)) (bounded (a.rem *ℤ b.rem))

abbrev pub is_zero : ℤ → Bool
is_zero z = unsigned_abs z == 0

unfoldable pub quotient_row : Congr → Congr → Congr
quotient_row = by_only (λ x y. if is_zero y then unknown_of else congr_of (int_div x y) 0)

unfoldable pub remainder_row : Congr → Congr → Congr
remainder_row = by_only (λ x y. if is_zero y then unknown_of else congr_of (int_rem x y) 0)

-- ---- shifts

-- the right operand, if it is one number, lies within 0 to the width less 1
abbrev pub IsShift : Shape → Congr → Type 0
IsShift shape c = (c.modulus ≢ pos 0) ⊎ ((pos 0 ≤ℤ c.rem) × (c.rem <ℤ pos shape.width))

-- times the one power of two
unfoldable pub shl_row : Congr → Congr → Congr
shl_row a b = if is_only b then product_row a (only (pos (2 ^ unsigned_abs b.rem))) else unknown_of

unfoldable pub shr_row : Congr → Congr → Congr
shr_row = by_only (λ x y. congr_of (shr_of x y) 0)

-- ---- bits

-- `~x` is -1 - x, and of an unsigned type its greatest number less x
unfoldable pub not_row : Shape → Congr → Congr
not_row shape a = congr_of (top_of shape -ℤ a.rem) (period a)

unfoldable pub and_row : Congr → Congr → Congr
and_row = by_only (λ x y. congr_of (and_of x y) 0)

unfoldable pub or_row : Congr → Congr → Congr
or_row = by_only (λ x y. congr_of (or_of x y) 0)

unfoldable pub xor_row : Congr → Congr → Congr
xor_row = by_only (λ x y. congr_of (xor_of x y) 0)

-- ---- conversion

-- by 2^width, and exact for one number
unfoldable pub convert_row : Shape → Congr → Congr
convert_row shape a = if is_only a then congr_of (wrap shape.lo shape.width a.rem) 0 else congr_of a.rem (gcd_of (period a) (2 ^ shape.width))
