-- Divisors and residues of whole numbers.
use Rattle.std.specs.Prelude.{◌≡◌, ℕ, zero, suc, ◌%◌, max, Bool, ◌==◌, ◌&&◌, if◌then◌else◌, ℤ, pos, ◌*ℤ◌, unsigned_abs}
use Rattle.std.specs.Int.{int_rem_euclid}

-- d divides n, where 0 divides 0 alone
abbrev pub divides : ℕ → ℕ → Bool
divides d n = n % d == 0

-- the greatest number from 1 to n that passes the test, else 0
abbrev pub greatest : (ℕ → Bool) → ℕ → ℕ
greatest test zero = 0
greatest test (suc n) = if test (suc n) then suc n else greatest test n

-- the greatest common divisor, where that of 0 and 0 is 0
unfoldable pub gcd_of : ℕ → ℕ → ℕ
gcd_of a b = greatest (λ d. divides d a && divides d b) (max a b)

-- z is a multiple of m
abbrev pub IsMultiple : ℤ → ℤ → Type 0
IsMultiple m z = (k : ℤ) × (z ≡ k *ℤ m)

-- the number from 0 to m - 1 that differs from z by a multiple of m
abbrev pub residue_of : ℤ → ℕ → ℕ
residue_of z m = unsigned_abs (int_rem_euclid z (pos m))
