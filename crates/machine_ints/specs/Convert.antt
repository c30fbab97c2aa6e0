-- Conversions (C11 6.3.1.2, 6.3.1.3), for a type given by its least number, its greatest number and its width.
use Rattle.std.specs.Prelude.{◌≡◌, ℕ, ◌-◌, ◌^◌, ◌≤◌, zero, suc, ℤ, pos, negsuc, neg_ℤ, ◌+ℤ◌, ◌-ℤ◌, ◌⊎◌}
use Rattle.machine_ints.specs.Divisors.{residue_of}

-- the ranges of the unsigned types and of the signed types in two's complement (6.2.6.2)
abbrev pub IsType : ℤ → ℤ → ℕ → Type 0
IsType lo hi width =
    (1 ≤ width) × (width ≤ 64)
    × (((lo ≡ pos 0) × (hi ≡ pos (2 ^ width - 1)))
    ⊎ ((lo ≡ neg_ℤ (pos (2 ^ (width - 1)))) × (hi ≡ pos (2 ^ (width - 1) - 1))))

-- z modulo 2^width, from lo on: the conversion to the type, and the result of an operator that wraps
abbrev pub wrap : ℤ → ℕ → ℤ → ℤ
wrap lo width z = lo +ℤ pos (residue_of (z -ℤ lo) (2 ^ width))

-- conversion to `_Bool` (6.3.1.2)
abbrev pub bool_of : ℤ → ℤ
bool_of (pos zero) = pos 0
bool_of (pos (suc n)) = pos 1
bool_of (negsuc n) = pos 1
