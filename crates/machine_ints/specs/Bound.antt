-- The bound 2^126 past which the integer domain keeps no number (this project's own).
use Rattle.std.specs.Prelude.{ℤ, ◌^◌, Bool, unsigned_abs, nat_le, Option, Some, None, if◌then◌else◌}

-- the number is at most 2^126 in absolute value
abbrev pub is_small : ℤ → Bool
is_small z = nat_le (unsigned_abs z) (2 ^ 126)

-- the number, if it is within the bound
abbrev pub bounded : ℤ → Option ℤ
bounded z = if is_small z then Some z else None
