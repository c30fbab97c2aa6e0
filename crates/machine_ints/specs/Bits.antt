-- `& | ^ ~` on two's complement (C11 6.5.3.3, 6.5.10 to 6.5.12). `negsuc n`, which is -n - 1, has the bits that n
-- doesn't have. The bits of a number don't depend on the type's width beyond its sign bit.
use Rattle.std.specs.Prelude.{ℕ, ◌-◌, ◌^◌, ℤ, pos, negsuc, bit_and, bit_or, bit_xor, nat_le}
use Rattle.machine_ints.specs.Divisors.{greatest}

-- the bits of a that b doesn't have
abbrev pub bits_without : ℕ → ℕ → ℕ
bits_without a b = a - bit_and a b

-- `~z`
abbrev pub not_of : ℤ → ℤ
not_of (pos a) = negsuc a
not_of (negsuc a) = pos a

-- `x & y`
abbrev pub and_of : ℤ → ℤ → ℤ
and_of (pos a) (pos b) = pos (bit_and a b)
and_of (pos a) (negsuc b) = pos (bits_without a b)
and_of (negsuc a) (pos b) = pos (bits_without b a)
and_of (negsuc a) (negsuc b) = negsuc (bit_or a b)

-- `x | y`, by De Morgan
abbrev pub or_of : ℤ → ℤ → ℤ
or_of (pos a) (pos b) = pos (bit_or a b)
or_of (pos a) (negsuc b) = negsuc (bits_without b a)
or_of (negsuc a) (pos b) = negsuc (bits_without a b)
or_of (negsuc a) (negsuc b) = negsuc (bit_and a b)

-- `x ^ y`
abbrev pub xor_of : ℤ → ℤ → ℤ
xor_of (pos a) (pos b) = pos (bit_xor a b)
xor_of (pos a) (negsuc b) = negsuc (bit_xor a b)
xor_of (negsuc a) (pos b) = negsuc (bit_xor a b)
xor_of (negsuc a) (negsuc b) = pos (bit_xor a b)

-- how many binary digits n has, for n below 2^128: the least k with n below 2^k
unfoldable pub length_of : ℕ → ℕ
length_of n = greatest (λ k. nat_le (2 ^ (k - 1)) n) 128
