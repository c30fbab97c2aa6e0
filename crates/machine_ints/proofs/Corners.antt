-- A function of two numbers that is monotone in each of them lies between its corners.
use Rattle.std.proofs.Common.{ℤ, pos, ◌*ℤ◌, ◌≤ℤ◌, ◌<ℤ◌, arith}
use Rattle.std.specs.Int.{int_min, int_max}
use Rattle.std.proofs.lemmas.Int.{ints, clamps, by_lt_z}
use Rattle.machine_ints.specs.Corners.{least4, greatest4}
use Rattle.machine_ints.proofs.Products.{mul_le, mul_ge, mul_comm}

-- z lies between p and q, whichever is less
pub record Spanned (p q z : ℤ) : Type 0 where
  pub low : int_min p q ≤ℤ z
  pub high : z ≤ℤ int_max p q

-- z lies between the corners
pub record Cornered (p q r s z : ℤ) : Type 0 where
  pub low : least4 p q r s ≤ℤ z
  pub high : z ≤ℤ greatest4 p q r s

pub rising : (p q z : ℤ) → p ≤ℤ z → z ≤ℤ q → Spanned p q z
rising p q z h k = record { low = omega (arith, ints, clamps); high = omega (arith, ints, clamps) }

pub falling : (p q z : ℤ) → q ≤ℤ z → z ≤ℤ p → Spanned p q z
falling p q z h k = record { low = omega (arith, ints, clamps); high = omega (arith, ints, clamps) }

pub cornered : (p q r s u v z : ℤ) → Spanned u v z → Spanned p q u → Spanned r s v → Cornered p q r s z
cornered p q r s u v z f g h = record { low = omega (arith, ints, clamps, f.low, g.low, h.low); high = omega (arith, ints, clamps, f.high, g.high, h.high) }

-- a product between the products of a factor's ends
pub spanned_mul : (a b x y : ℤ) → a ≤ℤ x → x ≤ℤ b → Spanned (a *ℤ y) (b *ℤ y) (x *ℤ y)
spanned_mul a b x y h k = by_lt_z y (pos 0)
    (λ (n : y <ℤ pos 0). falling _ _ _ (mul_ge x b y k (omega (arith, ints))) (mul_ge a x y h (omega (arith, ints))))
    (λ (n : pos 0 ≤ℤ y). rising _ _ _ (mul_le a x y h n) (mul_le x b y k n))

pub cornered_mul : (a b c d x y : ℤ) → a ≤ℤ x → x ≤ℤ b → c ≤ℤ y → y ≤ℤ d → Cornered (a *ℤ c) (a *ℤ d) (b *ℤ c) (b *ℤ d) (x *ℤ y)
cornered_mul a b c d x y h k f g = cornered _ _ _ _ (a *ℤ y) (b *ℤ y) _ (spanned_mul a b x y h k) (turned a) (turned b)
  where
    turned : (e : ℤ) → Spanned (e *ℤ c) (e *ℤ d) (e *ℤ y)
    turned e = rw (mul_comm e c, mul_comm e d, mul_comm e y) (spanned_mul c d y e f g)
