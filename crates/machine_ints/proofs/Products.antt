use Rattle.std.proofs.Common.{◌≡◌, ℕ, ◌+◌, ◌*◌, ◌≤◌, ℤ, pos, negsuc, ◌+ℤ◌, ◌-ℤ◌, ◌*ℤ◌, neg_ℤ, ◌≤ℤ◌, ap, arith, suc}
use Rattle.std.proofs.lemmas.Int.{ints}
use Rattle.std.proofs.lemmas.Nat.{mul-le}
use borrow.Author.Differences.{up, down, neg_is, sum_is_lem, product_is}

-- products distribute over sums
pub distrib : (a b c : ℤ) → (a +ℤ b) *ℤ c ≡ a *ℤ c +ℤ b *ℤ c
distrib a b c = omega (arith, ints, ap (λ (n : ℕ). n * up c) (sum_is_lem a b), ap (λ (n : ℕ). n * down c) (sum_is_lem a b))

pub assoc : (a b c : ℤ) → (a *ℤ b) *ℤ c ≡ a *ℤ (b *ℤ c)
assoc a b c = omega (
  arith,
  ints,
  product_is a b,
  product_is b c,
  ap (λ (n : ℕ). n * up c) ((product_is a b).0),
  ap (λ (n : ℕ). n * down c) ((product_is a b).0),
  ap (λ (n : ℕ). n * up c) ((product_is a b).1),
  ap (λ (n : ℕ). n * down c) ((product_is a b).1),
  ap (λ (n : ℕ). up a * n) ((product_is b c).0),
  ap (λ (n : ℕ). down a * n) ((product_is b c).0),
  ap (λ (n : ℕ). up a * n) ((product_is b c).1),
  ap (λ (n : ℕ). down a * n) ((product_is b c).1),
)

scaled : (a b : ℤ) (k : ℕ) → up a + down b ≤ up b + down a → up a * k + down b * k ≤ up b * k + down a * k
scaled a b k h = omega (arith, mul-le (up a + down b) k (up b + down a) k h (omega arith))

-- products grow with a factor where the other is not negative
pub mul_le : (a b c : ℤ) → a ≤ℤ b → pos 0 ≤ℤ c → (a *ℤ c) ≤ℤ (b *ℤ c)
mul_le a b (pos k) h _ = omega (arith, ints, scaled a b k (omega (arith, ints)))
mul_le a b (negsuc k) h n = absurd (omega (arith, ints))

-- and fall where it is negative
pub mul_ge : (a b c : ℤ) → a ≤ℤ b → c ≤ℤ pos 0 → (b *ℤ c) ≤ℤ (a *ℤ c)
mul_ge a b (pos k) h n = let z : k ≡ 0 = omega (arith, ints) in rw z (omega (arith, ints))
mul_ge a b (negsuc k) h _ = omega (arith, ints, scaled a b (suc k) (omega (arith, ints)))

pub mul-neg : (a c : ℤ) → neg_ℤ a *ℤ c ≡ neg_ℤ (a *ℤ c)
mul-neg a c = omega (arith, ints, ap (λ (n : ℕ). n * up c) (neg_is a).0, ap (λ (n : ℕ). n * down c) (neg_is a).0, ap (λ (n : ℕ). n * up c) (neg_is a).1, ap (λ (n : ℕ). n * down c) (neg_is a).1)

pub distrib-sub : (a b c : ℤ) → (a -ℤ b) *ℤ c ≡ a *ℤ c -ℤ b *ℤ c
distrib-sub a b c = omega (arith, ints, distrib a (neg_ℤ b) c, mul-neg b c)

pub mul_comm : (a b : ℤ) → a *ℤ b ≡ b *ℤ a
mul_comm a b = omega (arith, ints)
