-- Bounds of the bit operators.
use Rattle.std.proofs.Common.{◌≡◌, ℕ, zero, suc, ◌+◌, ◌-◌, ◌*◌, ◌^◌, ◌<◌, ◌≤◌, true, ℤ, pos, negsuc, neg_ℤ, ◌-ℤ◌, ◌⊎◌, ◌≤ℤ◌, ◌<ℤ◌, bit_or, bit_xor, nat_le, arith, inl, inr, ⊎_elim}
use Rattle.std.specs.Int.{int_min, int_max}
use Rattle.std.proofs.lemmas.Int.{ints, clamps}
use Rattle.std.proofs.lemmas.Nat.{or_lt, xor_lt, and_le_l, and_le_r, le_or_l, le_or_r, leading_length}
use Rattle.std.proofs.lemmas.Bool.{le-leb, leb-true, cases_lt}
use lib.Count.{count_leading_zeros}
use lib.Pow.{pow_mono}
use Rattle.machine_ints.specs.Bits.{not_of, and_of, or_of, xor_of, length_of}
use Rattle.machine_ints.specs.Divisors.{greatest}
use Rattle.machine_ints.proofs.Greatest.{IsLast, greatest_last, last_same}

-- ---- at 127 bits, for the operators' bodies

pub or_short : (a b : ℕ) → a < 2 ^ 127 → b < 2 ^ 127 → bit_or a b < 2 ^ 127
or_short = or_lt 127

pub xor_short : (a b : ℕ) → a < 2 ^ 127 → b < 2 ^ 127 → bit_xor a b < 2 ^ 127
xor_short = xor_lt 127

pub ruleset short_bits = (or_short, xor_short, and_le_l)

-- ---- the length

double : (m : ℕ) → 2 ^ suc m ≡ 2 * 2 ^ m
double m = omega arith

-- the length of n is an m with n below 2^m, if it is at most one too great
pub length_is : (n m : ℕ) → m ≤ 128 → n < 2 ^ m → 2 ^ m ≤ 2 * n + 1 → m ≡ length_of n
unfolding length_of
length_is n m le below near =
    let last = greatest_last (λ k. nat_le (2 ^ (k - 1)) n) 128 in
    let mine : IsLast (λ k. nat_le (2 ^ (k - 1)) n) 128 m = (le, passes m near, λ k h p. above k (leb-true _ _ p)) in
    omega (arith, last_same _ 128 m _ mine last, last_same _ 128 _ m last mine)
  where
    passes : (m : ℕ) → 2 ^ m ≤ 2 * n + 1 → (m ≡ 0) ⊎ (nat_le (2 ^ (m - 1)) n ≡ true)
    passes zero h = inl (omega arith)
    passes (suc m) h = let e : suc m - 1 ≡ m = omega arith in inr (le-leb _ _ (rw e (omega (arith, double m))))

    above : (k : ℕ) → 2 ^ (k - 1) ≤ n → k ≤ m
    above k h = ⊎_elim (λ (q : m < k). absurd (omega (arith, pow_mono {i = m} {j = k - 1} (omega arith)))) (λ (q : k ≤ m). q) (cases_lt m k)

pub length_from : (n zeros : ℕ) → n < 2 ^ 128 → zeros ≡ count_leading_zeros 128 n → 128 - zeros ≡ length_of n
length_from n zeros h e =
    let (m, sum, below, near) = leading_length 128 n h in
    let same : 128 - zeros ≡ m = omega arith in
    rw same (length_is n m (omega arith) below near)

full : (n : ℕ) → 2 ^ 128 ≤ n → 128 ≤ length_of n
unfolding length_of
full n h = (greatest_last (λ k. nat_le (2 ^ (k - 1)) n) 128).2 128 (omega arith) (le-leb _ _ (omega arith))

-- n is below 2^(its length), as far as lengths are counted
pub below_length : (n : ℕ) → (n < 2 ^ length_of n) ⊎ (128 ≤ length_of n)
below_length n = ⊎_elim
    (λ (h : n < 2 ^ 128). let (m, sum, below, near) = leading_length 128 n h in inl (rw (← length_is n m (omega arith) below near) below))
    (λ (h : 2 ^ 128 ≤ n). inr (full n h))
    (cases_lt n (2 ^ 128))

-- the length of what is below 2^k is at most k
pub length_least : (n k : ℕ) → n < 2 ^ k → length_of n ≤ k
unfolding length_of
length_least n k h = ⊎_elim (λ none. omega arith) (λ p. ⊎_elim (λ (q : k < l). absurd (omega (arith, leb-true _ _ p, pow_mono {i = k} {j = l - 1} (omega arith)))) (λ (q : l ≤ k). q) (cases_lt k l))
    (greatest_last (λ k. nat_le (2 ^ (k - 1)) n) 128).1
  where
    l : ℕ
    l = greatest (λ k. nat_le (2 ^ (k - 1)) n) 128

-- ---- numbers that are not negative

pub and_low : (x y : ℤ) → pos 0 ≤ℤ x → pos 0 ≤ℤ y → (pos 0 ≤ℤ and_of x y) × (and_of x y ≤ℤ int_min x y)
and_low (pos a) (pos b) h k = (omega (arith, ints), omega (arith, ints, clamps, and_le_l a b, and_le_r a b))
and_low (pos a) (negsuc b) h k = absurd (omega (arith, ints))
and_low (negsuc a) y h k = absurd (omega (arith, ints))

pub or_above : (x y : ℤ) → pos 0 ≤ℤ x → pos 0 ≤ℤ y → int_max x y ≤ℤ or_of x y
or_above (pos a) (pos b) h i = omega (arith, ints, clamps, le_or_l a b, le_or_r a b)
or_above (pos a) (negsuc b) h i = absurd (omega (arith, ints))
or_above (negsuc a) y h i = absurd (omega (arith, ints))

pub or_low : (x y : ℤ) (k : ℕ) → pos 0 ≤ℤ x → pos 0 ≤ℤ y → x <ℤ pos (2 ^ k) → y <ℤ pos (2 ^ k) → (pos 0 ≤ℤ or_of x y) × (or_of x y <ℤ pos (2 ^ k))
or_low (pos a) (pos b) k h i f g = (omega (arith, ints), omega (arith, ints, or_lt k a b (omega (arith, ints)) (omega (arith, ints))))
or_low (pos a) (negsuc b) k h i f g = absurd (omega (arith, ints))
or_low (negsuc a) y k h i f g = absurd (omega (arith, ints))

pub xor_natural : (x y : ℤ) → pos 0 ≤ℤ x → pos 0 ≤ℤ y → pos 0 ≤ℤ xor_of x y
xor_natural (pos a) (pos b) h i = omega (arith, ints)
xor_natural (pos a) (negsuc b) h i = absurd (omega (arith, ints))
xor_natural (negsuc a) y h i = absurd (omega (arith, ints))

pub xor_low : (x y : ℤ) (k : ℕ) → pos 0 ≤ℤ x → pos 0 ≤ℤ y → x <ℤ pos (2 ^ k) → y <ℤ pos (2 ^ k) → (pos 0 ≤ℤ xor_of x y) × (xor_of x y <ℤ pos (2 ^ k))
xor_low (pos a) (pos b) k h i f g = (omega (arith, ints), omega (arith, ints, xor_lt k a b (omega (arith, ints)) (omega (arith, ints))))
xor_low (pos a) (negsuc b) k h i f g = absurd (omega (arith, ints))
xor_low (negsuc a) y k h i f g = absurd (omega (arith, ints))

-- ---- numbers of a sign bit and k more

pub record IsSigned (k : ℕ) (z : ℤ) : Type 0 where
  pub low : neg_ℤ (pos (2 ^ k)) ≤ℤ z
  pub high : z <ℤ pos (2 ^ k)

from_pos : (k a : ℕ) → a < 2 ^ k → IsSigned k (pos a)
from_pos k a h = record { low = omega (arith, ints); high = omega (arith, ints) }

from_negsuc : (k a : ℕ) → a < 2 ^ k → IsSigned k (negsuc a)
from_negsuc k a h = record { low = omega (arith, ints); high = omega (arith, ints) }

pub and_signed : (k : ℕ) (x y : ℤ) → IsSigned k x → IsSigned k y → IsSigned k (and_of x y)
and_signed k (pos a) (pos b) f g = from_pos k _ (omega (arith, ints, and_le_l a b, f.high))
and_signed k (pos a) (negsuc b) f g = from_pos k _ (omega (arith, ints, f.high))
and_signed k (negsuc a) (pos b) f g = from_pos k _ (omega (arith, ints, g.high))
and_signed k (negsuc a) (negsuc b) f g = from_negsuc k _ (or_lt k a b (omega (arith, ints, f.low)) (omega (arith, ints, g.low)))

pub or_signed : (k : ℕ) (x y : ℤ) → IsSigned k x → IsSigned k y → IsSigned k (or_of x y)
or_signed k (pos a) (pos b) f g = from_pos k _ (or_lt k a b (omega (arith, ints, f.high)) (omega (arith, ints, g.high)))
or_signed k (pos a) (negsuc b) f g = from_negsuc k _ (omega (arith, ints, g.low))
or_signed k (negsuc a) (pos b) f g = from_negsuc k _ (omega (arith, ints, f.low))
or_signed k (negsuc a) (negsuc b) f g = from_negsuc k _ (omega (arith, ints, and_le_l a b, f.low))

pub xor_signed : (k : ℕ) (x y : ℤ) → IsSigned k x → IsSigned k y → IsSigned k (xor_of x y)
xor_signed k (pos a) (pos b) f g = from_pos k _ (xor_lt k a b (omega (arith, ints, f.high)) (omega (arith, ints, g.high)))
xor_signed k (pos a) (negsuc b) f g = from_negsuc k _ (xor_lt k a b (omega (arith, ints, f.high)) (omega (arith, ints, g.low)))
xor_signed k (negsuc a) (pos b) f g = from_negsuc k _ (xor_lt k a b (omega (arith, ints, f.low)) (omega (arith, ints, g.high)))
xor_signed k (negsuc a) (negsuc b) f g = from_pos k _ (xor_lt k a b (omega (arith, ints, f.low)) (omega (arith, ints, g.low)))

pub not-is : (z : ℤ) → not_of z ≡ negsuc 0 -ℤ z
not-is (pos a) = omega (arith, ints)
not-is (negsuc a) = omega (arith, ints)
