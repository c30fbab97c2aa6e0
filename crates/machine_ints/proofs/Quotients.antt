-- Quotients towards zero, floors and remainders, by the ends of their operands.
use Rattle.std.proofs.Common.{◌≡◌, ◌≢◌, ℕ, zero, suc, ◌/◌, ◌%◌, ◌^◌, ◌≤◌, ◌<◌, ℤ, pos, negsuc, neg_ℤ, ◌≤ℤ◌, ◌<ℤ◌, unsigned_abs, int_div, int_rem, refl, sym, arith}
use Rattle.std.specs.Int.{int_shr}
use Rattle.std.proofs.lemmas.Int.{ints, clamps}
use Rattle.std.proofs.lemmas.Nat.{mul-le, le-div, mod_below, pow_pos}
use Rattle.std.proofs.Math.Nat.{div-mul-le_self, div-le_self, div-lt_self, mod-le}
use lib.Pow.{pow_mono}
use lib.IntN.{neg_ℤ-neg_ℤ}
use Rattle.machine_ints.proofs.Corners.{Spanned, Cornered, rising, falling, cornered}

div_mono : (a b k : ℕ) → a ≤ b → a / k ≤ b / k
div_mono a b zero h = omega arith
div_mono a b (suc k) h = le-div (a / suc k) b (suc k) (omega arith) (omega (arith, div-mul-le_self a (suc k)))

div_anti : (a c d : ℕ) → 0 < c → c ≤ d → a / d ≤ a / c
div_anti a c d p h = le-div (a / d) a c p (omega (arith, div-mul-le_self a d, mul-le (a / d) c (a / d) d (omega arith) h))

-- ---- by a positive number

quot_le : (x y : ℤ) (n : ℕ) → x ≤ℤ y → int_div x (pos n) ≤ℤ int_div y (pos n)
quot_le (pos a) (pos b) n h = omega (arith, ints, div_mono a b n (omega (arith, ints)))
quot_le (pos a) (negsuc b) n h = absurd (omega (arith, ints))
quot_le (negsuc a) (pos b) n h = omega (arith, ints)
quot_le (negsuc a) (negsuc b) n h = omega (arith, ints, div_mono (suc b) (suc a) n (omega (arith, ints)))

quot_span : (x : ℤ) (c d n : ℕ) → 0 < c → c ≤ n → n ≤ d → Spanned (int_div x (pos c)) (int_div x (pos d)) (int_div x (pos n))
quot_span (pos a) c d n p h k = falling _ _ _ (omega (arith, ints, div_anti a n d (omega arith) k)) (omega (arith, ints, div_anti a c n p h))
quot_span (negsuc a) c d n p h k = rising _ _ _ (omega (arith, ints, div_anti (suc a) c n p h)) (omega (arith, ints, div_anti (suc a) n d (omega arith) k))

-- ---- by a number of either sign

quot-neg : (x : ℤ) (n : ℕ) → int_div x (negsuc n) ≡ neg_ℤ (int_div x (pos (suc n)))
quot-neg (pos a) n = refl
quot-neg (negsuc a) n = sym (neg_ℤ-neg_ℤ (pos (suc a / suc n)))

-- the divisors from c to d are not 0
quot_cornered : (a b x : ℤ) (c d n : ℕ) → a ≤ℤ x → x ≤ℤ b → 0 < c → c ≤ n → n ≤ d → Cornered (int_div a (pos c)) (int_div a (pos d)) (int_div b (pos c)) (int_div b (pos d)) (int_div x (pos n))
quot_cornered a b x c d n h k p f g = cornered _ _ _ _ _ _ _ (rising _ _ _ (quot_le a x n h) (quot_le x b n k)) (quot_span a c d n p f g) (quot_span b c d n p f g)

pub cornered_above : (a b c d x y : ℤ) → a ≤ℤ x → x ≤ℤ b → pos 0 <ℤ c → c ≤ℤ y → y ≤ℤ d → Cornered (int_div a c) (int_div a d) (int_div b c) (int_div b d) (int_div x y)
cornered_above a b (pos c) (pos d) x (pos n) h k p f g = quot_cornered a b x c d n h k (omega (arith, ints)) (omega (arith, ints)) (omega (arith, ints))
cornered_above a b (pos c) (pos d) x (negsuc n) h k p f g = absurd (omega (arith, ints))
cornered_above a b (pos c) (negsuc d) x y h k p f g = absurd (omega (arith, ints))
cornered_above a b (negsuc c) d x y h k p f g = absurd (omega (arith, ints))

pub cornered_below : (a b c d x y : ℤ) → a ≤ℤ x → x ≤ℤ b → d <ℤ pos 0 → c ≤ℤ y → y ≤ℤ d → Cornered (int_div a c) (int_div a d) (int_div b c) (int_div b d) (int_div x y)
cornered_below a b (negsuc c) (negsuc d) x (negsuc n) h k p f g =
    let s = quot_cornered a b x (suc d) (suc c) (suc n) h k (omega arith) (omega (arith, ints)) (omega (arith, ints)) in
    rw (quot-neg a c, quot-neg a d, quot-neg b c, quot-neg b d, quot-neg x n) (record { low = omega (arith, ints, clamps, s.low, s.high); high = omega (arith, ints, clamps, s.low, s.high) })
cornered_below a b (negsuc c) (negsuc d) x (pos n) h k p f g = absurd (omega (arith, ints))
cornered_below a b (pos c) (negsuc d) x y h k p f g = absurd (omega (arith, ints))
cornered_below a b c (pos d) x y h k p f g = absurd (omega (arith, ints))

-- the quotient of a number from -h to h - 1 is one, but for the least by -1
pub quotient_within : (x y : ℤ) (h : ℕ) → 0 < h → y ≢ pos 0 → (x ≡ neg_ℤ (pos h) → y ≢ negsuc 0) → neg_ℤ (pos h) ≤ℤ x → x <ℤ pos h → (neg_ℤ (pos h) ≤ℤ int_div x y) × (int_div x y <ℤ pos h)
quotient_within (pos a) (pos b) h p n m low high = let q = div-le_self a b in (omega (arith, ints), omega (arith, ints))
quotient_within (pos a) (negsuc b) h p n m low high = let q = div-le_self a (suc b) in (omega (arith, ints), omega (arith, ints))
quotient_within (negsuc a) (pos b) h p n m low high = let q = div-le_self (suc a) b in (omega (arith, ints), omega (arith, ints))
quotient_within (negsuc a) (negsuc zero) h p n m low high = let q : suc a / 1 ≤ suc a = div-le_self (suc a) 1 in let apart : suc a ≢ h = λ e. m (omega (arith, ints)) refl in
    (omega (arith, ints), omega (arith, ints))
quotient_within (negsuc a) (negsuc (suc b)) h p n m low high = let q : suc a / suc (suc b) < suc a = div-lt_self (omega arith) (omega arith) in (omega (arith, ints), omega (arith, ints))

-- ---- floors

shr_le : (x y : ℤ) (n : ℕ) → x ≤ℤ y → int_shr x n ≤ℤ int_shr y n
shr_le (pos a) (pos b) n h = omega (arith, ints, div_mono a b (2 ^ n) (omega (arith, ints)))
shr_le (pos a) (negsuc b) n h = absurd (omega (arith, ints))
shr_le (negsuc a) (pos b) n h = omega (arith, ints)
shr_le (negsuc a) (negsuc b) n h = omega (arith, ints, div_mono b a (2 ^ n) (omega (arith, ints)))

shr_span : (x : ℤ) (c d n : ℕ) → c ≤ n → n ≤ d → Spanned (int_shr x c) (int_shr x d) (int_shr x n)
shr_span (pos a) c d n h k = falling _ _ _ (omega (arith, ints, div_anti a (2 ^ n) (2 ^ d) (pow_pos n) (pow_mono k))) (omega (arith, ints, div_anti a (2 ^ c) (2 ^ n) (pow_pos c) (pow_mono h)))
shr_span (negsuc a) c d n h k = rising _ _ _ (omega (arith, ints, div_anti a (2 ^ c) (2 ^ n) (pow_pos c) (pow_mono h))) (omega (arith, ints, div_anti a (2 ^ n) (2 ^ d) (pow_pos n) (pow_mono k)))

pub cornered_shr : (a b x : ℤ) (c d n : ℕ) → a ≤ℤ x → x ≤ℤ b → c ≤ n → n ≤ d → Cornered (int_shr a c) (int_shr a d) (int_shr b c) (int_shr b d) (int_shr x n)
cornered_shr a b x c d n h k f g = cornered _ _ _ _ _ _ _ (rising _ _ _ (shr_le a x n h) (shr_le x b n k)) (shr_span a c d n f g) (shr_span b c d n f g)

-- ---- remainders

apart : (y : ℤ) → y ≢ pos 0 → 0 < unsigned_abs y
apart (pos zero) n = absurd (n refl)
apart (pos (suc b)) n = omega arith
apart (negsuc b) n = omega arith

-- the remainder has the dividend's sign, and is no farther from 0 than the dividend and the divisor less 1
pub rem_above : (x y : ℤ) (m : ℕ) → y ≢ pos 0 → unsigned_abs y ≤ suc m → pos 0 ≤ℤ x → (pos 0 ≤ℤ int_rem x y) × (int_rem x y ≤ℤ x) × (int_rem x y ≤ℤ pos m)
rem_above (pos a) y m n h _ = let below : a % unsigned_abs y < unsigned_abs y = mod_below a (unsigned_abs y) (apart y n) in (omega (arith, ints), omega (arith, ints), omega (arith, ints))
rem_above (negsuc a) y m n h k = absurd (omega (arith, ints))

pub rem_below_zero : (x y : ℤ) (m : ℕ) → y ≢ pos 0 → unsigned_abs y ≤ suc m → x ≤ℤ pos 0 → (int_rem x y ≤ℤ pos 0) × (x ≤ℤ int_rem x y) × (neg_ℤ (pos m) ≤ℤ int_rem x y)
rem_below_zero (pos a) y m n h k = let low : a % unsigned_abs y ≤ a = mod-le a (unsigned_abs y) in (omega (arith, ints), omega (arith, ints), omega (arith, ints))
rem_below_zero (negsuc a) y m n h _ = let below : suc a % unsigned_abs y < unsigned_abs y = mod_below (suc a) (unsigned_abs y) (apart y n) in
    (omega (arith, ints), omega (arith, ints), omega (arith, ints))
