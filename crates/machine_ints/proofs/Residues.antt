-- Residues: each number is its residue and a multiple, and there is one such residue.
use Rattle.std.proofs.Common.{◌≡◌, ℕ, zero, suc, ◌-◌, ◌/◌, ◌%◌, ◌≤◌, ◌<◌, ℤ, pos, negsuc, ◌+ℤ◌, ◌-ℤ◌, ◌*ℤ◌, ◌≤ℤ◌, sym, arith}
use Rattle.std.proofs.lemmas.Int.{ints}
use Rattle.std.proofs.lemmas.Nat.{div-add-mod', mod_below}
use Rattle.std.proofs.Math.Nat.{mod-le}
use Rattle.machine_ints.specs.Divisors.{residue_of, IsMultiple}
use Rattle.machine_ints.proofs.Products.{distrib-sub, distrib}

pub residue_split : (z : ℤ) (m : ℕ) → 0 < m → (k : ℤ) × (z ≡ pos (residue_of z m) +ℤ k *ℤ pos m)
residue_split (pos a) m h = (pos (a / m), omega (arith, ints, div-add-mod' a m))
residue_split (negsuc a) m h = (negsuc (a / m), omega (arith, ints, div-add-mod' a m, mod_below a m h))

pub residue_below : (z : ℤ) (m : ℕ) → 0 < m → residue_of z m < m
residue_below (pos a) m h = mod_below a m h
residue_below (negsuc a) m h = omega (arith, mod_below a m h)

pub residue_unique : (r s m : ℕ) (k : ℤ) → r < m → s < m → pos r ≡ pos s +ℤ k *ℤ pos m → r ≡ s
residue_unique r s m (pos zero) f g e = omega (arith, ints)
residue_unique r s m (pos (suc n)) f g e = absurd (omega (arith, ints))
residue_unique r s m (negsuc n) f g e = absurd (omega (arith, ints))

pub residue_is : (z : ℤ) (m r : ℕ) (k : ℤ) → r < m → z ≡ pos r +ℤ k *ℤ pos m → residue_of z m ≡ r
residue_is z m r k h e =
    let s = residue_split z m (omega arith) in
    residue_unique (residue_of z m) r m (k -ℤ s.0) (residue_below z m (omega arith)) h
    (omega (arith, ints, e, s.1, distrib-sub k s.0 (pos m)))

-- the residue of a difference, from those of both numbers
pub residue-sub : (r s m : ℕ) (x y : ℤ) → 0 < m → r ≡ residue_of x m → s ≡ residue_of y m → s ≤ r → r - s ≡ residue_of (x -ℤ y) m
residue-sub r s m x y h e f le =
    let j = residue_split x m h in
    let k = residue_split y m h in
    let b : r < m = omega (arith, residue_below x m h) in
    sym (residue_is (x -ℤ y) m (r - s) (j.0 -ℤ k.0) (omega arith) (omega (arith, ints, j.1, k.1, distrib-sub j.0 k.0 (pos m))))

pub residue-sub_over : (r s m : ℕ) (x y : ℤ) → 0 < m → r ≡ residue_of x m → s ≡ residue_of y m → r < s → m - (s - r) ≡ residue_of (x -ℤ y) m
residue-sub_over r s m x y h e f lt =
    let j = residue_split x m h in
    let k = residue_split y m h in
    let b : s < m = omega (arith, residue_below y m h) in
    sym (residue_is (x -ℤ y) m (m - (s - r)) (j.0 -ℤ k.0 -ℤ pos 1) (omega arith) (omega (arith, ints, j.1, k.1, distrib-sub j.0 k.0 (pos m), distrib-sub (j.0 -ℤ k.0) (pos 1) (pos m))))

pub ruleset residue_steps = (residue-sub, residue-sub_over)

-- a number that is not negative is no less than its residue
pub residue_le : (z : ℤ) (m : ℕ) → pos 0 ≤ℤ z → pos (residue_of z m) ≤ℤ z
residue_le (pos a) m h = let low : a % m ≤ a = mod-le a m in omega (arith, ints)
residue_le (negsuc a) m h = absurd (omega (arith, ints))

-- numbers that differ by a multiple have one residue
pub residue_same : (x y : ℤ) (m : ℕ) → 0 < m → IsMultiple (pos m) (x -ℤ y) → residue_of x m ≡ residue_of y m
residue_same x y m h (k, e) =
    let s = residue_split y m h in
    residue_is x m (residue_of y m) (k +ℤ s.0) (residue_below y m h) (omega (arith, ints, e, s.1, distrib k s.0 (pos m)))
