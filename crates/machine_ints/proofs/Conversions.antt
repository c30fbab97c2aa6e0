-- Conversion to a type.
use Rattle.std.proofs.Common.{◌≡◌, ℕ, zero, suc, ◌-◌, ◌*◌, ◌^◌, ◌≤◌, ℤ, pos, neg_ℤ, ◌+ℤ◌, ◌-ℤ◌, ◌*ℤ◌, ◌≤ℤ◌, ◌<ℤ◌, unsigned_abs, ⊎_elim, arith}
use Rattle.std.proofs.lemmas.Int.{ints}
use Rattle.std.proofs.lemmas.Nat.{pow_pos}
use Rattle.machine_ints.specs.Convert.{wrap, IsType}
use Rattle.machine_ints.specs.Divisors.{IsMultiple}
use Rattle.machine_ints.proofs.BoundLaws.{pow_64}
use Rattle.machine_ints.proofs.Products.{mul-neg}
use Rattle.machine_ints.proofs.Residues.{residue_split, residue_below, residue_is}

-- a conversion changes a number by a multiple of 2^width
pub wrap_multiple : (lo : ℤ) (width : ℕ) (z : ℤ) → IsMultiple (pos (2 ^ width)) (wrap lo width z -ℤ z)
wrap_multiple lo width z =
    let s = residue_split (z -ℤ lo) (2 ^ width) (pow_pos width) in
    (neg_ℤ s.0, omega (arith, ints, s.1, mul-neg s.0 (pos (2 ^ width))))

-- its result is in the type
pub wrap_low : (lo : ℤ) (width : ℕ) (z : ℤ) → lo ≤ℤ wrap lo width z
wrap_low lo width z = omega (arith, ints)

pub wrap_high : (lo hi : ℤ) (width : ℕ) (z : ℤ) → hi +ℤ pos 1 ≡ lo +ℤ pos (2 ^ width) → wrap lo width z ≤ℤ hi
wrap_high lo hi width z e = omega (arith, ints, residue_below (z -ℤ lo) (2 ^ width) (pow_pos width))

-- it is the number of the type that differs by a multiple of 2^width
pub wrap_is : (lo hi : ℤ) (width : ℕ) (z y k : ℤ) → hi +ℤ pos 1 ≡ lo +ℤ pos (2 ^ width) → lo ≤ℤ y → y ≤ℤ hi → z ≡ y +ℤ k *ℤ pos (2 ^ width) → wrap lo width z ≡ y
wrap_is lo hi width z y k e g h same =
    let s = residue_is (z -ℤ lo) (2 ^ width) (unsigned_abs (y -ℤ lo)) k (omega (arith, ints)) (omega (arith, ints)) in
    omega (arith, ints, s)

-- a number of the type stays
pub wrap_same : (lo hi : ℤ) (width : ℕ) (z : ℤ) → hi +ℤ pos 1 ≡ lo +ℤ pos (2 ^ width) → lo ≤ℤ z → z ≤ℤ hi → wrap lo width z ≡ z
wrap_same lo hi width z e g h = wrap_is lo hi width z z (pos 0) e g h (omega (arith, ints))

power : (width : ℕ) → 1 ≤ width → 2 ^ width ≡ 2 * 2 ^ (width - 1)
power zero h = absurd (omega arith)
power (suc w) h = let e : suc w - 1 ≡ w = omega arith in rw e (omega arith)

-- what a type's range is
pub record IsRange (lo hi : ℤ) (width : ℕ) : Type 0 where
  pub span : hi +ℤ pos 1 ≡ lo +ℤ pos (2 ^ width)
  pub low : lo ≤ℤ pos 0
  pub high : pos 0 ≤ℤ hi
  pub least : neg_ℤ (pos (2 ^ 63)) ≤ℤ lo
  pub greatest : hi <ℤ pos (2 ^ 64)

pub range_of_type : (lo hi : ℤ) (width : ℕ) → IsType lo hi width → IsRange lo hi width
range_of_type lo hi width (h, k, kind) =
    let p = power width h in
    let q = pow_64 width k in
    let r = pow_pos (width - 1) in
    ⊎_elim
    (λ (u : (lo ≡ pos 0) × (hi ≡ pos (2 ^ width - 1))). let a = u.0 in let b = u.1 in
    record { span = omega (arith, ints); low = omega (arith, ints); high = omega (arith, ints); least = omega (arith, ints); greatest = omega (arith, ints) })
    (λ (s : (lo ≡ neg_ℤ (pos (2 ^ (width - 1)))) × (hi ≡ pos (2 ^ (width - 1) - 1))). let a = s.0 in let b = s.1 in
    record { span = omega (arith, ints); low = omega (arith, ints); high = omega (arith, ints); least = omega (arith, ints); greatest = omega (arith, ints) })
    kind
