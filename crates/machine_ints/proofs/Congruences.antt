-- Multiples of a number, under sums, products and a divisor of that number.
use Rattle.std.proofs.Common.{◌≡◌, ℕ, ◌/◌, ℤ, pos, negsuc, neg_ℤ, ◌+ℤ◌, ◌-ℤ◌, ◌*ℤ◌, ◌↔◌, unsigned_abs, ◌<◌, Bool, true, false, nat_eq, refl, subst, ap, ◌∙◌, sym, suc, arith}
use Rattle.std.specs.Int.{◌∣◌}
use Rattle.std.proofs.lemmas.Int.{ints, unsigned_abs-mul}
use Rattle.std.proofs.Math.Nat.{div-mul_cancel, dvd-mul_left}
use Rattle.std.proofs.lemmas.Bool.{eq-eqb, ne_eqb, false≢true}
use Rattle.machine_ints.specs.Divisors.{IsMultiple, divides, gcd_of, residue_of}
use Rattle.machine_ints.proofs.Gcds.{divides-true, true-divides, gcd-divides}
use Rattle.machine_ints.proofs.Residues.{residue_is, residue_split}
use Rattle.machine_ints.proofs.Products.{distrib, distrib-sub, assoc, mul_comm, mul-neg}

pub multiple_add : (m x y : ℤ) → IsMultiple m x → IsMultiple m y → IsMultiple m (x +ℤ y)
multiple_add m x y (j, e) (k, f) = (j +ℤ k, omega (arith, ints, e, f, distrib j k m))

pub multiple_sub : (m x y : ℤ) → IsMultiple m x → IsMultiple m y → IsMultiple m (x -ℤ y)
multiple_sub m x y (j, e) (k, f) = (j -ℤ k, omega (arith, ints, e, f, distrib-sub j k m))

pub multiple_trans : (g m z : ℤ) → IsMultiple g m → IsMultiple m z → IsMultiple g z
multiple_trans g m z (j, e) (k, f) = (k *ℤ j, f ∙ ap (λ y. k *ℤ y) e ∙ sym (assoc k j g))

-- divisibility of the absolute values
pub multiple_of_dvd : (g : ℕ) (m : ℤ) → g ∣ unsigned_abs m → IsMultiple (pos g) m
multiple_of_dvd g (pos a) d = (pos (a / g), omega (arith, ints, div-mul_cancel g d))
multiple_of_dvd g (negsuc a) d = (neg_ℤ (pos (suc a / g)), sym (mul-neg (pos (suc a / g)) (pos g) ∙ ap (λ (n : ℕ). neg_ℤ (pos n)) (div-mul_cancel g d)))

pub dvd_of_multiple : (g : ℕ) (z : ℤ) → IsMultiple (pos g) z → g ∣ unsigned_abs z
dvd_of_multiple g z (k, e) = subst (λ (n : ℕ). g ∣ n) (sym (ap unsigned_abs e ∙ unsigned_abs-mul k (pos g))) (dvd-mul_left g (unsigned_abs k))

-- the test says so
pub multiple-divides : (g : ℕ) (z : ℤ) → (divides g (unsigned_abs z) ≡ true) ↔ IsMultiple (pos g) z
multiple-divides g z = (λ e. multiple_of_dvd g z (divides-true g (unsigned_abs z) e), λ m. true-divides g (unsigned_abs z) (dvd_of_multiple g z m))

pub multiple_one : (z : ℤ) → IsMultiple (pos 1) z
multiple_one z = (z, omega (arith, ints))

pub multiple_neg : (m x : ℤ) → IsMultiple m x → IsMultiple m (neg_ℤ x)
multiple_neg m x (k, e) = (neg_ℤ k, ap neg_ℤ e ∙ sym (mul-neg k m))

-- of a gcd
pub multiple_left : (m n : ℕ) (z : ℤ) → IsMultiple (pos m) z → IsMultiple (pos (gcd_of m n)) z
multiple_left m n z h = multiple_trans (pos (gcd_of m n)) (pos m) z (multiple_of_dvd (gcd_of m n) (pos m) (gcd-divides m n).0) h

pub multiple_right : (m n : ℕ) (z : ℤ) → IsMultiple (pos n) z → IsMultiple (pos (gcd_of m n)) z
multiple_right m n z h = multiple_trans (pos (gcd_of m n)) (pos n) z (multiple_of_dvd (gcd_of m n) (pos n) (gcd-divides m n).1) h

-- of a product
pub multiple_self : (z : ℤ) → IsMultiple (pos (unsigned_abs z)) z
multiple_self (pos a) = (pos 1, omega (arith, ints))
multiple_self (negsuc a) = (negsuc 0, omega (arith, ints))

swapped : (j m k n : ℤ) → (j *ℤ m) *ℤ (k *ℤ n) ≡ (j *ℤ k) *ℤ (m *ℤ n)
swapped j m k n = assoc j m (k *ℤ n) ∙ ap (λ x. j *ℤ x) (sym (assoc m k n) ∙ ap (λ x. x *ℤ n) (mul_comm m k) ∙ assoc k m n) ∙ sym (assoc j k (m *ℤ n))

pub multiple_times : (x y m n : ℤ) → IsMultiple m x → IsMultiple n y → IsMultiple (m *ℤ n) (x *ℤ y)
multiple_times x y m n (j, e) (k, f) = (j *ℤ k, rw (e, f) (swapped j m k n))

-- a product's distance from the product of remainders
pub expanded : (r s u v : ℤ) → (r +ℤ u) *ℤ (s +ℤ v) ≡ r *ℤ s +ℤ (u *ℤ v +ℤ (u *ℤ s +ℤ v *ℤ r))
expanded r s u v = distrib r u (s +ℤ v) ∙ omega (arith, ints, mul_comm r (s +ℤ v), mul_comm u (s +ℤ v), distrib s v r, distrib s v u)

-- a residue is 0 where the modulus divides
pub residue-zero : (z : ℤ) (m r : ℕ) → 0 < m → r ≡ residue_of z m → nat_eq r 0 ≡ divides m (unsigned_abs z)
residue-zero z m r h same = by_test (divides m (unsigned_abs z)) refl
  where
    by_test : (b : Bool) → divides m (unsigned_abs z) ≡ b → nat_eq r 0 ≡ b
    by_test true e = let k = (multiple-divides m z).0 e in eq-eqb r 0 (same ∙ residue_is z m 0 k.0 h (omega (arith, ints, k.1)))
    by_test false e = ne_eqb r 0 (λ zero. let s = residue_split z m h in false≢true (sym e ∙ (multiple-divides m z).1 (s.0, omega (arith, ints, s.1))))

pub product_gap : (x y r s u v : ℤ) → x ≡ r +ℤ u → y ≡ s +ℤ v → x *ℤ y -ℤ r *ℤ s ≡ u *ℤ v +ℤ (u *ℤ s +ℤ v *ℤ r)
product_gap x y r s u v e f = let g : x *ℤ y ≡ r *ℤ s +ℤ (u *ℤ v +ℤ (u *ℤ s +ℤ v *ℤ r)) = rw (e, f) (expanded r s u v) in moved (x *ℤ y) (r *ℤ s) (u *ℤ v +ℤ (u *ℤ s +ℤ v *ℤ r)) g
  where
    moved : (p q w : ℤ) → p ≡ q +ℤ w → p -ℤ q ≡ w
    moved p q w h = omega (arith, ints)
