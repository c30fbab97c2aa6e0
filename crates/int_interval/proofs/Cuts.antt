-- The cut at the bound.
use Rattle.std.proofs.Common.{◌≡◌, ◌^◌, ◌≤◌, ◌<◌, max, ℤ, pos, ◌≤ℤ◌, ◌<ℤ◌, unsigned_abs, Option, Some, None, Bool, false, ◌⊎◌, refl, sym, arith, inl, inr, ⊎_elim}
use Rattle.std.proofs.lemmas.Int.{ints, clamps, by_lt_z}
use Rattle.std.proofs.lemmas.Bool.{cases_lt}
use lib.Pow.{pow_mono}
use Rattle.machine_ints.specs.Bits.{length_of}
use Rattle.machine_ints.specs.Bound.{bounded}
use Rattle.machine_ints.specs.Corners.{least4, greatest4}
use Rattle.machine_ints.proofs.BoundLaws.{bounded_in, bounded_out}
use Rattle.int_interval.specs.declared.interval.Interval.{Interval}
use Rattle.int_interval.specs.declared.interval.Interval.TheVariants.{Within, All}
use Rattle.int_interval.specs.Rows.{range_of, cut, four_of, corner_cut, mask, are_one, reach, remainder_low, remainder_high, remainders}

pub cut_in : (lo hi : ℤ) → unsigned_abs lo ≤ 2 ^ 126 → unsigned_abs hi ≤ 2 ^ 126 → cut lo hi ≡ Within lo hi
cut_in lo hi h k = rw (bounded_in lo h, bounded_in hi k) refl

no_end : (o : Option ℤ) → range_of o None ≡ All
no_end None = refl
no_end (Some lo) = refl

pub cut_low : (lo hi : ℤ) → 2 ^ 126 < unsigned_abs lo → cut lo hi ≡ All
cut_low lo hi h = rw (bounded_out lo h) refl

pub cut_high : (lo hi : ℤ) → 2 ^ 126 < unsigned_abs hi → cut lo hi ≡ All
cut_high lo hi h = rw (bounded_out hi h) (no_end (bounded lo))

-- a corner past the bound
far : (w x y z : ℤ) → (2 ^ 126 < unsigned_abs w) ⊎ ((2 ^ 126 < unsigned_abs x) ⊎ ((2 ^ 126 < unsigned_abs y) ⊎ (2 ^ 126 < unsigned_abs z))) → All ≡ cut (least4 w x y z) (greatest4 w x y z)
far w x y z h = ⊎_elim (one w (omega (arith, ints, clamps)) (omega (arith, ints, clamps)))
    (⊎_elim (one x (omega (arith, ints, clamps)) (omega (arith, ints, clamps)))
    (⊎_elim (one y (omega (arith, ints, clamps)) (omega (arith, ints, clamps))) (one z (omega (arith, ints, clamps)) (omega (arith, ints, clamps))))) h
  where
    one : (e : ℤ) → least4 w x y z ≤ℤ e → e ≤ℤ greatest4 w x y z → 2 ^ 126 < unsigned_abs e → All ≡ cut (least4 w x y z) (greatest4 w x y z)
    one e low high h = by_lt_z e (pos 0) (λ (n : e <ℤ pos 0). sym (cut_low (least4 w x y z) (greatest4 w x y z) (omega (arith, ints))))
        (λ (n : pos 0 ≤ℤ e). sym (cut_high (least4 w x y z) (greatest4 w x y z) (omega (arith, ints))))

four-bounded : (w x y z : ℤ) → four_of (bounded w) (bounded x) (bounded y) (bounded z) ≡ cut (least4 w x y z) (greatest4 w x y z)
four-bounded w x y z =
    ⊎_elim (λ (h : 2 ^ 126 < unsigned_abs w). rw (bounded_out w h) (far w x y z (inl h))) (λ (h : unsigned_abs w ≤ 2 ^ 126). rw (bounded_in w h)
    (⊎_elim (λ (i : 2 ^ 126 < unsigned_abs x). rw (bounded_out x i) (far w x y z (inr (inl i)))) (λ (i : unsigned_abs x ≤ 2 ^ 126). rw (bounded_in x i)
    (⊎_elim (λ (j : 2 ^ 126 < unsigned_abs y). rw (bounded_out y j) (far w x y z (inr (inr (inl j))))) (λ (j : unsigned_abs y ≤ 2 ^ 126). rw (bounded_in y j)
    (⊎_elim (λ (k : 2 ^ 126 < unsigned_abs z). rw (bounded_out z k) (far w x y z (inr (inr (inr k))))) (λ (k : unsigned_abs z ≤ 2 ^ 126). rw (bounded_in z k)
    (sym (cut_in _ _ (omega (arith, ints, clamps)) (omega (arith, ints, clamps)))))
    (cases_lt (2 ^ 126) (unsigned_abs z))))
    (cases_lt (2 ^ 126) (unsigned_abs y))))
    (cases_lt (2 ^ 126) (unsigned_abs x))))
    (cases_lt (2 ^ 126) (unsigned_abs w))

-- the body's four corners give the definition's interval
pub corner_four : (f : ℤ → ℤ → ℤ) (a b c d : ℤ) (p q r s : Option ℤ) → p ≡ bounded (f a c) → q ≡ bounded (f a d) → r ≡ bounded (f b c) → s ≡ bounded (f b d) → four_of p q r s ≡ corner_cut f a b c d
unfolding corner_cut
corner_four f a b c d p q r s e g h i = rw (e, g, h, i) (four-bounded (f a c) (f a d) (f b c) (f b d))

-- a mask of more than 126 bits is past the bound
pub mask_out : (b d : ℤ) → 126 < length_of (max (unsigned_abs b) (unsigned_abs d)) → None ≡ bounded (mask b d)
mask_out b d h = sym (bounded_out (mask b d) (omega (arith, pow_mono {i = 127} {j = length_of (max (unsigned_abs b) (unsigned_abs d))} h)))

-- the last case of the remainders
pub remainders_many : (a b c d : ℤ) (one none : Bool) (r : Interval) → none ≡ are_one c (pos 0) d (pos 0) → none ≡ false → one ≡ are_one a b c d → one ≡ false
    → r ≡ cut (remainder_low a (reach c d)) (remainder_high b (reach c d)) → r ≡ remainders a b c d
unfolding remainders
remainders_many a b c d one none r e f g h k = rw (← e, f, ← g, h) k
