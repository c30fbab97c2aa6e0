-- What the answers stand for, operator by operator.
use Rattle.std.proofs.Common.{◌≡◌, ◌≢◌, ℕ, suc, ◌^◌, ◌≤◌, ◌<◌, max, ℤ, pos, negsuc, neg_ℤ, ◌+ℤ◌, ◌-ℤ◌, ◌*ℤ◌, ◌≤ℤ◌}
use Rattle.std.proofs.Common.{◌<ℤ◌, unsigned_abs, int_div, int_rem, int_le, int_lt, Bool, true, false, cond, ◌⊎◌, refl, sym, subst, arith, inl, inr, ⊎_elim}
use Rattle.std.specs.Int.{int_min, int_max}
use Rattle.std.proofs.lemmas.Int.{ints, clamps, by_lt_z}
use Rattle.std.proofs.lemmas.Bool.{cases_lt, and_parts, and_from, false≢true}
use lib.Pow.{pow_mono, pow_pos}
use Rattle.machine_ints.specs.Bits.{and_of, or_of, xor_of, not_of, length_of}
use Rattle.machine_ints.specs.Convert.{wrap}
use Rattle.machine_ints.specs.Corners.{least4, greatest4}
use Rattle.machine_ints.specs.Operators.{IsWithin, shl_of, shr_of}
use Rattle.machine_ints.proofs.BitLaws.{and_low, or_above, or_low, xor_natural, xor_low, below_length}
use Rattle.machine_ints.proofs.Choices.{choose}
use Rattle.machine_ints.proofs.Corners.{Cornered, cornered_mul}
use Rattle.machine_ints.proofs.Quotients.{cornered_above, cornered_below, cornered_shr, rem_above, rem_below_zero}
use Rattle.machine_ints.proofs.Results.{complement_is, and_within, or_within, xor_within, wrap_kept, wrap_within}
use Rattle.int_interval.specs.declared.shape.Shape.{Shape}
use Rattle.int_interval.specs.declared.interval.Interval.{Interval}
use Rattle.int_interval.specs.declared.interval.Interval.TheVariants.{Empty, Within, All}
use Rattle.int_interval.specs.Laws.{Holds, Covers, CoversDivision, CoversShift, CoversBits, CoversConversion, ContainsIsMember, EmptyHasNone, JustIsOne, IncludedIsSubset}
use Rattle.int_interval.specs.Rows.{cut, by_ends, corner_cut, is_one, are_one, are_natural, is_inside}
use Rattle.int_interval.specs.Rows.{join_row, meet_row, included_row, convert_row, negative_row, sum_row, difference_row}
use Rattle.int_interval.specs.Rows.{product_row, quotients_below, quotients_above, quotient_row, reach, remainder_low, remainder_high, remainders}
use Rattle.int_interval.specs.Rows.{remainder_row, shl_row, shr_row, mask, by_bits, not_row, and_row, or_row, xor_row}
use Rattle.int_interval.specs.Shapes.{IsShape, IsShift, top_of}
use Rattle.int_interval.proofs.Cuts.{cut_in, cut_low, cut_high}

-- ---- forms

pub cut_holds : (lo hi z : ℤ) → lo ≤ℤ z → z ≤ℤ hi → Holds (cut lo hi) z
cut_holds lo hi z h k =
    ⊎_elim (λ (p : 2 ^ 126 < unsigned_abs lo). rw (cut_low lo hi p) tt) (λ (p : unsigned_abs lo ≤ 2 ^ 126).
    (⊎_elim (λ (q : 2 ^ 126 < unsigned_abs hi). rw (cut_high lo hi q) tt) (λ (q : unsigned_abs hi ≤ 2 ^ 126). rw (cut_in lo hi p q) (h, k))
    (cases_lt (2 ^ 126) (unsigned_abs hi))))
    (cases_lt (2 ^ 126) (unsigned_abs lo))

corner_holds : (f : ℤ → ℤ → ℤ) (a b c d z : ℤ) → Cornered (f a c) (f a d) (f b c) (f b d) z → Holds (corner_cut f a b c d) z
unfolding corner_cut
corner_holds f a b c d z s = cut_holds (least4 (f a c) (f a d) (f b c) (f b d)) (greatest4 (f a c) (f a d) (f b c) (f b d)) z s.low s.high

ends_hold : (f : ℤ → ℤ → ℤ → ℤ → Interval) (a b : Interval) (x y z : ℤ) → Holds a x → Holds b y
    → ((p q r s : ℤ) → a ≡ Within p q → b ≡ Within r s → p ≤ℤ x → x ≤ℤ q → r ≤ℤ y → y ≤ℤ s → Holds (f p q r s) z) → Holds (by_ends f a b) z
ends_hold f Empty b x y z h k g = h
ends_hold f (Within p q) Empty x y z h k g = k
ends_hold f (Within p q) (Within r s) x y z h k g = g p q r s refl refl h.0 h.1 k.0 k.1
ends_hold f (Within p q) All x y z h k g = tt
ends_hold f All Empty x y z h k g = k
ends_hold f All (Within r s) x y z h k g = tt
ends_hold f All All x y z h k g = tt

pub one_same : (a b x : ℤ) → is_one a b ≡ true → a ≤ℤ x → x ≤ℤ b → x ≡ a
one_same a b x e h k = let p = and_parts (int_le a b) (int_le b a) e in let l = p.0 in let m = p.1 in omega (arith, ints)

-- ---- sets

pub contains_member : ContainsIsMember
contains_member Empty z = (λ e. absurd (false≢true e), λ h. absurd h)
contains_member (Within p q) z = (
  λ e. let t = and_parts (int_le p z) (int_le z q) e in let l = t.0 in let m = t.1 in (omega (arith, ints), omega (arith, ints)),
  λ h. and_from (int_le p z) (int_le z q) (sym (omega (arith, ints, h.0))) (sym (omega (arith, ints, h.1))),
)
contains_member All z = (λ e. tt, λ h. refl)

pub empty_none : EmptyHasNone
empty_none Empty e z h = h
empty_none (Within p q) e z h = false≢true e
empty_none All e z h = false≢true e

pub just_same : JustIsOne
just_same Empty n z e h = absurd h
just_same (Within p q) n z e h =
    let t = and_parts (is_one p n) (is_one q n) e in
    let u = (and_parts (int_le p n) (int_le n p) t.0).1 in let v = (and_parts (int_le q n) (int_le n q) t.1).0 in
    omega (arith, ints, h.0, h.1)
just_same All n z e h = absurd (false≢true e)

pub join_left : (a b : Interval) (z : ℤ) → Holds a z → Holds (join_row a b) z
unfolding join_row
join_left Empty b z h = absurd h
join_left (Within p q) Empty z h = h
join_left (Within p q) (Within r s) z h = cut_holds (int_min p r) (int_max q s) z (omega (arith, ints, clamps, h.0)) (omega (arith, ints, clamps, h.1))
join_left (Within p q) All z h = tt
join_left All b z h = tt

pub join_right : (a b : Interval) (z : ℤ) → Holds b z → Holds (join_row a b) z
unfolding join_row
join_right Empty b z h = h
join_right (Within p q) Empty z h = absurd h
join_right (Within p q) (Within r s) z h = cut_holds (int_min p r) (int_max q s) z (omega (arith, ints, clamps, h.0)) (omega (arith, ints, clamps, h.1))
join_right (Within p q) All z h = tt
join_right All b z h = tt

pub meet_both : (a b : Interval) (z : ℤ) → Holds (meet_row a b) z → Holds a z × Holds b z
unfolding meet_row
meet_both Empty b z h = absurd h
meet_both (Within p q) Empty z h = absurd h
meet_both (Within p q) (Within r s) z h = choose (λ i. Holds i z → Holds (Within p q) z × Holds (Within r s) z) (int_le (int_max p r) (int_min q s)) (Within (int_max p r) (int_min q s)) Empty
    (λ e k. ((omega (arith, ints, clamps, k.0), omega (arith, ints, clamps, k.1)), (omega (arith, ints, clamps, k.0), omega (arith, ints, clamps, k.1)))) (λ e k. absurd k) h
meet_both (Within p q) All z h = (h, tt)
meet_both All b z h = (tt, h)

pub meet_holds : (a b : Interval) (z : ℤ) → Holds a z → Holds b z → Holds (meet_row a b) z
unfolding meet_row
meet_holds Empty b z h k = h
meet_holds (Within p q) Empty z h k = k
meet_holds (Within p q) (Within r s) z h k = choose (λ i. Holds i z) (int_le (int_max p r) (int_min q s)) (Within (int_max p r) (int_min q s)) Empty
    (λ e. (omega (arith, ints, clamps, h.0, k.0), omega (arith, ints, clamps, h.1, k.1))) (λ e. absurd (omega (arith, ints, clamps, h.0, h.1, k.0, k.1, e)))
meet_holds (Within p q) All z h k = h
meet_holds All b z h k = k

pub included_holds : IncludedIsSubset
unfolding included_row
included_holds Empty b z e h = absurd h
included_holds (Within p q) Empty z e h = absurd (false≢true e)
included_holds (Within p q) (Within r s) z e h = let i = and_parts (int_le r p) (int_le q s) e in let l = i.0 in let m = i.1 in (omega (arith, ints, h.0), omega (arith, ints, h.1))
included_holds (Within p q) All z e h = tt
included_holds All Empty z e h = absurd (false≢true e)
included_holds All (Within r s) z e h = absurd (false≢true e)
included_holds All All z e h = tt

-- ---- arithmetic

pub negative_holds : (a : Interval) (x : ℤ) → Holds a x → Holds (negative_row a) (neg_ℤ x)
unfolding negative_row
negative_holds Empty x h = h
negative_holds (Within p q) x h = cut_holds (neg_ℤ q) (neg_ℤ p) (neg_ℤ x) (omega (arith, ints, h.1)) (omega (arith, ints, h.0))
negative_holds All x h = tt

pub sum_holds : Covers sum_row ◌+ℤ◌
unfolding sum_row
sum_holds a b x y f g = ends_hold _ a b x y (x +ℤ y) f g (λ p q r s _ _ h k i j. cut_holds (p +ℤ r) (q +ℤ s) (x +ℤ y) (omega (arith, ints)) (omega (arith, ints)))

pub difference_holds : Covers difference_row ◌-ℤ◌
unfolding difference_row
difference_holds a b x y f g = ends_hold _ a b x y (x -ℤ y) f g (λ p q r s _ _ h k i j. cut_holds (p -ℤ s) (q -ℤ r) (x -ℤ y) (omega (arith, ints)) (omega (arith, ints)))

pub product_holds : Covers product_row ◌*ℤ◌
unfolding product_row
product_holds a b x y f g = ends_hold _ a b x y (x *ℤ y) f g (λ p q r s _ _ h k i j. corner_holds ◌*ℤ◌ p q r s (x *ℤ y) (cornered_mul p q r s x y h k i j))

by_negative : (p q r s x y : ℤ) → p ≤ℤ x → x ≤ℤ q → r ≤ℤ y → y ≤ℤ s → y <ℤ pos 0 → Holds (quotients_below p q r s) (int_div x y)
unfolding quotients_below
by_negative p q r s x y h k i j n = choose (λ v. Holds v (int_div x y)) (int_lt r (pos 0)) (corner_cut int_div p q r (int_min s (negsuc 0))) Empty
    (λ e. corner_holds int_div p q r (int_min s (negsuc 0)) (int_div x y) (cornered_below p q r (int_min s (negsuc 0)) x y h k (omega (arith, ints, clamps)) i (omega (arith, ints, clamps))))
    (λ e. absurd (omega (arith, ints)))

by_positive : (p q r s x y : ℤ) → p ≤ℤ x → x ≤ℤ q → r ≤ℤ y → y ≤ℤ s → pos 0 <ℤ y → Holds (quotients_above p q r s) (int_div x y)
unfolding quotients_above
by_positive p q r s x y h k i j n = choose (λ v. Holds v (int_div x y)) (int_lt (pos 0) s) (corner_cut int_div p q (int_max r (pos 1)) s) Empty
    (λ e. corner_holds int_div p q (int_max r (pos 1)) s (int_div x y) (cornered_above p q (int_max r (pos 1)) s x y h k (omega (arith, ints, clamps)) (omega (arith, ints, clamps)) j))
    (λ e. absurd (omega (arith, ints)))

pub quotient_holds : CoversDivision quotient_row int_div
unfolding quotient_row
quotient_holds a b x y f g n = ends_hold _ a b x y (int_div x y) f g (λ p q r s _ _ h k i j. by_lt_z y (pos 0)
    (λ (l : y <ℤ pos 0). join_left (quotients_below p q r s) (quotients_above p q r s) (int_div x y) (by_negative p q r s x y h k i j l))
    (λ (l : pos 0 ≤ℤ y). join_right (quotients_below p q r s) (quotients_above p q r s) (int_div x y) (by_positive p q r s x y h k i j (omega (arith, ints, n)))))

one_remainder : (p q r s x y : ℤ) → are_one p q r s ≡ true → p ≤ℤ x → x ≤ℤ q → r ≤ℤ y → y ≤ℤ s → int_rem x y ≡ int_rem p r
one_remainder p q r s x y e h k i j = let t = and_parts (is_one p q) (is_one r s) e in rw (one_same p q x t.0 h k, one_same r s y t.1 i j) refl

many_remainders : (p q r s x y : ℤ) → y ≢ pos 0 → p ≤ℤ x → x ≤ℤ q → r ≤ℤ y → y ≤ℤ s → Holds (cut (remainder_low p (reach r s)) (remainder_high q (reach r s))) (int_rem x y)
many_remainders p q r s x y n h k i j = cut_holds (remainder_low p m) (remainder_high q m) (int_rem x y)
    (by_lt_z x (pos 0) (λ (l : x <ℤ pos 0). let z = rem_below_zero x y m n near (omega (arith, ints)) in low (int_le (pos 0) p) refl (omega (arith, ints)) z.1 z.2)
    (λ (l : pos 0 ≤ℤ x). let z = rem_above x y m n near l in low' (int_le (pos 0) p) refl z.0))
    (by_lt_z x (pos 0) (λ (l : x <ℤ pos 0). let z = rem_below_zero x y m n near (omega (arith, ints)) in high' (int_le q (pos 0)) refl z.0)
    (λ (l : pos 0 ≤ℤ x). let z = rem_above x y m n near l in high (int_le q (pos 0)) refl l z.1 z.2))
  where
    m : ℕ
    m = reach r s

    near : unsigned_abs y ≤ suc m
    near = omega (arith, ints)

    low : (b : Bool) → int_le (pos 0) p ≡ b → x ≤ℤ pos 0 → x ≤ℤ int_rem x y → neg_ℤ (pos m) ≤ℤ int_rem x y → cond b (pos 0) (int_max p (neg_ℤ (pos m))) ≤ℤ int_rem x y
    low true e l u v = omega (arith, ints)
    low false e l u v = omega (arith, ints, clamps)

    low' : (b : Bool) → int_le (pos 0) p ≡ b → pos 0 ≤ℤ int_rem x y → cond b (pos 0) (int_max p (neg_ℤ (pos m))) ≤ℤ int_rem x y
    low' true e u = u
    low' false e u = omega (arith, ints, clamps)

    high : (b : Bool) → int_le q (pos 0) ≡ b → pos 0 ≤ℤ x → int_rem x y ≤ℤ x → int_rem x y ≤ℤ pos m → int_rem x y ≤ℤ cond b (pos 0) (int_min q (pos m))
    high true e l u v = omega (arith, ints)
    high false e l u v = omega (arith, ints, clamps)

    high' : (b : Bool) → int_le q (pos 0) ≡ b → int_rem x y ≤ℤ pos 0 → int_rem x y ≤ℤ cond b (pos 0) (int_min q (pos m))
    high' true e u = u
    high' false e u = omega (arith, ints, clamps)

rem_within : (p q r s x y : ℤ) → y ≢ pos 0 → p ≤ℤ x → x ≤ℤ q → r ≤ℤ y → y ≤ℤ s → Holds (remainders p q r s) (int_rem x y)
unfolding remainders
rem_within p q r s x y n h k i j = choose (λ v. Holds v (int_rem x y)) (are_one r (pos 0) s (pos 0)) _ _
    (λ e. let t = and_parts (is_one r (pos 0)) (is_one s (pos 0)) e in absurd (n (none t.0 t.1)))
    (λ _. choose (λ v. Holds v (int_rem x y)) (are_one p q r s) _ _
    (λ e. rw (one_remainder p q r s x y e h k i j) (cut_holds (int_rem p r) (int_rem p r) (int_rem p r) (omega (arith, ints)) (omega (arith, ints))))
    (λ _. many_remainders p q r s x y n h k i j))
  where
    none : is_one r (pos 0) ≡ true → is_one s (pos 0) ≡ true → y ≡ pos 0
    none e f = let t = and_parts (int_le r (pos 0)) (int_le (pos 0) r) e in let u = and_parts (int_le s (pos 0)) (int_le (pos 0) s) f in let a = t.1 in let b = u.0 in omega (arith, ints)

pub remainder_holds : CoversDivision remainder_row int_rem
unfolding remainder_row
remainder_holds a b x y f g n = ends_hold remainders a b x y (int_rem x y) f g (λ p q r s _ _ h k i j. rem_within p q r s x y n h k i j)

-- ---- shifts

power_le : (y z : ℤ) → pos 0 ≤ℤ y → y ≤ℤ z → pos (2 ^ unsigned_abs y) ≤ℤ pos (2 ^ unsigned_abs z)
power_le y z h k = omega (arith, ints, pow_mono {i = unsigned_abs y} {j = unsigned_abs z} (omega (arith, ints)))

pub shl_holds : CoversShift shl_row shl_of
unfolding shl_row
shl_holds shape a b x y v f g = ends_hold _ a b x y (shl_of x y) f g (λ p q r s _ e h k i j. let w : IsShift shape (Within r s) = subst (IsShift shape) e v in
    corner_holds shl_of p q r s (shl_of x y) (cornered_mul p q (pos (2 ^ unsigned_abs r)) (pos (2 ^ unsigned_abs s)) x (pos (2 ^ unsigned_abs y)) h k (power_le r y w.0 i)
    (power_le y s (omega (arith, ints, w.0)) j)))

pub shr_holds : CoversShift shr_row shr_of
unfolding shr_row
shr_holds shape a b x y v f g = ends_hold _ a b x y (shr_of x y) f g (λ p q r s _ e h k i j. let w : IsShift shape (Within r s) = subst (IsShift shape) e v in
    corner_holds shr_of p q r s (shr_of x y) (cornered_shr p q x (unsigned_abs r) (unsigned_abs s) (unsigned_abs y) h k (omega (arith, ints, w.0)) (omega (arith, ints, w.0))))

-- ---- bits

pub not_holds : (shape : Shape) (a : Interval) (x : ℤ) → IsShape shape → IsWithin shape.lo shape.hi x → Holds a x → Holds (not_row shape a) (wrap shape.lo shape.width (not_of x))
unfolding not_row
not_holds shape Empty x t i h = h
not_holds shape (Within p q) x t i h = rw (complement_is shape.lo shape.hi shape.width t x i)
    (cut_holds (top_of shape -ℤ q) (top_of shape -ℤ p) (top_of shape -ℤ x) (omega (arith, ints, h.1)) (omega (arith, ints, h.0)))
not_holds shape All x t i h = tt

-- the three operators by the same cases
bits_hold : (exact : ℤ → ℤ → ℤ) (low : ℤ → ℤ → ℤ → ℤ → Interval) (shape : Shape) (a b : Interval) (x y : ℤ) → IsWithin shape.lo shape.hi (exact x y)
    → ((p q r s : ℤ) → pos 0 ≤ℤ p → pos 0 ≤ℤ r → p ≤ℤ x → x ≤ℤ q → r ≤ℤ y → y ≤ℤ s → Holds (low p q r s) (exact x y)) → Holds a x → Holds b y → Holds (by_bits shape exact low a b) (exact x y)
bits_hold exact low shape a b x y inside g f e = ends_hold _ a b x y (exact x y) f e (λ p q r s _ _ h k i j.
    choose (λ v. Holds v (exact x y)) (are_one p q r s) _ _
    (λ one. let t = and_parts (is_one p q) (is_one r s) one in let same : exact x y ≡ exact p r = rw (one_same p q x t.0 h k, one_same r s y t.1 i j) refl in
    rw same (cut_holds (exact p r) (exact p r) (exact p r) (omega (arith, ints)) (omega (arith, ints))))
    (λ _. choose (λ v. Holds v (exact x y)) (are_natural p r) (low p q r s) (cut shape.lo shape.hi)
    (λ both. let t = and_parts (int_le (pos 0) p) (int_le (pos 0) r) both in let u = t.0 in let v = t.1 in g p q r s (omega (arith, ints)) (omega (arith, ints)) h k i j)
    (λ _. cut_holds shape.lo shape.hi (exact x y) inside.0 inside.1)))

mask_above : (q s x y : ℤ) → pos 0 ≤ℤ x → x ≤ℤ q → pos 0 ≤ℤ y → y ≤ℤ s
    → (128 ≤ length_of (max (unsigned_abs q) (unsigned_abs s))) ⊎
    ((x <ℤ pos (2 ^ length_of (max (unsigned_abs q) (unsigned_abs s)))) × (y <ℤ pos (2 ^ length_of (max (unsigned_abs q) (unsigned_abs s)))))
mask_above q s x y h k i j = ⊎_elim (λ (l : max (unsigned_abs q) (unsigned_abs s) < 2 ^ length_of (max (unsigned_abs q) (unsigned_abs s))). inr
    (omega (arith, ints), omega (arith, ints))) inl (below_length (max (unsigned_abs q) (unsigned_abs s)))

-- what is below each power of two that both are below is at most the mask
mask_holds : (exact : ℤ → ℤ → ℤ) (lo q s x y : ℤ) → pos 0 ≤ℤ x → x ≤ℤ q → pos 0 ≤ℤ y → y ≤ℤ s → lo ≤ℤ exact x y → ((k : ℕ) → x <ℤ pos (2 ^ k) → y <ℤ pos (2 ^ k) → exact x y <ℤ pos (2 ^ k))
    → Holds (cut lo (mask q s)) (exact x y)
mask_holds exact lo q s x y h k i j low below = ⊎_elim
    (λ (far : 128 ≤ length_of n). rw (cut_high lo (mask q s) (omega (arith, pow_mono {i = 127} {j = length_of n} (omega arith)))) tt)
    (λ (near : (x <ℤ pos (2 ^ length_of n)) × (y <ℤ pos (2 ^ length_of n))). let b = below (length_of n) near.0 near.1 in
    cut_holds lo (mask q s) (exact x y) low (omega (arith, ints, pow_pos (length_of n))))
    (mask_above q s x y h k i j)
  where
    n : ℕ
    n = max (unsigned_abs q) (unsigned_abs s)

pub and_holds : CoversBits and_row and_of
unfolding and_row
and_holds shape a b x y t i j = bits_hold and_of (λ a b c d. cut (pos 0) (int_min b d)) shape a b x y
    (and_within shape.lo shape.hi shape.width t x y i j)
    (λ p q r s l m h k f g. let n = and_low x y (omega (arith, ints)) (omega (arith, ints)) in cut_holds (pos 0) (int_min q s) (and_of x y) n.0 (omega (arith, ints, clamps, n.1)))

pub or_holds : CoversBits or_row or_of
unfolding or_row
or_holds shape a b x y t i j = bits_hold or_of (λ a b c d. cut (int_max a c) (mask b d)) shape a b x y
    (or_within shape.lo shape.hi shape.width t x y i j)
    (λ p q r s l m h k f g. let u : pos 0 ≤ℤ x = omega (arith, ints) in let v : pos 0 ≤ℤ y = omega (arith, ints) in
    mask_holds or_of (int_max p r) q s x y u k v g (omega (arith, ints, clamps, or_above x y u v)) (λ n e d. (or_low x y n u v e d).1))

pub xor_holds : CoversBits xor_row xor_of
unfolding xor_row
xor_holds shape a b x y t i j = bits_hold xor_of (λ a b c d. cut (pos 0) (mask b d)) shape a b x y
    (xor_within shape.lo shape.hi shape.width t x y i j)
    (λ p q r s l m h k f g. let u : pos 0 ≤ℤ x = omega (arith, ints) in let v : pos 0 ≤ℤ y = omega (arith, ints) in
    mask_holds xor_of (pos 0) q s x y u k v g (xor_natural x y u v) (λ n e d. (xor_low x y n u v e d).1))

-- ---- conversion

pub convert_holds : CoversConversion
unfolding convert_row
convert_holds shape Empty x t h = h
convert_holds shape (Within p q) x t h =
    choose (λ v. Holds v (wrap shape.lo shape.width x)) (is_inside p q shape.lo shape.hi) _ _
    (λ e. let i = and_parts (int_le shape.lo p) (int_le q shape.hi) e in let l = i.0 in let m = i.1 in
    rw (wrap_kept shape.lo shape.hi shape.width t x (omega (arith, ints, h.0), omega (arith, ints, h.1))) h)
    (λ _. choose (λ v. Holds v (wrap shape.lo shape.width x)) (is_one p q) _ _
    (λ e. rw (one_same p q x e h.0 h.1) (exactly (wrap shape.lo shape.width p)))
    (λ _. type_holds shape t x))
  where
    exactly : (z : ℤ) → Holds (cut z z) z
    exactly z = cut_holds z z z (omega (arith, ints)) (omega (arith, ints))

    type_holds : (shape : Shape) → IsShape shape → (x : ℤ) → Holds (cut shape.lo shape.hi) (wrap shape.lo shape.width x)
    type_holds shape t x = let w = wrap_within shape.lo shape.hi shape.width t x in cut_holds shape.lo shape.hi _ w.0 w.1
convert_holds shape All x t h = let w = wrap_within shape.lo shape.hi shape.width t x in cut_holds shape.lo shape.hi _ w.0 w.1
