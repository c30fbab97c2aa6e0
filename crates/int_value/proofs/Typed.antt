-- Answers are reduced, and values of a type keep to it.
use Rattle.std.proofs.Common.{◌≡◌, ◌<◌, ℤ, pos, ◌-ℤ◌, ◌≤ℤ◌, ◌<ℤ◌, int_le, int_lt, Bool, false, not, ◌||◌, refl, subst, sym, arith, inl}
use Rattle.std.specs.Int.{int_min, int_max}
use Rattle.std.proofs.lemmas.Int.{ints}
use Rattle.std.proofs.lemmas.Bool.{eqb-false}
use Rattle.machine_ints.specs.Bound.{is_small}
use lib.Pow.{pow_mono}
use Rattle.machine_ints.proofs.Choices.{choose}
use Rattle.machine_ints.proofs.Congruences.{multiple_one}
use Rattle.machine_ints.proofs.Conversions.{range_of_type}
use Rattle.machine_ints.proofs.Residues.{residue_split}
use Rattle.int_interval.proofs.Typed.{IsEnclosed, typed_enclosed, join_enclosed, meet_enclosed, meet_type_enclosed, convert_enclosed}
use Rattle.int_interval.proofs.Typed.{quotient_enclosed, remainder_enclosed, shr_enclosed, not_enclosed, and_enclosed, or_enclosed, xor_enclosed}
use Rattle.int_interval.specs.Rows as interval_rows
use Rattle.int_interval.specs.Shapes as shapes
use Rattle.int_interval.specs.Shapes.{IsShape, is_signed}
use Rattle.int_interval.specs.declared.interval.Interval.{Interval}
use Rattle.int_interval.specs.declared.interval.Interval.TheVariants.{Empty, Within, All}
use Rattle.int_interval.specs.declared.shape.Shape.{Shape}
use Rattle.int_congr.proofs.Cover as congrs
use Rattle.int_congr.proofs.Normal as normals
use Rattle.int_congr.specs.Laws as congr_laws
use Rattle.int_congr.specs.Rows as congr_rows
use Rattle.int_congr.specs.declared.congr.Congr.{Congr}
use Rattle.int_value.specs.Checks.{is_checked, is_no, quotient_said, typed_row, divided_row, shift_of, clipped, neg_row, add_row}
use Rattle.int_value.specs.Checks.{sub_row, mul_row, div_row, rem_row, shl_row, shr_row, invert_row, bit_and_row, bit_or_row, bit_xor_row}
use Rattle.int_value.specs.Laws.{IsAlwaysReduced}
use Rattle.int_value.specs.Rows.{one_of, raised_to, lowered_to, reduced, reduced_range, answer_of, joined_congr, join_row, meet_row, type_range, converted_congr, convert_row, contains_row}
use Rattle.int_value.specs.Rows.{to_bool_row, number_row, negation_row, sum_row, difference_row, product_row, quotient_row, remainder_row, shl_raw, shr_raw, not_raw, and_raw, or_raw, xor_raw}
use Rattle.int_value.specs.Typed.{AreReduced, IsReduced, IsTyped, ConvertIsTyped, BoolIsTyped, JoinIsTyped, MeetIsTyped, IsClosed, IsClosedShift, IsClosedUnary, WholeIsTyped}
use Rattle.int_value.specs.declared.made.Made.{Made}
use Rattle.int_value.specs.declared.value.Value.{Value}
use Rattle.int_value.proofs.Cover.{raised_in}
use Rattle.int_value.proofs.Reduction.{IsPart, reduced_part, shift_parts}

-- ---- answers are reduced

one_reduced : (z : ℤ) → AreReduced (Within z z) (congr_rows.only z)
one_reduced z = (omega (arith, ints), congrs.itself (pos 0) z, congrs.itself (pos 0) z, λ _. refl, inl refl)

lowered_in : (hi : ℤ) (c : Congr) → 0 < congr_rows.period c → congr_laws.Holds c (lowered_to c hi)
lowered_in hi c h = let s = residue_split (hi -ℤ c.rem) (congr_rows.period c) h in (s.0, omega (arith, ints, s.1))

between_reduced : (lo hi : ℤ) (c : Congr) → lo <ℤ hi → congr_laws.Holds c lo → congr_laws.Holds c hi → congr_laws.IsNormal c → AreReduced (Within lo hi) c
between_reduced lo hi c l h k n = (omega (arith, ints), h, k, λ same. absurd (omega (arith, ints)), n)

pub reduced_is : (lo hi : ℤ) (c : Congr) (unset : Bool) → congr_laws.IsNormal c → IsReduced (reduced lo hi c unset)
unfolding reduced
reduced_is lo hi c unset n = choose IsReduced (congr_rows.is_only c) _ _
    (λ _. choose IsReduced (interval_rows.contains_row (Within lo hi) c.rem) _ _ (λ _. one_reduced c.rem) (λ _. refl))
    (λ e. let h : 0 < congr_rows.period c = omega (arith, eqb-false (congr_rows.period c) 0 e) in
    choose IsReduced (int_lt (lowered_to c hi) (raised_to c lo)) _ _ (λ _. refl)
    (λ _. choose IsReduced (int_le (lowered_to c hi) (raised_to c lo)) _ _
    (λ _. one_reduced (raised_to c lo))
    (λ m. between_reduced (raised_to c lo) (lowered_to c hi) c (above (lowered_to c hi) (raised_to c lo) m) (raised_in lo hi c h) (lowered_in hi c h) n)))
  where
    above : (p q : ℤ) → int_le p q ≡ false → q <ℤ p
    above p q m = omega (arith, ints)

pub answer_reduced : (r : Interval) (c : Congr) (unset : Bool) → congr_laws.IsNormal c → IsReduced (answer_of r c unset)
answer_reduced Empty c unset n = refl
answer_reduced (Within lo hi) c unset n = reduced_is lo hi c unset n
answer_reduced All c unset n = refl

pub normal_of : (v : Value) → IsReduced v → congr_laws.IsNormal v.congr
normal_of v = by_range v.range v.congr
  where
    by_range : (r : Interval) (c : Congr) → AreReduced r c → congr_laws.IsNormal c
    by_range Empty c e = subst congr_laws.IsNormal (sym e) normals.unknown_normal
    by_range (Within lo hi) c e = e.4
    by_range All c e = subst congr_laws.IsNormal (sym e) normals.unknown_normal

-- ---- answers on a type are of the type

reduced_in : (shape : Shape) (lo hi : ℤ) (c : Congr) (unset : Bool) → shape.lo ≤ℤ lo → hi ≤ℤ shape.hi → shapes.IsTyped shape (reduced lo hi c unset).range
reduced_in shape lo hi c unset l m = by_part (reduced lo hi c unset).range (reduced lo hi c unset).congr (reduced_part lo hi c unset)
  where
    by_part : (r : Interval) (d : Congr) → IsPart lo hi r d → shapes.IsTyped shape r
    by_part Empty d p = tt
    by_part (Within s t) d p = (omega (arith, ints, p.0), p.1, omega (arith, ints, p.2))
    by_part All d p = p

pub answer_in : (shape : Shape) (r : Interval) (c : Congr) (unset : Bool) → IsEnclosed shape r → shapes.IsTyped shape (answer_of r c unset).range
answer_in shape Empty c unset u = tt
answer_in shape (Within lo hi) c unset u = reduced_in shape lo hi c unset u.0 u.1
answer_in shape All c unset u = absurd u

pub answer_typed : (shape : Shape) (r : Interval) (c : Congr) (unset : Bool) → IsEnclosed shape r → congr_laws.IsNormal c → IsTyped shape (answer_of r c unset)
answer_typed shape r c unset u n = (answer_in shape r c unset u, answer_reduced r c unset n)

pub range_typed : (shape : Shape) (r : Interval) (c : Congr) (unset : Bool) → IsEnclosed shape r → congr_laws.IsNormal c → IsTyped shape (reduced_range r c unset)
range_typed shape Empty c unset u n = (tt, refl)
range_typed shape (Within lo hi) c unset u n = answer_typed shape (Within lo hi) c unset u n
range_typed shape All c unset u n = absurd u

-- ---- sets and conversions

pub joined_normal : (a b : Value) → IsReduced a → IsReduced b → congr_laws.IsNormal (joined_congr a b)
joined_normal a b u v = choose congr_laws.IsNormal (interval_rows.is_empty a.range) _ _ (λ _. normal_of b v)
    (λ _. choose congr_laws.IsNormal (interval_rows.is_empty b.range) _ _ (λ _. normal_of a u) (λ _. normals.join_normal a.congr b.congr))

pub join_typed : JoinIsTyped
unfolding join_row
join_typed shape a b t u v = answer_typed shape (interval_rows.join_row a.range b.range) (joined_congr a b) (a.unset || b.unset) (join_enclosed shape t a.range b.range u.0 v.0)
    (joined_normal a b u.1 v.1)

pub meet_typed : MeetIsTyped
unfolding meet_row
meet_typed shape v range u = range_typed shape (interval_rows.meet_row v.range range) v.congr v.unset (meet_enclosed shape v.range range (typed_enclosed shape v.range u.0)) (normal_of v u.1)

pub meet_within_reduced : (v : Value) (lo hi : ℤ) → congr_laws.IsNormal v.congr → IsReduced (meet_row v (Within lo hi))
unfolding meet_row interval_rows.meet_row
meet_within_reduced v lo hi n = by_range v.range
  where
    by_range : (r : Interval) → IsReduced (reduced_range (interval_rows.meet_row r (Within lo hi)) v.congr v.unset)
    by_range Empty = refl
    by_range (Within p q) = choose (λ i. IsReduced (reduced_range i v.congr v.unset)) (int_le (int_max p lo) (int_min q hi)) (Within (int_max p lo) (int_min q hi)) Empty
        (λ _. reduced_is (int_max p lo) (int_min q hi) v.congr v.unset n) (λ _. refl)
    by_range All = reduced_is lo hi v.congr v.unset n

meet_type_typed : (shape : Shape) (v : Value) → congr_laws.IsNormal v.congr → IsTyped shape (meet_row v (type_range shape))
unfolding meet_row
meet_type_typed shape v n = range_typed shape (interval_rows.meet_row v.range (type_range shape)) v.congr v.unset (meet_type_enclosed shape v.range) n

-- what is converted need not be of a type
converts : (shape : Shape) (v : Value) → IsShape shape → congr_laws.IsNormal v.congr → IsTyped shape (convert_row shape v)
unfolding convert_row
converts shape v t n = answer_typed shape (interval_rows.convert_row shape v.range) (converted_congr shape v) false (convert_enclosed shape t v.range)
    (choose congr_laws.IsNormal (interval_rows.included_row v.range (type_range shape)) _ _ (λ _. n) (λ _. normals.convert_normal shape v.congr))

pub convert_typed : ConvertIsTyped
convert_typed from shape v t u = converts shape v t (normal_of v u.1)

one_typed : (shape : Shape) (z : ℤ) (unset : Bool) → shape.lo ≤ℤ z → z ≤ℤ shape.hi → IsTyped shape (one_of z unset)
one_typed shape z unset l m = ((l, omega (arith, ints), m), one_reduced z)

pub bool_typed : BoolIsTyped
unfolding to_bool_row
bool_typed shape v t m = let r = range_of_type shape.lo shape.hi shape.width t in
    choose (IsTyped shape) (interval_rows.is_empty v.range) _ _ (λ _. (tt, refl))
    (λ _. choose (IsTyped shape) (not (contains_row v (pos 0))) _ _ (λ _. one_typed shape (pos 1) false (omega (arith, ints, r.low)) m)
    (λ _. choose (IsTyped shape) (interval_rows.is_just v.range (pos 0)) _ _ (λ _. one_typed shape (pos 0) false r.low r.high)
    (λ _. (
      (r.low, omega (arith, ints), m),
      between_reduced (pos 0) (pos 1) congr_rows.unknown_of (omega (arith, ints)) (multiple_one (pos 0 -ℤ pos 0))
          (multiple_one (pos 1 -ℤ pos 0)) normals.unknown_normal,
    ))))

pub whole_typed : WholeIsTyped
whole_typed shape unset t = let r = range_of_type shape.lo shape.hi shape.width t in
    let wide : shape.lo <ℤ shape.hi = wider shape t in (
      (omega (arith, ints), omega (arith, ints), omega (arith, ints)),
      between_reduced shape.lo shape.hi congr_rows.unknown_of wide (multiple_one (shape.lo -ℤ pos 0)) (multiple_one (shape.hi -ℤ pos 0)) normals.unknown_normal,
    )
  where
    wider : (shape : Shape) → IsShape shape → shape.lo <ℤ shape.hi
    wider shape t = let r = range_of_type shape.lo shape.hi shape.width t in let p = pow_mono {i = 1} {j = shape.width} t.0 in omega (arith, ints, r.span)

-- ---- terms, of any operands

pub negation_reduced : (a : Value) → IsReduced (negation_row a)
unfolding negation_row
negation_reduced a = answer_reduced (interval_rows.negative_row a.range) (congr_rows.negative_row a.congr) false (normals.negative_normal a.congr)

pub sum_reduced : IsAlwaysReduced sum_row
unfolding sum_row
sum_reduced a b = answer_reduced (interval_rows.sum_row a.range b.range) (congr_rows.sum_row a.congr b.congr) false (normals.sum_normal a.congr b.congr)

pub difference_reduced : IsAlwaysReduced difference_row
unfolding difference_row
difference_reduced a b = answer_reduced (interval_rows.difference_row a.range b.range) (congr_rows.difference_row a.congr b.congr) false (normals.difference_normal a.congr b.congr)

pub product_reduced : IsAlwaysReduced product_row
unfolding product_row
product_reduced a b = answer_reduced (interval_rows.product_row a.range b.range) (congr_rows.product_row a.congr b.congr) false (normals.product_normal a.congr b.congr)

pub quotient_reduced : IsAlwaysReduced quotient_row
unfolding quotient_row
quotient_reduced a b = answer_reduced (interval_rows.quotient_row a.range b.range) (congr_rows.quotient_row a.congr b.congr) false (normals.quotient_normal a.congr b.congr)

pub remainder_reduced : IsAlwaysReduced remainder_row
unfolding remainder_row
remainder_reduced a b = answer_reduced (interval_rows.remainder_row a.range b.range) (congr_rows.remainder_row a.congr b.congr) false (normals.remainder_normal a.congr b.congr)

pub number_reduced : (n : ℤ) → IsReduced (number_row n)
unfolding number_row
number_reduced n = choose IsReduced (is_small n) _ _ (λ _. one_reduced n) (λ _. refl)

-- ---- operators of C

typed_closed : (shape : Shape) (overflow : Bool) (exact : Value) → IsShape shape → congr_laws.IsNormal exact.congr → IsTyped shape (typed_row shape overflow exact).value
unfolding typed_row
typed_closed shape overflow exact t n = choose (λ (m : Made). IsTyped shape m.value) (is_checked shape overflow) _ _ (λ _. meet_type_typed shape exact n) (λ _. converts shape exact t n)

pub neg_closed : IsClosedUnary neg_row
unfolding neg_row
neg_closed shape overflow a t u = typed_closed shape overflow (negation_row a) t (normal_of (negation_row a) (negation_reduced a))

pub add_closed : IsClosed add_row
unfolding add_row
add_closed shape overflow a b t u v = typed_closed shape overflow (sum_row a b) t (normal_of (sum_row a b) (sum_reduced a b))

pub sub_closed : IsClosed sub_row
unfolding sub_row
sub_closed shape overflow a b t u v = typed_closed shape overflow (difference_row a b) t (normal_of (difference_row a b) (difference_reduced a b))

pub mul_closed : IsClosed mul_row
unfolding mul_row
mul_closed shape overflow a b t u v = typed_closed shape overflow (product_row a b) t (normal_of (product_row a b) (product_reduced a b))

divided_closed : (shape : Shape) (overflow : Bool) (a b exact : Value) → IsShape shape → congr_laws.IsNormal exact.congr → (is_signed shape ≡ false → IsTyped shape exact)
    → IsTyped shape (divided_row shape overflow a b exact).value
unfolding divided_row
divided_closed shape overflow a b exact t n g = choose (λ (m : Made). IsTyped shape m.value) (is_checked shape overflow) _ _
    (λ _. choose (IsTyped shape) (is_no (quotient_said shape a b)) _ _ (λ _. (tt, refl)) (λ _. meet_type_typed shape exact n))
    (λ _. choose (IsTyped shape) (is_signed shape) _ _ (λ _. converts shape exact t n) g)

natural : (shape : Shape) → is_signed shape ≡ false → pos 0 ≤ℤ shape.lo
natural shape e = omega (arith, ints)

pub div_closed : IsClosed div_row
unfolding div_row quotient_row
div_closed shape overflow a b t u v = divided_closed shape overflow a b (quotient_row a b) t (normal_of (quotient_row a b) (quotient_reduced a b)) within
  where
    within : is_signed shape ≡ false → IsTyped shape (quotient_row a b)
    within e = answer_typed shape (interval_rows.quotient_row a.range b.range) (congr_rows.quotient_row a.congr b.congr) false
        (quotient_enclosed shape t a.range b.range (natural shape e) u.0 v.0) (normals.quotient_normal a.congr b.congr)

pub rem_closed : IsClosed rem_row
unfolding rem_row remainder_row
rem_closed shape overflow a b t u v = divided_closed shape overflow a b (remainder_row a b) t (normal_of (remainder_row a b) (remainder_reduced a b)) (λ _. within)
  where
    within : IsTyped shape (remainder_row a b)
    within = answer_typed shape (interval_rows.remainder_row a.range b.range) (congr_rows.remainder_row a.congr b.congr) false (remainder_enclosed shape t a.range b.range u.0 v.0)
        (normals.remainder_normal a.congr b.congr)

shl_normal : (a b : Value) → congr_laws.IsNormal (shl_raw a b).congr
unfolding shl_raw
shl_normal a b = normal_of (shl_raw a b) (answer_reduced (interval_rows.shl_row a.range b.range) (congr_rows.shl_row a.congr b.congr) false (normals.shl_normal a.congr b.congr))

pub shl_closed : IsClosedShift shl_row
unfolding shl_row
shl_closed shape overflow a b t u = choose (λ (m : Made). IsTyped shape m.value) (is_checked shape overflow) _ _
    (λ _. meet_type_typed shape (shl_raw (clipped shape a) (shift_of shape b)) (shl_normal (clipped shape a) (shift_of shape b)))
    (λ _. converts shape (shl_raw a (shift_of shape b)) t (shl_normal a (shift_of shape b)))

pub shr_closed : IsClosedShift shr_row
unfolding shr_row shr_raw
shr_closed shape overflow a b t u = answer_typed shape (interval_rows.shr_row a.range (shift_of shape b).range) (congr_rows.shr_row a.congr (shift_of shape b).congr) false
    (shr_enclosed shape t a.range (shift_of shape b).range u.0 (shift_parts shape b (shift_of shape b) refl).0) (normals.shr_normal a.congr (shift_of shape b).congr)

pub invert_closed : IsClosedUnary invert_row
unfolding invert_row not_raw
invert_closed shape overflow a t u = answer_typed shape (interval_rows.not_row shape a.range) (congr_rows.not_row shape a.congr) false (not_enclosed shape t a.range u.0)
    (normals.not_normal shape a.congr)

pub and_closed : IsClosed bit_and_row
unfolding bit_and_row and_raw
and_closed shape overflow a b t u v = answer_typed shape (interval_rows.and_row shape a.range b.range) (congr_rows.and_row a.congr b.congr) false
    (and_enclosed shape t a.range b.range u.0 v.0) (normals.and_normal a.congr b.congr)

pub or_closed : IsClosed bit_or_row
unfolding bit_or_row or_raw
or_closed shape overflow a b t u v = answer_typed shape (interval_rows.or_row shape a.range b.range) (congr_rows.or_row a.congr b.congr) false (or_enclosed shape t a.range b.range u.0 v.0)
    (normals.or_normal a.congr b.congr)

pub xor_closed : IsClosed bit_xor_row
unfolding bit_xor_row xor_raw
xor_closed shape overflow a b t u v = answer_typed shape (interval_rows.xor_row shape a.range b.range) (congr_rows.xor_row a.congr b.congr) false
    (xor_enclosed shape t a.range b.range u.0 v.0) (normals.xor_normal a.congr b.congr)
