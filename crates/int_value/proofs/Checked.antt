-- What C's operators stand for, and that what is said of their checks is right.
use Rattle.std.proofs.Common.{◌≡◌, ℤ, pos, negsuc, neg_ℤ, ◌+ℤ◌, ◌-ℤ◌, ◌*ℤ◌, ◌≤ℤ◌, ◌<ℤ◌, int_lt, int_div, int_rem, Some}
use Rattle.std.proofs.Common.{None, Bool, true, false, cond, not, ◌&&◌, ◌||◌, refl, subst, ◌∙◌, sym, arith, ⊎_elim}
use Rattle.std.proofs.lemmas.Int.{ints}
use Rattle.std.proofs.lemmas.Bool.{and_parts, or_cases, false≢true}
use Rattle.machine_ints.specs.Bits.{not_of, and_of, or_of, xor_of}
use Rattle.machine_ints.specs.Convert.{wrap}
use Rattle.machine_ints.specs.Operators.{IsWithin, PassesDivision, PassesQuotient, PassesShift, PassesShl, shl_of, shr_of, value_of, unary_value}
use Rattle.machine_ints.specs.declared.operators.Check.TheVariants.{Overflow}
use Rattle.machine_ints.specs.declared.operators.Operator.TheVariants.{Add, Sub, Mul, Div, Rem, Shl, Shr, And, Or, Xor}
use Rattle.machine_ints.specs.declared.operators.UnaryOperator.TheVariants.{Negate, Complement}
use Rattle.machine_ints.proofs.Choices.{choose}
use Rattle.machine_ints.proofs.Results.{wrap_kept, signed_quotient, remainder_within, shl_within}
use Rattle.int_interval.proofs.Cover as intervals
use Rattle.int_interval.specs.Laws as interval_laws
use Rattle.int_interval.specs.Rows as interval_rows
use Rattle.int_interval.specs.Shapes.{IsShape, is_signed}
use Rattle.int_interval.specs.declared.interval.Interval.{Interval}
use Rattle.int_interval.specs.declared.interval.Interval.TheVariants.{Empty, Within, All}
use Rattle.int_interval.specs.declared.said.Said.{Said}
use Rattle.int_interval.specs.declared.said.Said.TheVariants.{Yes, No, Maybe, Unreached}
use Rattle.int_interval.specs.declared.shape.Shape.{Shape}
use Rattle.int_congr.proofs.Cover as congrs
use Rattle.int_congr.specs.Rows as congr_rows
use Rattle.int_value.specs.Checks.{made_of, said_of, said_on, within_said, is_checked, typed_row, neg_row, add_row, sub_row, mul_row, divisor_said, quotient_said, is_no, divided_row, div_row}
use Rattle.int_value.specs.Checks.{rem_row, shift_range, shift_of, shift_said, starts_at, ends_at, lies_below, lies_above}
use Rattle.int_value.specs.Checks.{clipped, shl_said, shl_row, shr_row, invert_row, bit_and_row, bit_or_row, bit_xor_row}
use Rattle.int_value.specs.Covers.{Visit, Covered, visit_of, CoversOperator, CoversAnyDivisor, CoversUnary}
use Rattle.int_value.specs.Rows.{empty_of, contains_row, meet_row, convert_row, type_range, negation_row, sum_row, difference_row}
use Rattle.int_value.specs.Rows.{product_row, quotient_row, remainder_row, shl_raw, shr_raw, not_raw, and_raw, or_raw, xor_raw}
use Rattle.int_value.specs.Standing.{Holds, HasValue, IsRight, IsMark}
use Rattle.int_value.specs.declared.value.Value.{Value}
use Rattle.int_value.proofs.Cover.{not_empty, contains_holds, meet_holds, meet_unset, convert_holds, convert_set, answer_holds, answer_set, parts_hold}
use Rattle.int_value.proofs.Cover.{parts_set, said_right, within_right, negation_covers, sum_covers, difference_covers, product_covers, quotient_covers, remainder_covers}
use Rattle.int_value.proofs.Reduction.{shift_parts}

-- ---- forms

abbrev Never : Visit
Never = record { visited = false; ends = false }

abbrev Always : Visit
Always = record { visited = true; ends = true }

-- a check that is visited by a test
abbrev If : Bool → Visit
If b = record { visited = b; ends = b && true }

meet_set : (v : Value) (r : Interval) → HasValue v → HasValue (meet_row v r)
meet_set v r n e = n (sym (meet_unset v r) ∙ e)

-- ---- `+ - *` and unary `-`

typed_covered : (shape : Shape) (overflow : Bool) (exact : Value) (z : ℤ) → IsShape shape → HasValue exact → Holds exact z
    → Covered (visit_of shape overflow (Some Overflow)) Never (IsWithin shape.lo shape.hi z) (Unit {0}) (wrap shape.lo shape.width z) (typed_row shape overflow exact)
unfolding typed_row
typed_covered shape overflow exact z t n h = by_check (is_checked shape overflow)
  where
    by_check : (c : Bool) → Covered (If c) Never (IsWithin shape.lo shape.hi z) (Unit {0}) (wrap shape.lo shape.width z)
        (cond c (made_of (meet_row exact (type_range shape)) (Some (within_said shape.lo shape.hi exact.range)) None) (made_of (convert_row shape exact) None None))
    by_check true = record {
      first = within_right shape.lo shape.hi exact.range z h.0;
      second = λ _. tt;
      value = λ f _. let i = f refl in rw (wrap_kept shape.lo shape.hi shape.width t z i) (meet_holds exact (type_range shape) z h i);
      has_value = meet_set exact (type_range shape) n;
    }
    by_check false = record { first = tt; second = λ _. tt; value = λ _ _. convert_holds shape exact z t h; has_value = convert_set shape exact }

pub neg_covers : CoversUnary Negate neg_row
unfolding neg_row unary_value
neg_covers shape overflow a x t _ h = let n = negation_covers a in typed_covered shape overflow (negation_row a) (neg_ℤ x) t n.0 (n.1 x h)

pub add_covers : CoversOperator Add add_row
unfolding add_row value_of
add_covers shape overflow a b x y t _ h k = let n = sum_covers a b in typed_covered shape overflow (sum_row a b) (x +ℤ y) t n.0 (n.1 x y h k)

pub sub_covers : CoversOperator Sub sub_row
unfolding sub_row value_of
sub_covers shape overflow a b x y t _ h k = let n = difference_covers a b in typed_covered shape overflow (difference_row a b) (x -ℤ y) t n.0 (n.1 x y h k)

pub mul_covers : CoversOperator Mul mul_row
unfolding mul_row value_of
mul_covers shape overflow a b x y t _ h k = let n = product_covers a b in typed_covered shape overflow (product_row a b) (x *ℤ y) t n.0 (n.1 x y h k)

-- ---- the checks of a division

said_on_right : (a b : Value) (x y : ℤ) (sure never : Bool) (P : Type 0) → Holds a x → Holds b y → (sure ≡ true → P) → (never ≡ true → ¬ P) → IsRight (said_on a b sure never) P
said_on_right a b x y sure never P h k f g = by_test (interval_rows.is_empty a.range) (interval_rows.is_empty b.range) (not_empty a.range x h.0) (not_empty b.range y k.0)
  where
    by_test : (s t : Bool) → s ≡ false → t ≡ false → IsRight (cond (s || t) Unreached (said_of sure never)) P
    by_test true t e i = absurd (false≢true (sym e))
    by_test false true e i = absurd (false≢true (sym i))
    by_test false false e i = said_right sure never P f g

lacks : (b : Bool) → b ≡ true → not b ≡ true → ⊥
lacks true e f = false≢true f
lacks false e f = false≢true e

pub divisor_right : (a b : Value) (x y : ℤ) → Holds a x → Holds b y → IsRight (divisor_said a b) (PassesDivision y)
divisor_right a b x y h k = said_on_right a b x y (not (contains_row b (pos 0))) (interval_rows.is_just b.range (pos 0)) (PassesDivision y) h k
    (λ e z. lacks (contains_row b (pos 0)) (subst (λ n. contains_row b n ≡ true) z (contains_holds b y k)) e)
    (λ e n. n (intervals.just_same b.range (pos 0) y e k.0))

pub quotient_right : (shape : Shape) (a b : Value) (x y : ℤ) → Holds a x → Holds b y → IsRight (quotient_said shape a b) (PassesQuotient shape.lo x y)
quotient_right shape a b x y h k = said_on_right a b x y (not (contains_row a shape.lo) || not (contains_row b (negsuc 0)))
    (interval_rows.is_just a.range shape.lo && interval_rows.is_just b.range (negsuc 0)) (PassesQuotient shape.lo x y) h k
    (λ e p q. ⊎_elim (lacks (contains_row a shape.lo) (subst (λ n. contains_row a n ≡ true) p (contains_holds a x h)))
    (lacks (contains_row b (negsuc 0)) (subst (λ n. contains_row b n ≡ true) q (contains_holds b y k))) (or_cases (not (contains_row a shape.lo)) (not (contains_row b (negsuc 0))) e))
    (λ e f. let t = and_parts (interval_rows.is_just a.range shape.lo) (interval_rows.is_just b.range (negsuc 0)) e in
    f (intervals.just_same a.range shape.lo x t.0 h.0) (intervals.just_same b.range (negsuc 0) y t.1 k.0))

-- what is no isn't passed
no_fails : (s : Said) (P : Type 0) → IsRight s P → P → is_no s ≡ false
no_fails Yes P h p = refl
no_fails No P h p = absurd (h p)
no_fails Maybe P h p = refl
no_fails Unreached P h p = refl

unless_no_holds : (s : Said) (v : Value) (z : ℤ) → is_no s ≡ false → Holds v z → Holds (cond (is_no s) (empty_of false) v) z
unless_no_holds s v z e h = rw e h

-- both operators, whose exact result is in a signed type where the checks pass
divided_covered : (shape : Shape) (overflow : Bool) (a b exact : Value) (x y z : ℤ) → IsShape shape → Holds a x → Holds b y → HasValue exact → (PassesDivision y → Holds exact z)
    → (is_signed shape ≡ true → PassesDivision y → PassesQuotient shape.lo x y → IsWithin shape.lo shape.hi z)
    → Covered Always (visit_of shape overflow (Some Overflow)) (PassesDivision y) (PassesQuotient shape.lo x y) (cond (int_lt shape.lo (pos 0)) (wrap shape.lo shape.width z) z)
    (divided_row shape overflow a b exact)
unfolding divided_row
divided_covered shape overflow a b exact x y z t h k n f g = by_sign (is_signed shape) overflow g
  where
    right : IsRight (quotient_said shape a b) (PassesQuotient shape.lo x y)
    right = quotient_right shape a b x y h k

    by_sign : (s o : Bool) → (s ≡ true → PassesDivision y → PassesQuotient shape.lo x y → IsWithin shape.lo shape.hi z) →
        Covered Always (If (s && o)) (PassesDivision y) (PassesQuotient shape.lo x y) (cond s (wrap shape.lo shape.width z) z)
        (cond (s && o) (made_of (cond (is_no (quotient_said shape a b)) (empty_of false) (meet_row exact (type_range shape))) (Some (divisor_said a b)) (Some (quotient_said shape a b)))
        (made_of (cond s (convert_row shape exact) exact) (Some (divisor_said a b)) None))
    by_sign true true g = record {
      first = divisor_right a b x y h k;
      second = λ _. right;
      value = λ p q. let i = g refl (p refl) (q refl) in rw (wrap_kept shape.lo shape.hi shape.width t z i)
          (unless_no_holds (quotient_said shape a b) (meet_row exact (type_range shape)) z (no_fails (quotient_said shape a b) (PassesQuotient shape.lo x y) right (q refl))
          (meet_holds exact (type_range shape) z (f (p refl)) i));
      has_value = choose HasValue (is_no (quotient_said shape a b)) _ _ (λ _ e. false≢true e) (λ _. meet_set exact (type_range shape) n);
    }
    by_sign true false g = record { first = divisor_right a b x y h k; second = λ _. tt; value = λ p _. convert_holds shape exact z t (f (p refl)); has_value = convert_set shape exact }
    by_sign false o g = record { first = divisor_right a b x y h k; second = λ _. tt; value = λ p _. f (p refl); has_value = n }

signed : (shape : Shape) → is_signed shape ≡ true → shape.lo <ℤ pos 0
signed shape e = omega (arith, ints)

pub div_covers : CoversOperator Div div_row
unfolding div_row value_of
div_covers shape overflow a b x y t i h k = let n = quotient_covers a b in divided_covered shape overflow a b (quotient_row a b) x y (int_div x y) t h k n.0 (n.1 x y h k)
    (λ s p q. signed_quotient shape.lo shape.hi shape.width t x y (signed shape s) i p q)

pub rem_covers : CoversOperator Rem rem_row
unfolding rem_row value_of
rem_covers shape overflow a b x y t i h k = let n = remainder_covers a b in divided_covered shape overflow a b (remainder_row a b) x y (int_rem x y) t h k n.0 (n.1 x y h k)
    (λ _ p _. remainder_within shape.lo shape.hi shape.width t x y i p)

-- of any divisor
divided_mark : (shape : Shape) (overflow : Bool) (a b exact : Value) (x y : ℤ) → Holds a x → Holds b y
    → IsMark (is_checked shape overflow) (divided_row shape overflow a b exact).second (PassesQuotient shape.lo x y)
unfolding divided_row
divided_mark shape overflow a b exact x y h k = by_check (is_checked shape overflow)
  where
    left : Value
    left = cond (is_no (quotient_said shape a b)) (empty_of false) (meet_row exact (type_range shape))

    by_check : (c : Bool) → IsMark c (cond c (made_of left (Some (divisor_said a b)) (Some (quotient_said shape a b)))
        (made_of (cond (is_signed shape) (convert_row shape exact) exact) (Some (divisor_said a b)) None)).second (PassesQuotient shape.lo x y)
    by_check true = quotient_right shape a b x y h k
    by_check false = tt

pub div_any : CoversAnyDivisor Div div_row
unfolding div_row value_of
div_any shape overflow a b x y t i h k = (
  divided_mark shape overflow a b (quotient_row a b) x y h k,
  λ v n q.
      subst (λ z. Holds (divided_row shape overflow a b (quotient_row a b)).value z) (same n q)
      ((div_covers shape overflow a b x y t i h k).value (λ _. n) (λ _. q)),
)
  where
    same : PassesDivision y → PassesQuotient shape.lo x y → cond (int_lt shape.lo (pos 0)) (wrap shape.lo shape.width (int_div x y)) (int_div x y) ≡ int_div x y
    same n q = choose (λ z. z ≡ int_div x y) (int_lt shape.lo (pos 0)) _ _
        (λ s. wrap_kept shape.lo shape.hi shape.width t (int_div x y) (signed_quotient shape.lo shape.hi shape.width t x y (signed shape s) i n q)) (λ _. refl)

pub rem_any : CoversAnyDivisor Rem rem_row
unfolding rem_row value_of
rem_any shape overflow a b x y t i h k = (
  divided_mark shape overflow a b (remainder_row a b) x y h k,
  λ v n q.
      subst (λ z. Holds (divided_row shape overflow a b (remainder_row a b)).value z) (same n)
      ((rem_covers shape overflow a b x y t i h k).value (λ _. n) (λ _. q)),
)
  where
    same : PassesDivision y → cond (int_lt shape.lo (pos 0)) (wrap shape.lo shape.width (int_rem x y)) (int_rem x y) ≡ int_rem x y
    same n = choose (λ z. z ≡ int_rem x y) (int_lt shape.lo (pos 0)) _ _
        (λ s. wrap_kept shape.lo shape.hi shape.width t (int_rem x y) (remainder_within shape.lo shape.hi shape.width t x y i n)) (λ _. refl)

-- ---- shifts

module _ (shape : Shape) (a b : Value) (x y : ℤ) (h : Holds a x) (k : Holds b y) where
  pub shift_right : IsRight (shift_said shape a b) (PassesShift shape.width y)
  shift_right = by_test (interval_rows.is_empty a.range) (not_empty a.range x h.0) (within_said (pos 0) (pos shape.width -ℤ pos 1) b.range)
      (within_right (pos 0) (pos shape.width -ℤ pos 1) b.range y k.0)
    where
      turned : (s : Said) → IsRight s (IsWithin (pos 0) (pos shape.width -ℤ pos 1) y) → IsRight s (PassesShift shape.width y)
      turned Yes p = (p.0, omega (arith, ints, p.1))
      turned No p = λ q. p (q.0, omega (arith, ints, q.1))
      turned Maybe p = tt
      turned Unreached p = p

      by_test : (e : Bool) → e ≡ false → (s : Said) → IsRight s (IsWithin (pos 0) (pos shape.width -ℤ pos 1) y) → IsRight (cond e Unreached s) (PassesShift shape.width y)
      by_test true e s p = absurd (false≢true (sym e))
      by_test false e s p = turned s p

  pub shift_holds : PassesShift shape.width y → Holds (shift_of shape b) y
  shift_holds p = meet_holds b (shift_range shape) y k (p.0, omega (arith, ints, p.1))

  pub whole_holds : PassesShift shape.width y → Holds (shl_raw a (shift_of shape b)) (shl_of x y)
  unfolding shl_raw
  whole_holds p = let s = shift_holds p in parts_hold interval_rows.shl_row congr_rows.shl_row a (shift_of shape b) (shl_of x y)
      (intervals.shl_holds shape a.range (shift_of shape b).range x y (shift_parts shape b (shift_of shape b) refl).0 h.0 s.0) (congrs.shl_holds a.congr (shift_of shape b).congr x y h.1 s.1)

  pub shr_whole : PassesShift shape.width y → Holds (shr_raw a (shift_of shape b)) (shr_of x y)
  unfolding shr_raw
  shr_whole p = let s = shift_holds p in parts_hold interval_rows.shr_row congr_rows.shr_row a (shift_of shape b) (shr_of x y)
      (intervals.shr_holds shape a.range (shift_of shape b).range x y (shift_parts shape b (shift_of shape b) refl).0 h.0 s.0) (congrs.shr_holds a.congr (shift_of shape b).congr x y h.1 s.1)

shl_set : (a b : Value) → HasValue (shl_raw a b)
unfolding shl_raw
shl_set a b = parts_set interval_rows.shl_row congr_rows.shl_row a b

shr_set : (a b : Value) → HasValue (shr_raw a b)
unfolding shr_raw
shr_set a b = parts_set interval_rows.shr_row congr_rows.shr_row a b

part_holds : (shape : Shape) (a b : Value) (x y : ℤ) → Holds a x → Holds b y → pos 0 ≤ℤ x → x ≤ℤ shape.hi → PassesShift shape.width y
    → Holds (shl_raw (clipped shape a) (shift_of shape b)) (shl_of x y)
part_holds shape a b x y h k l m p = whole_holds shape (clipped shape a) b x y (meet_holds a (Within (pos 0) shape.hi) x h (l, m)) k p

pub starts_above : (lo : ℤ) (r : Interval) (z : ℤ) → starts_at lo r ≡ true → interval_laws.Holds r z → lo ≤ℤ z
starts_above lo Empty z e h = absurd h
starts_above lo (Within a b) z e h = omega (arith, ints, h.0)
starts_above lo All z e h = absurd (false≢true e)

pub ends_below : (hi : ℤ) (r : Interval) (z : ℤ) → ends_at hi r ≡ true → interval_laws.Holds r z → z ≤ℤ hi
ends_below hi Empty z e h = absurd h
ends_below hi (Within a b) z e h = omega (arith, ints, h.1)
ends_below hi All z e h = absurd (false≢true e)

below_all : (lo : ℤ) (r : Interval) (z : ℤ) → lies_below lo r ≡ true → interval_laws.Holds r z → z <ℤ lo
below_all lo Empty z e h = absurd h
below_all lo (Within a b) z e h = omega (arith, ints, h.1)
below_all lo All z e h = absurd (false≢true e)

above_all : (hi : ℤ) (r : Interval) (z : ℤ) → lies_above hi r ≡ true → interval_laws.Holds r z → hi <ℤ z
above_all hi Empty z e h = absurd h
above_all hi (Within a b) z e h = omega (arith, ints, h.0)
above_all hi All z e h = absurd (false≢true e)

clash : (z w : ℤ) → w <ℤ z → z ≤ℤ w → ⊥
clash z w f g = absurd (omega (arith, ints))

shl_right : (shape : Shape) (a b : Value) (x y : ℤ) → IsWithin shape.lo shape.hi x → Holds a x → Holds b y → PassesShift shape.width y
    → IsRight (shl_said shape a (shl_raw a (shift_of shape b)) (shl_raw (clipped shape a) (shift_of shape b))) (PassesShl shape.hi x y)
shl_right shape a b x y i h k p = by_test (interval_rows.is_empty whole.range) (not_empty whole.range (shl_of x y) held.0)
  where
    whole : Value
    whole = shl_raw a (shift_of shape b)

    part : Value
    part = shl_raw (clipped shape a) (shift_of shape b)

    held : Holds whole (shl_of x y)
    held = whole_holds shape a b x y h k p

    by_test : (e : Bool) → e ≡ false → IsRight (cond e Unreached
        (said_of (starts_at (pos 0) a.range && ends_at shape.hi whole.range) (lies_below (pos 0) a.range || lies_above shape.hi part.range))) (PassesShl shape.hi x y)
    by_test true e = absurd (false≢true (sym e))
    by_test false e = said_right (starts_at (pos 0) a.range && ends_at shape.hi whole.range) (lies_below (pos 0) a.range || lies_above shape.hi part.range) (PassesShl shape.hi x y)
        (λ s. let t = and_parts (starts_at (pos 0) a.range) (ends_at shape.hi whole.range) s in (starts_above (pos 0) a.range x t.0 h.0, ends_below shape.hi whole.range (shl_of x y) t.1 held.0))
        (λ s q. let l = q.0 in let m = q.1 in ⊎_elim
        (λ u. let v = below_all (pos 0) a.range x u h.0 in absurd (omega (arith, ints)))
        (λ u. let v = above_all shape.hi part.range (shl_of x y) u (part_holds shape a b x y h k l i.1 p).0 in clash (shl_of x y) shape.hi v m)
        (or_cases (lies_below (pos 0) a.range) (lies_above shape.hi part.range) s))

pub shr_covers : CoversOperator Shr shr_row
unfolding shr_row value_of
shr_covers shape overflow a b x y t _ h k = record {
  first = shift_right shape a b x y h k;
  second = λ _. tt;
  value = λ p _. shr_whole shape a b x y h k (p refl);
  has_value = shr_set a
      (shift_of shape b);
}

pub shl_covers : CoversOperator Shl shl_row
unfolding shl_row value_of
shl_covers shape overflow a b x y t i h k = by_check (is_checked shape overflow)
  where
    whole : Value
    whole = shl_raw a (shift_of shape b)

    part : Value
    part = shl_raw (clipped shape a) (shift_of shape b)

    by_check : (c : Bool) → Covered Always (If c) (PassesShift shape.width y) (PassesShl shape.hi x y) (wrap shape.lo shape.width (shl_of x y))
        (cond c (made_of (meet_row part (type_range shape)) (Some (shift_said shape a b)) (Some (shl_said shape a whole part))) (made_of (convert_row shape whole) (Some (shift_said shape a b)) None))
    by_check true = record {
      first = shift_right shape a b x y h k;
      second = shl_right shape a b x y i h k;
      value = λ p q. let l = shl_within shape.lo shape.hi shape.width t x y (q refl).0 (q refl).1 in rw (wrap_kept shape.lo shape.hi shape.width t (shl_of x y) l)
          (meet_holds part (type_range shape) (shl_of x y) (part_holds shape a b x y h k (q refl).0 i.1 (p refl)) l);
      has_value = meet_set part (type_range shape) (shl_set (clipped shape a) (shift_of shape b));
    }
    by_check false = record {
      first = shift_right shape a b x y h k;
      second = λ _. tt;
      value = λ p _. convert_holds shape whole (shl_of x y) t
          (whole_holds shape a b x y h k (p refl));
      has_value = convert_set shape whole;
    }

-- ---- bit operators, which have no check

pub invert_covers : CoversUnary Complement invert_row
unfolding invert_row not_raw unary_value
invert_covers shape overflow a x t i h = record {
  first = tt;
  second = λ _. tt;
  value = λ _ _. answer_holds (interval_rows.not_row shape a.range) (congr_rows.not_row shape a.congr) false (wrap shape.lo shape.width (not_of x))
      (intervals.not_holds shape a.range x t i h.0) (congrs.not_holds shape a.congr x t i h.1);
  has_value = answer_set (interval_rows.not_row shape a.range) (congr_rows.not_row shape a.congr);
}

pub and_covers : CoversOperator And bit_and_row
unfolding bit_and_row and_raw value_of
and_covers shape overflow a b x y t (i, j) h k = record {
  first = tt;
  second = λ _. tt;
  value = λ _ _. parts_hold (interval_rows.and_row shape) congr_rows.and_row a b (and_of x y) (intervals.and_holds shape a.range b.range x y t i j h.0 k.0)
      (congrs.and_holds a.congr b.congr x y h.1 k.1);
  has_value = parts_set (interval_rows.and_row shape) congr_rows.and_row a b;
}

pub or_covers : CoversOperator Or bit_or_row
unfolding bit_or_row or_raw value_of
or_covers shape overflow a b x y t (i, j) h k = record {
  first = tt;
  second = λ _. tt;
  value = λ _ _. parts_hold (interval_rows.or_row shape) congr_rows.or_row a b (or_of x y) (intervals.or_holds shape a.range b.range x y t i j h.0 k.0) (congrs.or_holds a.congr b.congr x y h.1 k.1);
  has_value = parts_set (interval_rows.or_row shape) congr_rows.or_row a b;
}

pub xor_covers : CoversOperator Xor bit_xor_row
unfolding bit_xor_row xor_raw value_of
xor_covers shape overflow a b x y t (i, j) h k = record {
  first = tt;
  second = λ _. tt;
  value = λ _ _. parts_hold (interval_rows.xor_row shape) congr_rows.xor_row a b (xor_of x y) (intervals.xor_holds shape a.range b.range x y t i j h.0 k.0)
      (congrs.xor_holds a.congr b.congr x y h.1 k.1);
  has_value = parts_set (interval_rows.xor_row shape) congr_rows.xor_row a b;
}
