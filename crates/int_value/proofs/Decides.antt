-- A mark says yes where all numbers of the operands pass the check, and only there.
use Rattle.std.proofs.Common.{◌≡◌, ◌≢◌, ◌↔◌, ℤ, pos, negsuc, neg_ℤ, ◌+ℤ◌, ◌-ℤ◌, ◌*ℤ◌, ◌≤ℤ◌, int_le, int_lt, Option}
use Rattle.std.proofs.Common.{Some, None, Bool, true, false, cond, not, ◌&&◌, ◌||◌, refl, ap, subst, ◌∙◌, sym, arith}
use Rattle.std.proofs.lemmas.Int.{ints}
use Rattle.std.proofs.lemmas.Bool.{and_parts, and_from, false≢true}
use Rattle.machine_ints.specs.Operators.{IsWithin, PassesDivision, PassesQuotient, PassesShift, PassesShl, shl_of}
use Rattle.machine_ints.specs.declared.operators.Operator.TheVariants.{Add, Sub, Mul, Div, Rem, Shl, Shr}
use Rattle.machine_ints.specs.declared.operators.UnaryOperator.TheVariants.{Negate}
use Rattle.machine_ints.proofs.Choices.{choose}
use Rattle.machine_ints.proofs.Results.{shl_within}
use Rattle.int_interval.proofs.Typed.{IsEnclosed, typed_enclosed, cut_enclosed, corner_enclosed}
use Rattle.int_interval.specs.Laws as interval_laws
use Rattle.int_interval.specs.Rows as interval_rows
use Rattle.int_interval.specs.Shapes as shapes
use Rattle.int_interval.specs.Shapes.{IsShape}
use Rattle.int_interval.specs.declared.interval.Interval.{Interval}
use Rattle.int_interval.specs.declared.interval.Interval.TheVariants.{Empty, Within, All}
use Rattle.int_interval.specs.declared.said.Said.{Said}
use Rattle.int_interval.specs.declared.said.Said.TheVariants.{Yes, No, Maybe, Unreached}
use Rattle.int_interval.specs.declared.shape.Shape.{Shape}
use Rattle.int_congr.specs.Laws as congr_laws
use Rattle.int_congr.specs.Rows as congr_rows
use Rattle.int_congr.specs.declared.congr.Congr.{Congr}
use Rattle.int_value.specs.Checks.{said_of, said_on, within_said, is_checked, typed_row, neg_row, add_row, sub_row, mul_row, divisor_said, quotient_said, divided_row}
use Rattle.int_value.specs.Checks.{div_row, rem_row, shift_range, shift_of, shift_said, starts_at, ends_at, shl_said, lies_below, lies_above, clipped, shl_row, shr_row}
use Rattle.int_value.specs.Decides.{HasEnds, IsBounded, DecidesFirst, DecidesSecond, DecidesUnary}
use Rattle.int_value.specs.Rows.{contains_row, negation_row, sum_row, difference_row, product_row, quotient_row, remainder_row, shl_raw}
use Rattle.int_value.specs.Standing.{Holds, IsRight, IsMark}
use Rattle.int_value.specs.Typed.{AreReduced}
use Rattle.int_value.specs.declared.made.Made.{Made}
use Rattle.int_value.specs.declared.value.Value.{Value}
use Rattle.int_value.proofs.Checked.{divisor_right, quotient_right, shift_right, shift_holds, whole_holds, starts_above, ends_below, neg_covers, add_covers, sub_covers, mul_covers}
use Rattle.int_value.proofs.Cover.{contains_member, not_empty, meet_both, negation_covers, sum_covers, difference_covers, product_covers}
use Rattle.int_value.proofs.Reduction.{shift_parts}
use Rattle.int_value.proofs.Typed.{answer_in, normal_of, meet_within_reduced}

-- ---- marks

right_yes : (s : Said) (P : Type 0) → s ≡ Yes → IsRight s P → P
right_yes Yes P e h = h
right_yes No P e h = absurd (cc)
right_yes Maybe P e h = absurd (cc)
right_yes Unreached P e h = absurd h

mark_yes : (b : Bool) (m : Option Said) (P : Type 0) → b ≡ true → m ≡ Some Yes → IsMark b m P → P
mark_yes true None P v e h = absurd h
mark_yes true (Some s) P v e h = let same : s ≡ Yes = cc in right_yes s P same h
mark_yes false m P v e h = absurd (false≢true v)

some_yes : (s : Said) → Some s ≡ Some Yes → s ≡ Yes
some_yes s e = cc

said_yes : (y n : Bool) → said_of y n ≡ Yes → y ≡ true
said_yes true n e = refl
said_yes false true e = absurd (cc)
said_yes false false e = absurd (cc)

yes_said : (y n : Bool) → y ≡ true → said_of y n ≡ Yes
yes_said true n e = refl
yes_said false n e = absurd (false≢true e)

-- both ends are from lo to hi
abbrev IsSpanned : ℤ → ℤ → Interval → Type 0
IsSpanned lo hi Empty = Unit {0}
IsSpanned lo hi (Within p q) = (lo ≤ℤ p) × (q ≤ℤ hi)
IsSpanned lo hi All = ⊥

enclosed_spanned : (shape : Shape) (r : Interval) → IsEnclosed shape r → IsSpanned shape.lo shape.hi r
enclosed_spanned shape Empty u = tt
enclosed_spanned shape (Within p q) u = u
enclosed_spanned shape All u = u

within_yes : (lo hi : ℤ) (r : Interval) (z : ℤ) → interval_laws.Holds r z → IsSpanned lo hi r → within_said lo hi r ≡ Yes
within_yes lo hi Empty z h s = absurd h
within_yes lo hi (Within p q) z h s = yes_said (interval_rows.is_inside p q lo hi) (int_lt q lo || int_lt hi p)
    (and_from (int_le lo p) (int_le q hi) (sym (omega (arith, ints, s.0))) (sym (omega (arith, ints, s.1))))
within_yes lo hi All z h s = absurd s

-- ---- ends

-- the least and the greatest number of a value
pub record Ends (v : Value) : Type 0 where
  pub lo : ℤ
  pub hi : ℤ
  pub is : v.range ≡ Within lo hi
  pub order : lo ≤ℤ hi
  pub low : Holds v lo
  pub high : Holds v hi

ends_of : (v : Value) → IsBounded v → Ends v
ends_of v b = by_range v.range v.congr refl refl b.0 b.1
  where
    by_range : (r : Interval) (c : Congr) → v.range ≡ r → v.congr ≡ c → HasEnds r → AreReduced r c → Ends v
    by_range Empty c e f h u = absurd h
    by_range (Within p q) c e f h u = record {
      lo = p;
      hi = q;
      is = e;
      order = u.0;
      low = (subst (λ i. interval_laws.Holds i p) (sym e) (omega (arith, ints), u.0), subst (λ d. congr_laws.Holds d p) (sym f) u.1);
      high = (subst (λ i. interval_laws.Holds i q) (sym e) (u.0, omega (arith, ints)), subst (λ d. congr_laws.Holds d q) (sym f) u.2);
    }
    by_range All c e f h u = absurd h

-- what a row of two intervals encloses, by their ends
by_ends : (shape : Shape) (row : Interval → Interval → Interval) (a b : Value) (s : Ends a) (t : Ends b) → IsEnclosed shape (row (Within s.lo s.hi) (Within t.lo t.hi))
    → IsEnclosed shape (row a.range b.range)
by_ends shape row a b s t h = subst (λ r. IsEnclosed shape (row r b.range)) (sym s.is) (subst (λ r. IsEnclosed shape (row (Within s.lo s.hi) r)) (sym t.is) h)

-- ---- `+ - *` and unary `-`

typed_yes : (shape : Shape) (overflow : Bool) (exact : Value) (z : ℤ) → is_checked shape overflow ≡ true → Holds exact z → shapes.IsTyped shape exact.range
    → (typed_row shape overflow exact).first ≡ Some Yes
unfolding typed_row
typed_yes shape overflow exact z v h u = choose (λ (m : Made). m.first ≡ Some Yes) (is_checked shape overflow) _ _
    (λ _. ap (λ (s : Said). Some s) (within_yes shape.lo shape.hi exact.range z h.0 (enclosed_spanned shape exact.range (typed_enclosed shape exact.range u))))
    (λ e. absurd (false≢true (sym e ∙ v)))

pub neg_decides : DecidesUnary Negate neg_row
unfolding neg_row negation_row interval_rows.negative_row
neg_decides shape overflow a t b v = let s = ends_of a b in (
  λ e x h. mark_yes _ _ _ v e (neg_covers shape overflow a x t tt h).first,
  λ all. typed_yes shape overflow (negation_row a) (neg_ℤ s.lo) v ((negation_covers a).1 s.lo s.low)
      (answer_in shape (interval_rows.negative_row a.range) (congr_rows.negative_row a.congr) false
      (subst (λ r. IsEnclosed shape (interval_rows.negative_row r)) (sym s.is) (cut_enclosed shape t (neg_ℤ s.hi) (neg_ℤ s.lo) (all s.hi s.high) (all s.lo s.low)))),
)

pub add_decides : DecidesFirst Add add_row
unfolding add_row sum_row interval_rows.sum_row
add_decides shape overflow a b t i j v = let s = ends_of a i in let u = ends_of b j in (
  λ e x y h k. mark_yes _ _ _ v e (add_covers shape overflow a b x y t tt h k).first,
  λ all. typed_yes shape overflow (sum_row a b) (s.lo +ℤ u.lo) v ((sum_covers a b).1 s.lo u.lo s.low u.low)
      (answer_in shape (interval_rows.sum_row a.range b.range) (congr_rows.sum_row a.congr b.congr) false
      (by_ends shape interval_rows.sum_row a b s u (cut_enclosed shape t (s.lo +ℤ u.lo) (s.hi +ℤ u.hi) (all s.lo u.lo s.low u.low) (all s.hi u.hi s.high u.high)))),
)

pub sub_decides : DecidesFirst Sub sub_row
unfolding sub_row difference_row interval_rows.difference_row
sub_decides shape overflow a b t i j v = let s = ends_of a i in let u = ends_of b j in (
  λ e x y h k. mark_yes _ _ _ v e (sub_covers shape overflow a b x y t tt h k).first,
  λ all. typed_yes shape overflow (difference_row a b) (s.lo -ℤ u.lo) v ((difference_covers a b).1 s.lo u.lo s.low u.low)
      (answer_in shape (interval_rows.difference_row a.range b.range) (congr_rows.difference_row a.congr b.congr) false
      (by_ends shape interval_rows.difference_row a b s u (cut_enclosed shape t (s.lo -ℤ u.hi) (s.hi -ℤ u.lo) (all s.lo u.hi s.low u.high) (all s.hi u.lo s.high u.low)))),
)

pub mul_decides : DecidesFirst Mul mul_row
unfolding mul_row product_row interval_rows.product_row
mul_decides shape overflow a b t i j v = let s = ends_of a i in let u = ends_of b j in (
  λ e x y h k. mark_yes _ _ _ v e (mul_covers shape overflow a b x y t tt h k).first,
  λ all. typed_yes shape overflow (product_row a b) (s.lo *ℤ u.lo) v ((product_covers a b).1 s.lo u.lo s.low u.low)
      (answer_in shape (interval_rows.product_row a.range b.range) (congr_rows.product_row a.congr b.congr) false
      (by_ends shape interval_rows.product_row a b s u (corner_enclosed shape t ◌*ℤ◌ s.lo s.hi u.lo u.hi (all s.lo u.lo s.low u.low) (all s.lo u.hi s.low u.high) (all s.hi u.lo s.high u.low)
      (all s.hi u.hi s.high u.high)))),
)

-- ---- `/` and `%`

divided_first : (shape : Shape) (overflow : Bool) (a b exact : Value) → (divided_row shape overflow a b exact).first ≡ Some (divisor_said a b)
unfolding divided_row
divided_first shape overflow a b exact = choose (λ (m : Made). m.first ≡ Some (divisor_said a b)) (is_checked shape overflow) _ _ (λ _. refl) (λ _. refl)

divided_second : (shape : Shape) (overflow : Bool) (a b exact : Value) → is_checked shape overflow ≡ true → (divided_row shape overflow a b exact).second ≡ Some (quotient_said shape a b)
unfolding divided_row
divided_second shape overflow a b exact v = choose (λ (m : Made). m.second ≡ Some (quotient_said shape a b)) (is_checked shape overflow) _ _ (λ _. refl) (λ e. absurd (false≢true (sym e ∙ v)))

-- what is said where both operands have numbers
said_on_yes : (a b : Value) (x y : ℤ) (sure never : Bool) → Holds a x → Holds b y → sure ≡ true → said_on a b sure never ≡ Yes
said_on_yes a b x y sure never h k e = by_test (interval_rows.is_empty a.range) (interval_rows.is_empty b.range) (not_empty a.range x h.0) (not_empty b.range y k.0)
  where
    by_test : (s t : Bool) → s ≡ false → t ≡ false → cond (s || t) Unreached (said_of sure never) ≡ Yes
    by_test true t f g = absurd (false≢true (sym f))
    by_test false true f g = absurd (false≢true (sym g))
    by_test false false f g = yes_said sure never e

not_from : (b : Bool) → (b ≡ true → ⊥) → not b ≡ true
not_from true n = absurd (n refl)
not_from false n = refl

divisor_decides : (a b : Value) → IsBounded a → IsBounded b → (divisor_said a b ≡ Yes) ↔ ((x y : ℤ) → Holds a x → Holds b y → PassesDivision y)
divisor_decides a b i j = let s = ends_of a i in let u = ends_of b j in (
  λ e x y h k. right_yes (divisor_said a b) (PassesDivision y) e (divisor_right a b x y h k),
  λ all. said_on_yes a b s.lo u.lo (not (contains_row b (pos 0))) (interval_rows.is_just b.range (pos 0)) s.low u.low
      (not_from (contains_row b (pos 0)) (λ c. all s.lo (pos 0) s.low ((contains_member b (pos 0)).0 c) refl)),
)

quotient_decides : (shape : Shape) (a b : Value) → IsBounded a → IsBounded b → (quotient_said shape a b ≡ Yes) ↔ ((x y : ℤ) → Holds a x → Holds b y → PassesDivision y → PassesQuotient shape.lo x y)
quotient_decides shape a b i j = let s = ends_of a i in let u = ends_of b j in (
  λ e x y h k _. right_yes (quotient_said shape a b) (PassesQuotient shape.lo x y) e (quotient_right shape a b x y h k),
  λ all. said_on_yes a b s.lo u.lo (not (contains_row a shape.lo) || not (contains_row b (negsuc 0))) (interval_rows.is_just a.range shape.lo && interval_rows.is_just b.range (negsuc 0)) s.low u.low
      (lacking (contains_row a shape.lo) (contains_row b (negsuc 0)) (λ c d. all shape.lo (negsuc 0) ((contains_member a shape.lo).0 c) ((contains_member b (negsuc 0)).0 d) one refl refl)),
)
  where
    one : negsuc 0 ≢ pos 0
    one e = absurd (omega (arith, ints))

    lacking : (p q : Bool) → (p ≡ true → q ≡ true → ⊥) → (not p || not q) ≡ true
    lacking true true n = absurd (n refl refl)
    lacking true false n = refl
    lacking false q n = refl

-- a mark that is some answer is yes where the answer is
of_mark : (m : Option Said) (s : Said) (P : Type 0) → m ≡ Some s → ((s ≡ Yes) ↔ P) → (m ≡ Some Yes) ↔ P
of_mark m s P e d = (λ f. d.0 (some_yes s (sym e ∙ f)), λ p. e ∙ ap (λ (t : Said). Some t) (d.1 p))

pub div_decides : DecidesFirst Div div_row
unfolding div_row
div_decides shape overflow a b t i j v = of_mark _ (divisor_said a b) _ (divided_first shape overflow a b (quotient_row a b)) (divisor_decides a b i j)

pub rem_decides : DecidesFirst Rem rem_row
unfolding rem_row
rem_decides shape overflow a b t i j v = of_mark _ (divisor_said a b) _ (divided_first shape overflow a b (remainder_row a b)) (divisor_decides a b i j)

pub div_overflow_decides : DecidesSecond Div div_row
unfolding div_row
div_overflow_decides shape overflow a b x y t i j v k p = of_mark _ (quotient_said shape a b) _ (divided_second shape overflow a b (quotient_row a b) v) (quotient_decides shape a b i j)

pub rem_overflow_decides : DecidesSecond Rem rem_row
unfolding rem_row
rem_overflow_decides shape overflow a b x y t i j v k p = of_mark _ (quotient_said shape a b) _ (divided_second shape overflow a b (remainder_row a b) v) (quotient_decides shape a b i j)

-- ---- shifts

shift_decides : (shape : Shape) (a b : Value) → IsBounded a → IsBounded b → (shift_said shape a b ≡ Yes) ↔ ((x y : ℤ) → Holds a x → Holds b y → PassesShift shape.width y)
shift_decides shape a b i j = let s = ends_of a i in let u = ends_of b j in (
  λ e x y h k. right_yes (shift_said shape a b) (PassesShift shape.width y) e (shift_right shape a b x y h k),
  λ all. choose (λ m. m ≡ Yes) (interval_rows.is_empty a.range) Unreached (within_said (pos 0) (pos shape.width -ℤ pos 1) b.range)
      (λ e. absurd (false≢true (sym (not_empty a.range s.lo s.low.0) ∙ e)))
      (λ _. subst (λ r. within_said (pos 0) (pos shape.width -ℤ pos 1) r ≡ Yes) (sym u.is)
      (within_yes (pos 0) (pos shape.width -ℤ pos 1) (Within u.lo u.hi) u.lo (omega (arith, ints), u.order) ((all s.lo u.lo s.low u.low).0, omega (arith, ints, (all s.lo u.hi s.low u.high).1)))),
)

pub shr_decides : DecidesFirst Shr shr_row
unfolding shr_row
shr_decides shape overflow a b t i j v = of_mark _ (shift_said shape a b) _ refl (shift_decides shape a b i j)

shl_first : (shape : Shape) (overflow : Bool) (a b : Value) → (shl_row shape overflow a b).first ≡ Some (shift_said shape a b)
unfolding shl_row
shl_first shape overflow a b = choose (λ (m : Made). m.first ≡ Some (shift_said shape a b)) (is_checked shape overflow) _ _ (λ _. refl) (λ _. refl)

shl_second : (shape : Shape) (overflow : Bool) (a b : Value) → is_checked shape overflow ≡ true
    → (shl_row shape overflow a b).second ≡ Some (shl_said shape a (shl_raw a (shift_of shape b)) (shl_raw (clipped shape a) (shift_of shape b)))
unfolding shl_row
shl_second shape overflow a b v = choose (λ (m : Made). m.second ≡ Some (shl_said shape a (shl_raw a (shift_of shape b)) (shl_raw (clipped shape a) (shift_of shape b))))
    (is_checked shape overflow) _ _ (λ _. refl) (λ e. absurd (false≢true (sym e ∙ v)))

pub shl_decides : DecidesFirst Shl shl_row
shl_decides shape overflow a b t i j v = of_mark _ (shift_said shape a b) _ (shl_first shape overflow a b) (shift_decides shape a b i j)

-- the right operand as far as it passes the check has ends, which are in it
shift_bounded : (shape : Shape) (b : Value) (y : ℤ) → IsBounded b → Holds b y → PassesShift shape.width y → IsBounded (shift_of shape b)
shift_bounded shape b y j k p = (
  by_range (shift_of shape b).range (shift_holds shape b b y y k k p).0 (shift_parts shape b (shift_of shape b) refl).0,
  meet_within_reduced b (pos 0) (pos shape.width -ℤ pos 1) (normal_of b j.1),
)
  where
    by_range : (r : Interval) → interval_laws.Holds r y → shapes.IsShift shape r → HasEnds r
    by_range Empty h s = h
    by_range (Within p q) h s = tt
    by_range All h s = s

ends_typed : (shape : Shape) (r : Interval) (z : ℤ) → interval_laws.Holds r z → shapes.IsTyped shape r → ends_at shape.hi r ≡ true
ends_typed shape Empty z h u = absurd h
ends_typed shape (Within p q) z h u = sym (omega (arith, ints, u.2))
ends_typed shape All z h u = absurd u

starts_from : (lo : ℤ) (r : Interval) (p q : ℤ) → r ≡ Within p q → lo ≤ℤ p → starts_at lo r ≡ true
starts_from lo r p q e l = subst (λ i. starts_at lo i ≡ true) (sym e) (sym (omega (arith, ints)))

shl_corners : (shape : Shape) → IsShape shape → (p q r s : ℤ) → IsWithin shape.lo shape.hi (shl_of p r) → IsWithin shape.lo shape.hi (shl_of p s) → IsWithin shape.lo shape.hi (shl_of q r)
    → IsWithin shape.lo shape.hi (shl_of q s) → IsEnclosed shape (interval_rows.shl_row (Within p q) (Within r s))
unfolding interval_rows.shl_row
shl_corners shape t p q r s = corner_enclosed shape t shl_of p q r s

whole_typed_in : (shape : Shape) (a b : Value) → IsEnclosed shape (interval_rows.shl_row a.range b.range) → shapes.IsTyped shape (shl_raw a b).range
unfolding shl_raw
whole_typed_in shape a b u = answer_in shape (interval_rows.shl_row a.range b.range) (congr_rows.shl_row a.congr b.congr) false u

module _ (shape : Shape) (t : IsShape shape) (a b : Value) (y : ℤ) (i : IsBounded a) (j : IsBounded b) (k : Holds b y) (p : PassesShift shape.width y) where
  abbrev by : Value
  by = shift_of shape b

  abbrev whole : Value
  whole = shl_raw a by

  abbrev part : Value
  part = shl_raw (clipped shape a) by

  ends : Ends by
  ends = ends_of by (shift_bounded shape b y j k p)

  -- a number of the right operand that passes the check is one of b
  passing : (z : ℤ) → Holds by z → Holds b z × PassesShift shape.width z
  passing z h = let m = (meet_both b (shift_range shape) (Some z)).0 h in (m.0, (m.1.0, omega (arith, ints, m.1.1)))

  said_decides : (shl_said shape a whole part ≡ Yes) ↔ ((x y : ℤ) → Holds a x → Holds b y → PassesShift shape.width y → PassesShl shape.hi x y)
  said_decides = (
    λ e x z h l q. let w = whole_holds shape a b x z h l q in
        let o = and_parts (starts_at (pos 0) a.range) (ends_at shape.hi whole.range) (said (interval_rows.is_empty whole.range) (not_empty whole.range (shl_of x z) w.0) e) in
        (starts_above (pos 0) a.range x o.0 h.0, ends_below shape.hi whole.range (shl_of x z) o.1 w.0),
    λ all. choose (λ m. m ≡ Yes) (interval_rows.is_empty whole.range) Unreached _
        (λ e. absurd (false≢true (sym (not_empty whole.range (shl_of s.lo y) (held all)) ∙ e)))
        (λ _. yes_said (starts_at (pos 0) a.range && ends_at shape.hi whole.range) (lies_below (pos 0) a.range || lies_above shape.hi part.range)
        (and_from (starts_at (pos 0) a.range) (ends_at shape.hi whole.range) (starts_from (pos 0) a.range s.lo s.hi s.is (all s.lo y s.low k p).0)
        (ends_typed shape whole.range (shl_of s.lo y) (held all) (typed all)))),
  )
    where
      s : Ends a
      s = ends_of a i

      said : (b : Bool) → b ≡ false → cond b Unreached (said_of (starts_at (pos 0) a.range && ends_at shape.hi whole.range)
          (lies_below (pos 0) a.range || lies_above shape.hi part.range)) ≡ Yes → (starts_at (pos 0) a.range && ends_at shape.hi whole.range) ≡ true
      said true n e = absurd (false≢true (sym n))
      said false n e = said_yes (starts_at (pos 0) a.range && ends_at shape.hi whole.range) (lies_below (pos 0) a.range || lies_above shape.hi part.range) e

      Goal : Type 0
      Goal = (x y : ℤ) → Holds a x → Holds b y → PassesShift shape.width y → PassesShl shape.hi x y

      held : Goal → interval_laws.Holds whole.range (shl_of s.lo y)
      held all = (whole_holds shape a b s.lo y s.low k p).0

      corner : Goal → (x z : ℤ) → Holds a x → Holds by z → IsWithin shape.lo shape.hi (shl_of x z)
      corner all x z h l = let m = passing z l in let q = all x z h m.0 m.1 in shl_within shape.lo shape.hi shape.width t x z q.0 q.1

      typed : Goal → shapes.IsTyped shape whole.range
      typed all = whole_typed_in shape a by (by_ends shape interval_rows.shl_row a by s ends
          (shl_corners shape t s.lo s.hi ends.lo ends.hi (corner all s.lo ends.lo s.low ends.low) (corner all s.lo ends.hi s.low ends.high) (corner all s.hi ends.lo s.high ends.low)
          (corner all s.hi ends.hi s.high ends.high)))

pub shl_overflow_decides : DecidesSecond Shl shl_row
shl_overflow_decides shape overflow a b x y t i j v k p = of_mark _ _ _ (shl_second shape overflow a b v) (said_decides shape t a b y i j k p)
