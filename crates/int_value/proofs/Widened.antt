-- What a widening stands for, and that it keeps to the type.
use Rattle.std.proofs.Common.{◌≡◌, ℕ, ℤ, ◌≤ℤ◌, int_le, int_lt, nat_le, Bool, true, false, Some, None, cond, ◌||◌, ◌⊎◌, List, [], ◌∷◌, fold, filter, refl, ◌∙◌, arith, inl, inr, ⊎_elim}
use Rattle.std.specs.Int.{int_min, int_max}
use Rattle.std.proofs.lemmas.Int.{ints, clamps}
use Rattle.machine_ints.specs.Operators.{IsWithin}
use Rattle.int_interval.proofs.Cover as intervals
use Rattle.int_interval.proofs.Typed.{IsEnclosed, cut_enclosed}
use Rattle.int_interval.specs.Laws as interval_laws
use Rattle.int_interval.specs.Shapes as shapes
use Rattle.int_interval.specs.Shapes.{IsShape}
use Rattle.int_interval.specs.declared.interval.Interval.{Interval}
use Rattle.int_interval.specs.declared.interval.Interval.TheVariants.{Empty, Within, All}
use Rattle.int_interval.specs.declared.shape.Shape.{Shape}
use Rattle.int_value.specs.Laws.{WidenIsUpper}
use Rattle.int_value.specs.Rows.{answer_congr, joined_congr}
use Rattle.int_value.specs.Typed.{WidenIsTyped, WidenKeepsRange}
use Rattle.int_value.specs.Widening.{next_above, next_below, new_high, new_low, grown_high, grown_low, widen_range, widen_row}
use Rattle.int_value.proofs.Cover.{answer_holds, range_unset, joined_left, joined_right, or_left, or_right}
use Rattle.int_value.proofs.Typed.{answer_typed, answer_in, joined_normal}

-- the next threshold is no lower than what is below the bound and the type's end, nor higher than that end
above_range : (hi top z : ℤ) (ts : List ℤ) → z ≤ℤ hi → z ≤ℤ top → (z ≤ℤ next_above hi top ts) × (next_above hi top ts ≤ℤ top)
above_range hi top z [] h k = (k, omega (arith, ints))
above_range hi top z (t ∷ ts) h k = by_test (int_le hi t) refl (above_range hi top z ts h k) (λ l. above_range hi (int_min top t) z ts h l)
  where
    rest : List ℤ
    rest = filter (λ t. int_le hi t) ts

    by_test : (b : Bool) → int_le hi t ≡ b → (z ≤ℤ next_above hi top ts) × (next_above hi top ts ≤ℤ top)
        → (z ≤ℤ int_min top t → (z ≤ℤ next_above hi (int_min top t) ts) × (next_above hi (int_min top t) ts ≤ℤ int_min top t))
        → (z ≤ℤ fold int_min top (cond b (t ∷ rest) rest)) × (fold int_min top (cond b (t ∷ rest) rest) ≤ℤ top)
    by_test true e skipped kept = let l = kept (omega (arith, ints, clamps)) in (l.0, shorter (next_above hi (int_min top t) ts) l.1)
      where
        shorter : (n : ℤ) → n ≤ℤ int_min top t → n ≤ℤ top
        shorter n g = omega (arith, ints, clamps)
    by_test false e skipped kept = skipped

below_range : (lo bottom z : ℤ) (ts : List ℤ) → lo ≤ℤ z → bottom ≤ℤ z → (next_below lo bottom ts ≤ℤ z) × (bottom ≤ℤ next_below lo bottom ts)
below_range lo bottom z [] h k = (k, omega (arith, ints))
below_range lo bottom z (t ∷ ts) h k = by_test (int_le t lo) refl (below_range lo bottom z ts h k) (λ l. below_range lo (int_max bottom t) z ts h l)
  where
    rest : List ℤ
    rest = filter (λ t. int_le t lo) ts

    by_test : (b : Bool) → int_le t lo ≡ b → (next_below lo bottom ts ≤ℤ z) × (bottom ≤ℤ next_below lo bottom ts)
        → (int_max bottom t ≤ℤ z → (next_below lo (int_max bottom t) ts ≤ℤ z) × (int_max bottom t ≤ℤ next_below lo (int_max bottom t) ts))
        → (fold int_max bottom (cond b (t ∷ rest) rest) ≤ℤ z) × (bottom ≤ℤ fold int_max bottom (cond b (t ∷ rest) rest))
    by_test true e skipped kept = let l = kept (omega (arith, ints, clamps)) in (l.0, shorter (next_below lo (int_max bottom t) ts) l.1)
      where
        shorter : (n : ℤ) → int_max bottom t ≤ℤ n → bottom ≤ℤ n
        shorter n g = omega (arith, ints, clamps)
    by_test false e skipped kept = skipped

module _ (turn : ℕ) (ts : List ℤ) (shape : Shape) where
  high_range : (hi z : ℤ) → z ≤ℤ hi → z ≤ℤ shape.hi → (z ≤ℤ new_high turn ts shape hi) × (new_high turn ts shape hi ≤ℤ shape.hi)
  unfolding new_high
  high_range hi z h k = by_turn (nat_le turn 8)
    where
      by_turn : (b : Bool) → (z ≤ℤ cond b (next_above hi shape.hi ts) shape.hi) × (cond b (next_above hi shape.hi ts) shape.hi ≤ℤ shape.hi)
      by_turn true = above_range hi shape.hi z ts h k
      by_turn false = (k, omega (arith, ints))

  low_range : (lo z : ℤ) → lo ≤ℤ z → shape.lo ≤ℤ z → (new_low turn ts shape lo ≤ℤ z) × (shape.lo ≤ℤ new_low turn ts shape lo)
  unfolding new_low
  low_range lo z h k = by_turn (nat_le turn 8)
    where
      by_turn : (b : Bool) → (cond b (next_below lo shape.lo ts) shape.lo ≤ℤ z) × (shape.lo ≤ℤ cond b (next_below lo shape.lo ts) shape.lo)
      by_turn true = below_range lo shape.lo z ts h k
      by_turn false = (k, omega (arith, ints))

  -- a number of the type that one of both bounds admits is admitted
  high_upper : (old hi z : ℤ) → z ≤ℤ shape.hi → (z ≤ℤ old) ⊎ (z ≤ℤ hi) → z ≤ℤ grown_high turn ts shape old hi
  high_upper old hi z k h = by_test (int_lt old hi) refl
    where
      by_test : (b : Bool) → int_lt old hi ≡ b → z ≤ℤ cond b (new_high turn ts shape hi) old
      by_test true e = (high_range hi z (⊎_elim (λ (l : z ≤ℤ old). trans z old hi l (omega (arith, ints))) (λ (l : z ≤ℤ hi). l) h) k).0
        where
          trans : (p q r : ℤ) → p ≤ℤ q → q ≤ℤ r → p ≤ℤ r
          trans p q r f g = omega (arith, ints)
      by_test false e = ⊎_elim (λ (l : z ≤ℤ old). l) (λ (l : z ≤ℤ hi). omega (arith, ints)) h

  low_upper : (old lo z : ℤ) → shape.lo ≤ℤ z → (old ≤ℤ z) ⊎ (lo ≤ℤ z) → grown_low turn ts shape old lo ≤ℤ z
  low_upper old lo z k h = by_test (int_lt lo old) refl
    where
      by_test : (b : Bool) → int_lt lo old ≡ b → cond b (new_low turn ts shape lo) old ≤ℤ z
      by_test true e = (low_range lo z (⊎_elim (λ (l : old ≤ℤ z). trans lo old z (omega (arith, ints)) l) (λ (l : lo ≤ℤ z). l) h) k).0
        where
          trans : (p q r : ℤ) → p ≤ℤ q → q ≤ℤ r → p ≤ℤ r
          trans p q r f g = omega (arith, ints)
      by_test false e = ⊎_elim (λ (l : old ≤ℤ z). l) (λ (l : lo ≤ℤ z). omega (arith, ints)) h

  -- and the bounds keep to the type
  high_end : (old hi : ℤ) → IsWithin shape.lo shape.hi old → IsWithin shape.lo shape.hi hi → IsWithin shape.lo shape.hi (grown_high turn ts shape old hi)
  high_end old hi i j = by_test (int_lt old hi)
    where
      by_test : (b : Bool) → IsWithin shape.lo shape.hi (cond b (new_high turn ts shape hi) old)
      by_test true = let r = high_range hi shape.lo j.0 (omega (arith, ints, j.0, j.1)) in r
      by_test false = i

  low_end : (old lo : ℤ) → IsWithin shape.lo shape.hi old → IsWithin shape.lo shape.hi lo → IsWithin shape.lo shape.hi (grown_low turn ts shape old lo)
  low_end old lo i j = by_test (int_lt lo old)
    where
      by_test : (b : Bool) → IsWithin shape.lo shape.hi (cond b (new_low turn ts shape lo) old)
      by_test true = let r = low_range lo shape.hi j.1 (omega (arith, ints, j.0, j.1)) in (r.1, r.0)
      by_test false = i

  range_upper : (old next : Interval) (z : ℤ) → IsWithin shape.lo shape.hi z → (interval_laws.Holds old z → interval_laws.Holds (widen_range turn ts shape old next) z)
      × (interval_laws.Holds next z → interval_laws.Holds (widen_range turn ts shape old next) z)
  range_upper Empty Empty z i = (λ h. h, λ h. h)
  range_upper Empty (Within c d) z i = (λ h. absurd h, λ h. intervals.cut_holds (new_low turn ts shape c) (new_high turn ts shape d) z (low_range c z h.0 i.0).0 (high_range d z h.1 i.1).0)
  range_upper Empty All z i = (λ h. absurd h, λ h. tt)
  range_upper (Within a b) Empty z i = (λ h. h, λ h. absurd h)
  range_upper (Within a b) (Within c d) z i = (
    λ h. intervals.cut_holds (grown_low turn ts shape a c) (grown_high turn ts shape b d) z (low_upper a c z i.0 (inl h.0)) (high_upper b d z i.1 (inl h.1)),
    λ h. intervals.cut_holds (grown_low turn ts shape a c) (grown_high turn ts shape b d) z (low_upper a c z i.0 (inr h.0)) (high_upper b d z i.1 (inr h.1)),
  )
  range_upper (Within a b) All z i = (λ h. tt, λ h. tt)
  range_upper All next z i = (λ h. tt, λ h. tt)

  range_enclosed : (old next : Interval) → IsShape shape → shapes.IsTyped shape old → shapes.IsTyped shape next → IsEnclosed shape (widen_range turn ts shape old next)
  range_enclosed Empty Empty t u v = tt
  range_enclosed Empty (Within c d) t u v = cut_enclosed shape t (new_low turn ts shape c) (new_high turn ts shape d)
      (let r = low_range c shape.hi (chain c d shape.hi v.1 v.2) (order v) in (r.1, r.0)) (high_range d shape.lo (chain shape.lo c d v.0 v.1) (order v))
    where
      chain : (p q r : ℤ) → p ≤ℤ q → q ≤ℤ r → p ≤ℤ r
      chain p q r f g = omega (arith, ints)

      order : (shape.lo ≤ℤ c) × (c ≤ℤ d) × (d ≤ℤ shape.hi) → shape.lo ≤ℤ shape.hi
      order v = chain shape.lo c shape.hi v.0 (chain c d shape.hi v.1 v.2)
  range_enclosed Empty All t u v = absurd v
  range_enclosed (Within a b) Empty t u v = (u.0, u.2)
  range_enclosed (Within a b) (Within c d) t u v = cut_enclosed shape t (grown_low turn ts shape a c) (grown_high turn ts shape b d)
      (low_end a c (u.0, chain a b shape.hi u.1 u.2) (v.0, chain c d shape.hi v.1 v.2)) (high_end b d (chain shape.lo a b u.0 u.1, u.2) (chain shape.lo c d v.0 v.1, v.2))
    where
      chain : (p q r : ℤ) → p ≤ℤ q → q ≤ℤ r → p ≤ℤ r
      chain p q r f g = omega (arith, ints)
  range_enclosed (Within a b) All t u v = absurd v
  range_enclosed All next t u v = absurd u

pub widen_upper : WidenIsUpper
unfolding widen_row
widen_upper turn ts shape old next None i =
    let r = widen_range turn ts shape old.range next.range in
    let same = range_unset r (answer_congr r (joined_congr old next)) (old.unset || next.unset) in
    (λ e. same ∙ or_left old.unset next.unset e, λ e. same ∙ or_right old.unset next.unset e)
widen_upper turn ts shape old next (Some z) i = let r = range_upper turn ts shape old.range next.range z i in (
  λ h. answer_holds (widen_range turn ts shape old.range next.range) (joined_congr old next) (old.unset || next.unset) z (r.0 h.0) (joined_left old next z h),
  λ h. answer_holds (widen_range turn ts shape old.range next.range) (joined_congr old next) (old.unset || next.unset) z (r.1 h.0) (joined_right old next z h),
)

pub widen_typed : WidenIsTyped
unfolding widen_row
widen_typed turn ts shape old next t u v = answer_typed shape (widen_range turn ts shape old.range next.range) (joined_congr old next) (old.unset || next.unset)
    (range_enclosed turn ts shape old.range next.range t u.0 v.0) (joined_normal old next u.1 v.1)

pub widen_keeps : WidenKeepsRange
unfolding widen_row
widen_keeps turn ts shape old next t u v = answer_in shape (widen_range turn ts shape old.range next.range) (joined_congr old next) (old.unset || next.unset)
    (range_enclosed turn ts shape old.range next.range t u v)
