-- What is met with an interval whose ends are crossed is empty; where an index is met with an array's range.
use Rattle.std.proofs.Common.{◌≡◌, ℤ, pos, ◌+ℤ◌, ◌-ℤ◌, FitsSigned, ◌≤ℤ◌, ◌<ℤ◌, int_le, int_lt, Bool, true, false, cond, refl, sym, ap, ◌∙◌, arith}
use Rattle.std.specs.Int.{int_max, int_min, w128}
use Rattle.std.proofs.lemmas.Int.{ints, clamps}
use Rattle.std.proofs.lemmas.Bool.{and_parts, false≢true}
use Rattle.machine_ints.proofs.Choices.{choose}
use Rattle.int_interval.specs.declared.interval.Interval.{Interval}
use Rattle.int_interval.specs.declared.interval.Interval.TheVariants.{Empty, Within, All}
use Rattle.int_interval.specs.Rows as intervals
use Rattle.int_congr.specs.declared.congr.Congr.{Congr}
use Rattle.int_congr.specs.Rows as congrs
use Rattle.int_value.specs.declared.value.Value.{Value}
use Rattle.int_value.specs.Rows.{empty_of, one_of, value_of, raised_to, lowered_to, between, reduced, reduced_range, meet_row}
use Rattle.int_value.proofs.Reduction.{between_empty}
use Rattle.int_interval.specs.Rows.{is_one}
use Rattle.abs_cells.specs.Relations.{high_but, low_but}

reduced_crossed : (l h : ℤ) (c : Congr) (u : Bool) → h <ℤ l → reduced l h c u ≡ empty_of u
unfolding reduced
reduced_crossed l h c u crossed = choose (λ (v : Value). v ≡ empty_of u) (congrs.is_only c) _ _
    (λ _. choose (λ (v : Value). v ≡ empty_of u) (intervals.contains_row (Within l h) c.rem) _ _
    (λ i. let t = and_parts (int_le l c.rem) (int_le c.rem h) i in let a = t.0 in let b = t.1 in absurd (omega (arith, ints)))
    (λ _. refl))
    (λ _. sym (between_empty (raised_to c l) (lowered_to c h) c u under))
  where
    under : lowered_to c h <ℤ raised_to c l
    under = omega (arith, ints)

pub meet_crossed : (v : Value) (l h : ℤ) → h <ℤ l → meet_row v (Within l h) ≡ meet_row v Empty
unfolding meet_row intervals.meet_row
meet_crossed v l h crossed = by_range v.range v.congr v.unset
  where
    by_range : (r : Interval) (c : Congr) (u : Bool)
        → reduced_range (intervals.meet_row r (Within l h)) c u ≡ reduced_range (intervals.meet_row r Empty) c u
    by_range Empty c u = refl
    by_range (Within a b) c u = choose (λ (i : Interval). reduced_range i c u ≡ empty_of u)
        (int_le (int_max a l) (int_min b h)) (Within (int_max a l) (int_min b h)) Empty
        (λ e. absurd (omega (arith, ints, clamps))) (λ _. refl)
    by_range All c u = reduced_crossed l h c u crossed

-- an end past 128 bits is past the other
pub past_above : (v : Value) (end hi : ℤ) → FitsSigned w128 end → FitsSigned w128 hi → ¬ (FitsSigned w128 (end +ℤ pos 1))
    → meet_row v Empty ≡ meet_row v (Within (end +ℤ pos 1) hi)
past_above v end hi f g n = sym (meet_crossed v (end +ℤ pos 1) hi (crossed f g n))
  where
    crossed : FitsSigned w128 end → FitsSigned w128 hi → ¬ (FitsSigned w128 (end +ℤ pos 1)) → hi <ℤ (end +ℤ pos 1)
    crossed f g n = grind (arith, ints)

pub past_below : (v : Value) (lo end : ℤ) → FitsSigned w128 lo → FitsSigned w128 end → ¬ (FitsSigned w128 (end -ℤ pos 1))
    → meet_row v Empty ≡ meet_row v (Within lo (end -ℤ pos 1))
past_below v lo end f g n = sym (meet_crossed v lo (end -ℤ pos 1) (crossed f g n))
  where
    crossed : FitsSigned w128 lo → FitsSigned w128 end → ¬ (FitsSigned w128 (end -ℤ pos 1)) → (end -ℤ pos 1) <ℤ lo
    crossed f g n = grind (arith, ints)

-- where both ends are one number, none is left without it
pub both_ends : (v : Value) (lo hi n : ℤ) → is_one lo n ≡ true → is_one hi n ≡ true
    → meet_row v Empty ≡ meet_row v (Within (low_but lo n) (high_but hi n))
both_ends v lo hi n e f = sym (meet_crossed v (low_but lo n) (high_but hi n) crossed)
  where
    moved : cond (is_one hi n) (hi -ℤ pos 1) hi <ℤ cond (is_one lo n) (lo +ℤ pos 1) lo
    moved = rw (e, f) (ends (and_parts (int_le lo n) (int_le n lo) e) (and_parts (int_le hi n) (int_le n hi) f))
      where
        ends : (int_le lo n ≡ true) × (int_le n lo ≡ true) → (int_le hi n ≡ true) × (int_le n hi ≡ true)
            → (hi -ℤ pos 1) <ℤ (lo +ℤ pos 1)
        ends (p, q) (r, s) = omega (arith, ints)

    crossed : high_but hi n <ℤ low_but lo n
    crossed = moved
