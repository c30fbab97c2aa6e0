-- What reduction leaves.
use Rattle.std.proofs.Common.{◌≡◌, ◌≢◌, ℤ, pos, ◌-ℤ◌, ◌≤ℤ◌, ◌<ℤ◌, unsigned_abs, int_le, int_lt, FitsSigned, Bool, true, false, cond, ◌⊎◌, refl, ap, ◌∙◌, arith, inl, inr, ⊎_elim}
use Rattle.std.specs.Int.{w128, int_min, int_max}
use Rattle.std.proofs.lemmas.Int.{ints, clamps}
use Rattle.std.proofs.lemmas.Bool.{and_parts, eqb-false}
use Rattle.machine_ints.proofs.Choices.{choose}
use Rattle.int_interval.specs.declared.shape.Shape.{Shape}
use Rattle.int_interval.specs.declared.interval.Interval.{Interval}
use Rattle.int_interval.specs.declared.interval.Interval.TheVariants.{Empty, Within, All}
use Rattle.int_interval.specs.Rows as intervals
use Rattle.int_interval.specs.Shapes.{IsShift}
use Rattle.int_congr.specs.declared.congr.Congr.{Congr}
use Rattle.int_congr.specs.Rows as congrs
use Rattle.int_value.specs.declared.value.Value.{Value}
use Rattle.int_value.specs.Checks.{shift_of}
use Rattle.int_value.specs.Rows.{value_of, empty_of, one_of, raised_to, lowered_to, between, reduced, reduced_range, meet_row}

pub between_empty : (lo hi : ℤ) (c : Congr) (unset : Bool) → hi <ℤ lo → empty_of unset ≡ between lo hi c unset
between_empty lo hi c unset h = let e : true ≡ int_lt hi lo = omega (arith, ints) in
    ap (λ (b : Bool). cond b (empty_of unset) (cond (int_le hi lo) (one_of lo unset) (value_of (Within lo hi) c unset))) e

-- an end that doesn't fit 128 bits is past the other
pub raised_past : (lo hi : ℤ) (c : Congr) → FitsSigned w128 lo → FitsSigned w128 hi → ¬ (FitsSigned w128 (raised_to c lo)) → lowered_to c hi <ℤ raised_to c lo
raised_past lo hi c f g n = by_fit (raised_to c lo) (lowered_to c hi) n (omega (arith, ints)) (omega (arith, ints)) f g
  where
    by_fit : (r l : ℤ) → ¬ (FitsSigned w128 r) → lo ≤ℤ r → l ≤ℤ hi → FitsSigned w128 lo → FitsSigned w128 hi → l <ℤ r
    by_fit r l n h k f g = grind (arith, ints)

pub lowered_past : (lo hi : ℤ) (c : Congr) → FitsSigned w128 lo → FitsSigned w128 hi → ¬ (FitsSigned w128 (lowered_to c hi)) → lowered_to c hi <ℤ raised_to c lo
lowered_past lo hi c f g n = by_fit (raised_to c lo) (lowered_to c hi) n (omega (arith, ints)) (omega (arith, ints)) f g
  where
    by_fit : (r l : ℤ) → ¬ (FitsSigned w128 l) → lo ≤ℤ r → l ≤ℤ hi → FitsSigned w128 lo → FitsSigned w128 hi → l <ℤ r
    by_fit r l n h k f g = grind (arith, ints)

-- the flag is a part by itself
flagged : (unset b : Bool) (s t v w : Value) → value_of s.range s.congr unset ≡ v → value_of t.range t.congr unset ≡ w → value_of (cond b s t).range (cond b s t).congr unset ≡ cond b v w
flagged unset true s t v w e f = e
flagged unset false s t v w e f = f

within_flag : (lo hi : ℤ) (c : Congr) (unset : Bool) → value_of (reduced lo hi c false).range (reduced lo hi c false).congr unset ≡ reduced lo hi c unset
unfolding reduced
within_flag lo hi c unset = flagged unset (congrs.is_only c) _ _ _ _ (flagged unset (intervals.contains_row (Within lo hi) c.rem) _ _ _ _ refl refl)
    (flagged unset (int_lt (lowered_to c hi) (raised_to c lo)) _ _ _ _ refl (flagged unset (int_le (lowered_to c hi) (raised_to c lo)) _ _ _ _ refl refl))

-- a value without its flag, by its parts
parts_flag : (p : Interval) (q : Congr) (unset : Bool) (v w : Value) → value_of p q false ≡ v → value_of v.range v.congr unset ≡ w → value_of p q unset ≡ w
parts_flag p q unset v w e f = ap (λ (v : Value). value_of v.range v.congr unset) e ∙ f

pub reduced_flag : (p r : Interval) (q c : Congr) (unset : Bool) → value_of p q false ≡ reduced_range r c false → value_of p q unset ≡ reduced_range r c unset
reduced_flag p Empty q c unset e = parts_flag p q unset _ _ e refl
reduced_flag p (Within lo hi) q c unset e = parts_flag p q unset _ _ e (within_flag lo hi c unset)
reduced_flag p All q c unset e = parts_flag p q unset _ _ e refl

-- what is left between two numbers: nothing, or an interval there; a single number of the congruence is there too
abbrev pub IsPart : ℤ → ℤ → Interval → Congr → Type 0
IsPart lo hi Empty c = c.modulus ≢ pos 0
IsPart lo hi (Within p q) c = (lo ≤ℤ p) × (p ≤ℤ q) × (q ≤ℤ hi) × ((c.modulus ≢ pos 0) ⊎ ((lo ≤ℤ c.rem) × (c.rem ≤ℤ hi)))
IsPart lo hi All c = ⊥

apart : (c : Congr) → congrs.is_only c ≡ false → c.modulus ≢ pos 0
apart c e same = eqb-false (congrs.period c) 0 e (ap unsigned_abs same)

one_apart : pos 1 ≢ pos 0
one_apart e = absurd (omega (arith, ints))

pub reduced_part : (lo hi : ℤ) (c : Congr) (unset : Bool) → IsPart lo hi (reduced lo hi c unset).range (reduced lo hi c unset).congr
unfolding reduced
reduced_part lo hi c unset = choose (λ (v : Value). IsPart lo hi v.range v.congr) (congrs.is_only c) _ _
    (λ e. choose (λ (v : Value). IsPart lo hi v.range v.congr) (intervals.contains_row (Within lo hi) c.rem) _ _
    (λ i. let t = and_parts (int_le lo c.rem) (int_le c.rem hi) i in let l = t.0 in let m = t.1 in
    (omega (arith, ints), omega (arith, ints), omega (arith, ints), inr (omega (arith, ints), omega (arith, ints))))
    (λ _. one_apart))
    (λ e. choose (λ (v : Value). IsPart lo hi v.range v.congr) (int_lt (lowered_to c hi) (raised_to c lo)) _ _
    (λ _. one_apart)
    (λ n. choose (λ (v : Value). IsPart lo hi v.range v.congr) (int_le (lowered_to c hi) (raised_to c lo)) _ _
    (λ m. (above, omega (arith, ints), omega (arith, ints, under), inr (above, omega (arith, ints, under))))
    (λ m. (above, omega (arith, ints), under, inl (apart c e)))))
  where
    above : lo ≤ℤ raised_to c lo
    above = omega (arith, ints)

    under : lowered_to c hi ≤ℤ hi
    under = omega (arith, ints)

-- a part of a part
wider : (a b lo hi : ℤ) (v : Value) → lo ≤ℤ a → b ≤ℤ hi → IsPart a b v.range v.congr → IsPart lo hi v.range v.congr
wider a b lo hi v h k p = by_range v.range v.congr p
  where
    by_range : (r : Interval) (c : Congr) → IsPart a b r c → IsPart lo hi r c
    by_range Empty c p = p
    by_range (Within s t) c (f, g, i, j) = (
      omega (arith, ints),
      g,
      omega (arith, ints),
      ⊎_elim inl (λ (m : (a ≤ℤ c.rem) × (c.rem ≤ℤ b)). let u = m.0 in let w = m.1 in inr (omega (arith, ints), omega (arith, ints))) j,
    )
    by_range All c p = p

pub meet_part : (v : Value) (lo hi : ℤ) → IsPart lo hi (meet_row v (Within lo hi)).range (meet_row v (Within lo hi)).congr
unfolding meet_row intervals.meet_row
meet_part v lo hi = by_range v.range v.congr v.unset
  where
    by_range : (r : Interval) (c : Congr) (u : Bool) → IsPart lo hi (reduced_range (intervals.meet_row r (Within lo hi)) c u).range (reduced_range (intervals.meet_row r (Within lo hi)) c u).congr
    by_range Empty c u = one_apart
    by_range (Within a b) c u = by_test (int_le (int_max a lo) (int_min b hi))
      where
        by_test : (t : Bool) → IsPart lo hi (reduced_range (cond t (Within (int_max a lo) (int_min b hi)) Empty) c u).range
            (reduced_range (cond t (Within (int_max a lo) (int_min b hi)) Empty) c u).congr
        by_test true = wider (int_max a lo) (int_min b hi) lo hi (reduced (int_max a lo) (int_min b hi) c u) (omega (arith, ints, clamps)) (omega (arith, ints, clamps))
            (reduced_part (int_max a lo) (int_min b hi) c u)
        by_test false = one_apart
    by_range All c u = reduced_part lo hi c u

shifts_by_part : (shape : Shape) (r : Interval) (c : Congr) → IsPart (pos 0) (pos shape.width -ℤ pos 1) r c → IsShift shape r × congrs.IsShift shape c
shifts_by_part shape Empty c p = (tt, inl p)
shifts_by_part shape (Within a b) c (f, g, i, j) = (
  (f, g, omega (arith, ints)),
  ⊎_elim inl (λ (m : (pos 0 ≤ℤ c.rem) × (c.rem ≤ℤ (pos shape.width -ℤ pos 1))). let u = m.0 in let w = m.1 in inr (u, omega (arith, ints))) j,
)
shifts_by_part shape All c p = absurd p

pub shift_parts : (shape : Shape) (b v : Value) → v ≡ shift_of shape b → IsShift shape v.range × congrs.IsShift shape v.congr
shift_parts shape b v e = rw e (shifts_by_part shape (shift_of shape b).range (shift_of shape b).congr (meet_part b (pos 0) (pos shape.width -ℤ pos 1)))
