-- Where the ends of an index lie that is met with an array's range.
use Rattle.std.proofs.Common.{◌≡◌, ◌<◌, ◌≤◌, ◌+◌, ◌^◌, ℕ, ℤ, pos, negsuc, ◌-ℤ◌, ◌≤ℤ◌, ◌<ℤ◌, Fits, w64, to_z, of_z, subst, sym, arith}
use Rattle.std.specs.Int.{w128}
use Rattle.std.proofs.lemmas.Int.{ints, to_z-of_z}
use lib.Dec.{T}
use lib.IntN.{nat_abs}
use lib.Signed.{non_neg}
use Rattle.int_interval.specs.declared.interval.Interval.{Interval}
use Rattle.int_interval.specs.declared.interval.Interval.TheVariants.{Within}
use Rattle.int_value.specs.declared.value.Value.{Value}
use Rattle.int_value.proofs.Reduction.{IsPart, meet_part}
use Rattle.abs_cells.specs.Cells.{index_met}

pub record Ends (n : ℕ) (lo hi : ℤ) : Type 0 where
  pub low : pos 0 ≤ℤ lo
  pub order : lo ≤ℤ hi
  pub high : hi <ℤ pos n

pub index_ends : (n : ℕ) (index v : Value) (lo hi : ℤ) → v ≡ index_met n index → v.range ≡ Within lo hi → Ends n lo hi
index_ends n index v lo hi same e =
    let part = subst (λ (r : Interval). IsPart (pos 0) (pos n -ℤ pos 1) r v.congr) e
    (subst (λ (w : Value). IsPart (pos 0) (pos n -ℤ pos 1) w.range w.congr) (sym same) (meet_part index (pos 0) (pos n -ℤ pos 1))) in
    record { low = part.0; order = part.1; high = under part.2 }
  where
    under : hi ≤ℤ (pos n -ℤ pos 1) → hi <ℤ pos n
    under h = omega (arith, ints)

-- an end as a number of 128 bits, and as one of 64
pub record Cast (z : ℤ) : Type 0 where
  pub same : to_z w128 (of_z w128 z) ≡ z
  pub fits : T (non_neg z) × Fits w64 (nat_abs z)
  pub bound : nat_abs z < 2 ^ 32

pub cast_of : (z : ℤ) → pos 0 ≤ℤ z → z <ℤ pos (2 ^ 32) → Cast z
cast_of (pos n) l h = record {
  same = to_z-of_z w128 (pos n) (omega (arith, ints));
  fits = (tt, omega (arith, ints));
  bound = omega (arith, ints);
}
cast_of (negsuc n) l h = absurd (omega (arith, ints))
