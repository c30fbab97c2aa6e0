-- How many properties there are.
use Rattle.std.proofs.Common.{◌≡◌, ◌∙◌, ◌+◌, ◌-◌, ◌<◌, ◌≤◌, ◌^◌, [], ◌∷◌, ℕ, zero, suc, List, refl, ap, length, arith}
use Rattle.std.specs.Prelude.{Some, None, Option, slice_get}
use Rattle.c_ir.specs.Programs.{Program}
use Rattle.c_ir.specs.declared.tree.Fun.{Fun}
use Rattle.prop_table.specs.Points.{numbers_at, noted_sites, noted_calls, sites_at, calls_at, requires_if, requires_at}
use Rattle.by_key.specs.declared.lists.Keyed.{Keyed}
use Rattle.prop_table.specs.declared.index.Index.{Index}
use Rattle.prop_table.specs.inner.Counts.{capped, point_count, points_count, fn_count, requires_counts}
use Rattle.prop_table.specs.inner.Index.{IsIndex}
use Rattle.by_key.specs.Keys.{Groups}

-- ---- the index

pub is_index : (p : Program) (i : Index) (n : ℕ) (ss cs : List Keyed) → n ≡ length p.points → ss ≡ noted_sites 0 p.sites → cs ≡ noted_calls p.fns → Groups i.sites n ss → Groups i.calls n cs → i.preconditions ≡ requires_counts p p.fns → IsIndex p i
unfolding sites_at calls_at
is_index p i n ss cs e a b s c r = record {
  sites = λ q h. s.at q (rw e h) ∙ ap (numbers_at q) a;
  calls = λ q h. c.at q (rw e h) ∙ ap (numbers_at q) b;
  preconditions = r;
}

abbrev pub or_zero : Option ℕ → ℕ
or_zero None = 0
or_zero (Some n) = n

counts_get : (p : Program) (fs : List Fun) (g : ℕ) → or_zero (slice_get (requires_counts p fs) g) ≡ length (requires_if p (slice_get fs g))
counts_get p [] g = refl
counts_get p (f ∷ fs) zero = refl
counts_get p (f ∷ fs) (suc g) = counts_get p fs g

pub requires_found : (p : Program) (i : Index) (g : ℕ) → IsIndex p i → or_zero (slice_get i.preconditions g) ≡ length (requires_at p g)
unfolding requires_at
requires_found p i g h = rw h.preconditions (counts_get p p.fns g)

-- ---- counts

pub points_next : (p : Program) (q end : ℕ) → q < end → points_count p q (end - q) ≡ point_count p q + points_count p (q + 1) (end - (q + 1))
points_next p q end h = let e : end - q ≡ suc (end - (q + 1)) = omega (arith, h) in rw e refl

pub points_end : (p : Program) (q end : ℕ) → end ≤ q → points_count p q (end - q) ≡ 0
points_end p q end h = let e : end - q ≡ 0 = omega (arith, h) in rw e refl

pub count_step : (p : Program) (total q end : ℕ) → q < end → capped (capped (total + point_count p q) + points_count p (q + 1) (end - (q + 1))) ≡ capped (total + points_count p q (end - q))
count_step p total q end h = rw (points_next p q end h) (omega arith)

pub count_all : (p : Program) (f : Fun) (total start q end : ℕ) → end ≤ q → total < 2 ^ 64 → capped (total + points_count p q (end - q)) ≡ capped (start + points_count p f.entry.0 (f.exit.0 + 1 - f.entry.0)) → total ≡ capped (start + fn_count p f)
unfolding fn_count
count_all p f total start q end h fits s = omega (arith, fits, s, points_end p q end h)
