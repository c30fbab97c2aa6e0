-- What an index of a program's operators and calls keeps.
use Rattle.std.specs.Prelude.{◌≡◌, ◌<◌, ℕ, [], get_or, length}
use Rattle.c_ir.specs.Programs.{Program}
use Rattle.prop_table.specs.Points.{sites_at, calls_at}
use Rattle.prop_table.specs.inner.Counts.{requires_counts}
use Rattle.prop_table.specs.declared.index.Index.{Index}

pub record IsIndex (p : Program) (i : Index) : Type 0 where
  pub sites : (q : ℕ) → q < length p.points → get_or i.sites q [] ≡ sites_at p q
  pub calls : (q : ℕ) → q < length p.points → get_or i.calls q [] ≡ calls_at p q
  pub preconditions : i.preconditions ≡ requires_counts p p.fns
