use Rattle.std.proofs.Common.{◌≡◌, ◌++◌, drop}
use Rattle.prop_table.specs.inner.Counts.{requires_counts}
use Rattle.prop_table.proofs.preconditions.counts.Given as goal

abbrev pub invariant-loop-f : goal.invariant-loop-f
invariant-loop-f l = l.counts ++ requires_counts l.program (drop l.f-index l.program.fns) ≡ requires_counts l.program l.program.fns
