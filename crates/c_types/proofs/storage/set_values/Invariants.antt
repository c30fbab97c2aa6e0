use Rattle.std.proofs.Common.{◌≡◌, drop}
use Rattle.c_types.specs.Programs.{with_values}
use Rattle.c_types.proofs.storage.set_values.Given as goal

abbrev pub invariant-loop-value : goal.invariant-loop-value
invariant-loop-value l = with_values l.at (drop l.value-index l.values) l.cells ≡ with_values l.first l.values l.fn.cells
