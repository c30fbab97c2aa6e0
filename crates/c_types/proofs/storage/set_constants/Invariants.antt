use Rattle.std.proofs.Common.{◌≡◌, drop}
use Rattle.c_types.specs.Programs.{with_constants}
use Rattle.c_types.proofs.storage.set_constants.Given as goal

abbrev pub invariant-loop-cell : goal.invariant-loop-cell
invariant-loop-cell l = with_constants (drop l.cell-index l.constants) l.cells ≡ with_constants l.constants l.fn.cells
