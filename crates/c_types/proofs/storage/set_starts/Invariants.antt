use Rattle.std.proofs.Common.{◌≡◌, drop}
use Rattle.c_types.specs.Programs.{with_starts}
use Rattle.c_types.proofs.storage.set_starts.Given as goal

abbrev pub invariant-loop-start : goal.invariant-loop-start
invariant-loop-start l = with_starts (drop l.start-index l.starts) l.cells ≡ with_starts l.starts l.fn.cells
