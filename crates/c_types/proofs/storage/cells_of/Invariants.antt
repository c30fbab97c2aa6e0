use Rattle.std.proofs.Common.{◌≡◌, ◌++◌, drop}
use Rattle.c_types.specs.Programs.{cells_of}
use Rattle.c_types.proofs.storage.cells_of.Given as goal

abbrev pub invariant-loop-object : goal.invariant-loop-object
invariant-loop-object l = l.cells ++ cells_of (drop l.object-index l.objects) ≡ cells_of l.objects
