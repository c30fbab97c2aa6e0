use Rattle.std.proofs.Common.{◌≡◌, ◌++◌, drop}
use Rattle.c_types.specs.Programs.{below}
use Rattle.c_types.proofs.cycles.below.Given as goal

abbrev pub invariant-loop-function : goal.invariant-loop-function
invariant-loop-function l = l.found ++ below l.count (drop l.function-index l.all) ≡ below l.count l.all
