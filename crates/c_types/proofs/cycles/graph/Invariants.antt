use Rattle.std.proofs.Common.{◌≡◌, ◌++◌, length, drop}
use Rattle.c_types.specs.Programs.{graph_to}
use Rattle.c_types.proofs.cycles.graph.Given as goal

abbrev pub invariant-loop-f : goal.invariant-loop-f
invariant-loop-f l = l.calls ++ graph_to (length l.all) (drop l.f-index l.all) ≡ graph_to (length l.all) l.all
