use Rattle.std.proofs.Common.{◌≡◌, ◌++◌, drop}
use Rattle.prop_table.specs.Points.{noted_calls}
use Rattle.prop_table.proofs.calls.calls_in.Given as goal

abbrev pub invariant-loop-f : goal.invariant-loop-f
invariant-loop-f l = l.found ++ noted_calls (drop l.f-index l.fns) ≡ noted_calls l.fns
