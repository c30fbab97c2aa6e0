use Rattle.std.proofs.Common.{◌≡◌, ◌++◌, drop}
use Rattle.prop_table.specs.Points.{at_point}
use Rattle.prop_table.proofs.calls.note_all.Given as goal

abbrev pub invariant-loop-number : goal.invariant-loop-number
invariant-loop-number l = l.found ++ at_point l.point (drop l.number-index l.numbers) ≡ l.fn.found ++ at_point l.point l.numbers
