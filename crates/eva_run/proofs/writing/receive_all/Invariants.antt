use Rattle.std.proofs.Common.{◌≡◌, ◌++◌, ◌+◌, ◌-◌, drop, map}
use Rattle.eva_rules.specs.Writing.{receive_all}
use Rattle.eva_run.proofs.writing.receive_all.Given as goal

abbrev pub invariant-loop-cell : goal.invariant-loop-cell
invariant-loop-cell l = receive_all l.program (drop l.cell-index l.cells) l.now ≡ receive_all l.program l.cells l.fn.env
