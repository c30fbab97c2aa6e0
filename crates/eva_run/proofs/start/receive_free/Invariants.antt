use Rattle.std.proofs.Common.{◌≡◌, ◌++◌, ◌+◌, ◌-◌, drop, map}
use Rattle.c_runs.specs.Programs.{free_cells}
use Rattle.eva_rules.specs.Writing.{receive_all}
use Rattle.eva_run.proofs.start.receive_free.Given as goal

abbrev pub invariant-loop-cell : goal.invariant-loop-cell
invariant-loop-cell l = receive_all l.program (free_cells l.cell (drop l.cell l.infos)) l.now
    ≡ receive_all l.program (free_cells 0 l.infos) l.fn.env
