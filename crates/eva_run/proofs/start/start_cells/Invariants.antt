use Rattle.std.proofs.Common.{◌≡◌, ◌++◌, ◌+◌, ◌-◌, drop, map}
use Rattle.eva_rules.specs.Writing.{start_of}
use Rattle.eva_run.proofs.start.start_cells.Given as goal

abbrev pub invariant-loop-info : goal.invariant-loop-info
invariant-loop-info l = l.values ++ map start_of (drop l.info-index l.infos) ≡ map start_of l.infos
