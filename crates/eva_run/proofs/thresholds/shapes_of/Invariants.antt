use Rattle.std.proofs.Common.{◌≡◌, ◌++◌, ◌+◌, ◌-◌, drop, map}
use Rattle.eva_rules.specs.Writing.{shape_in}
use Rattle.eva_run.proofs.thresholds.shapes_of.Given as goal

abbrev pub invariant-loop-info : goal.invariant-loop-info
invariant-loop-info l = l.shapes ++ map shape_in (drop l.info-index l.infos) ≡ map shape_in l.infos
