use Rattle.std.proofs.Common.{◌≡◌, ◌++◌, ◌+◌, ◌-◌, drop, map}
use Rattle.eva_rules.specs.Writing.{may_be_unset}
use Rattle.eva_run.proofs.thresholds.flags_of.Given as goal

abbrev pub invariant-loop-info : goal.invariant-loop-info
invariant-loop-info l = l.flags ++ map may_be_unset (drop l.info-index l.infos) ≡ map may_be_unset l.infos
