use Rattle.std.proofs.Common.{◌≡◌, ◌++◌, ◌+◌, ◌-◌, drop, map}
use Rattle.eva_rules.specs.Thresholds.{all_near}
use Rattle.eva_run.proofs.thresholds.add_all_near.Given as goal

abbrev pub invariant-loop-constant : goal.invariant-loop-constant
invariant-loop-constant l = l.found ++ all_near (drop l.constant-index l.constants) ≡ l.fn.found ++ all_near l.constants
