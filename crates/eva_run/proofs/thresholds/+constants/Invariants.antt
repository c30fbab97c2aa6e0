use Rattle.std.proofs.Common.{◌≡◌, ◌++◌, ◌+◌, ◌-◌, drop, map}
use Rattle.eva_rules.specs.Thresholds.{all_of, constants_of}
use Rattle.eva_run.proofs.thresholds.+constants.Given as goal

abbrev pub invariant-add_exprs-loop-e : goal.invariant-add_exprs-loop-e
invariant-add_exprs-loop-e l =
    l.found ++ all_of (map constants_of (drop l.e-index l.all)) ≡ l.fn.found ++ all_of (map constants_of l.all)
