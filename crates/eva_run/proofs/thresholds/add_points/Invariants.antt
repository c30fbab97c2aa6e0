use Rattle.std.proofs.Common.{◌≡◌, ◌++◌, ◌+◌, ◌-◌, drop, map}
use Rattle.eva_rules.specs.Thresholds.{constants_at}
use Rattle.eva_run.proofs.thresholds.add_points.Given as goal

abbrev pub invariant-loop-point : goal.invariant-loop-point
invariant-loop-point l = l.found ++ constants_at l.program l.point (l.end - l.point)
    ≡ l.fn.found ++ constants_at l.fn.program l.fn.from (l.fn.end - l.fn.from)
