use Rattle.std.proofs.Common.{◌≡◌, ◌++◌, ◌-◌}
use Rattle.rte_alarms.specs.inner.Sites.{sites_by}
use Rattle.rte_alarms.proofs.operators.listed.Given as goal

abbrev pub invariant-loop-point : goal.invariant-loop-point
invariant-loop-point l = l.all ++ sites_by l.by_point l.point (l.points - l.point)
    ≡ sites_by l.by_point 0 l.points
