use Rattle.rte_alarms.proofs.Pointed.{sites_step}
use Rattle.rte_alarms.proofs.operators.listed.Goals as goal

pub loop-point-preserved : goal.loop-point-preserved
loop-point-preserved c =
    sites_step c.args.by_point.now c.loop-point.point c.args.points _ _ _ _ c.loop-point-test.true
    c.at.ensures c.in_ok-add_all.ensures c.loop-point.invariant
