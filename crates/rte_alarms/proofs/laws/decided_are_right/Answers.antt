use Rattle.c_runs.proofs.Functions.{chained}
use Rattle.rte_alarms.proofs.AlarmsRight.{decided_right}
use Rattle.rte_alarms.proofs.laws.decided_are_right.Goals as goal

pub returns : goal.returns
returns c = decided_right chained
