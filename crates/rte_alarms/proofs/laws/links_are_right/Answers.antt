use Rattle.c_runs.proofs.Functions.{chained}
use Rattle.rte_alarms.proofs.Linked.{links_right}
use Rattle.rte_alarms.proofs.laws.links_are_right.Goals as goal

pub returns : goal.returns
returns c = links_right chained
