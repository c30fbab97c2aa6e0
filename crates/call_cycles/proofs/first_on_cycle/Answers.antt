use Rattle.call_cycles.proofs.Pigeonhole.{ends_if_first}
use Rattle.call_cycles.proofs.first_on_cycle.Goals as goal

pub returns-clause-ends : goal.returns-clause-ends
returns-clause-ends c = ends_if_first c.args.calls.now c.requires.range c.visit_all.result c.visit_all.ensures
