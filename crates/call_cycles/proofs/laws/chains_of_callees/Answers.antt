use Rattle.call_cycles.proofs.Chains.{end_with_more}
use Rattle.call_cycles.proofs.laws.chains_of_callees.Goals as goal

pub returns-clause-more : goal.returns-clause-more
returns-clause-more c = end_with_more
