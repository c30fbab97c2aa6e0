use Rattle.call_cycles.proofs.Pigeonhole.{chains_end}
use Rattle.call_cycles.proofs.laws.chains_end.Goals as goal

pub returns : goal.returns
returns c = chains_end
