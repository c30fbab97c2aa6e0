use Rattle.c_runs.proofs.Fewer.{fewer}
use Rattle.c_runs.proofs.laws.fewer_are_prefix.Goals as goal

pub returns : goal.returns
returns c = fewer
