use Rattle.prop_runs.proofs.Fewer.{fewer_pass}
use Rattle.prop_runs.proofs.laws.fewer_are_prefix.Goals as goal

pub returns : goal.returns
returns c = fewer_pass
