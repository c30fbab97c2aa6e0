use Rattle.c_runs.proofs.Functions.{chained}
use Rattle.c_runs.proofs.laws.runs_are_chained.Goals as goal

-- src/laws.rt
pub returns : goal.returns
returns c = chained
