use Rattle.c_runs.proofs.Functions.{chained}
use Rattle.prop_runs.proofs.Keeping.{keeps_laws}
use Rattle.prop_runs.proofs.laws.runs_keep_laws.Goals as goal

pub returns : goal.returns
returns c = keeps_laws chained
