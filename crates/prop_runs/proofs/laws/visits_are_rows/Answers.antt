use Rattle.c_runs.proofs.Functions.{chained}
use Rattle.prop_runs.proofs.Rows.{are_rows}
use Rattle.prop_runs.proofs.laws.visits_are_rows.Goals as goal

pub returns : goal.returns
returns c = are_rows chained
