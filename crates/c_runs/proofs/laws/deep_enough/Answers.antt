use Rattle.c_runs.proofs.Deep.{deep}
use Rattle.c_runs.proofs.laws.deep_enough.Goals as goal

pub returns : goal.returns
returns c = deep
