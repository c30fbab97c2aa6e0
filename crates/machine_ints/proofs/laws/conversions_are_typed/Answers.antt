use Rattle.machine_ints.proofs.Results.{wrap_is_typed}
use Rattle.machine_ints.proofs.laws.conversions_are_typed.Goals as goal

pub returns-clause-wrap : goal.returns-clause-wrap
returns-clause-wrap c = wrap_is_typed
