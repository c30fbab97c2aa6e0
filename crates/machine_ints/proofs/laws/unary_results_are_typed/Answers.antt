use Rattle.machine_ints.proofs.Results.{unary_is_typed, complement_value}
use Rattle.machine_ints.proofs.laws.unary_results_are_typed.Goals as goal

pub returns-clause-value : goal.returns-clause-value
returns-clause-value c = unary_is_typed

pub returns-clause-complement : goal.returns-clause-complement
returns-clause-complement c = complement_value
