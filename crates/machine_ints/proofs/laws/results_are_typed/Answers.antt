use Rattle.machine_ints.proofs.Results.{exact_is_value, value_is_typed, typed_are_operands}
use Rattle.machine_ints.proofs.laws.results_are_typed.Goals as goal

pub returns-clause-exact : goal.returns-clause-exact
returns-clause-exact c = exact_is_value

pub returns-clause-value : goal.returns-clause-value
returns-clause-value c = value_is_typed

pub returns-clause-operands : goal.returns-clause-operands
returns-clause-operands c = typed_are_operands
