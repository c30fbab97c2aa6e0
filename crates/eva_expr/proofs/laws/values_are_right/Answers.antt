use Rattle.eva_expr.proofs.Keeping.{truth_is_right, value_is_right}
use Rattle.eva_expr.proofs.laws.values_are_right.Goals as goal

pub returns-clause-value : goal.returns-clause-value
returns-clause-value c = value_is_right

pub returns-clause-truth : goal.returns-clause-truth
returns-clause-truth c = truth_is_right
