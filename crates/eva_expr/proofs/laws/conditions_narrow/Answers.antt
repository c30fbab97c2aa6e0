use Rattle.eva_expr.proofs.Keeping.{conditions_keep, predicates_keep}
use Rattle.eva_expr.proofs.laws.conditions_narrow.Goals as goal

pub returns-clause-expressions : goal.returns-clause-expressions
returns-clause-expressions c = conditions_keep

pub returns-clause-predicates : goal.returns-clause-predicates
returns-clause-predicates c = predicates_keep
