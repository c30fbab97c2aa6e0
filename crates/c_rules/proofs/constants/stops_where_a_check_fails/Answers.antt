use Rattle.c_rules.proofs.Evaluations.{binary_stops, unary_stops}
use Rattle.c_rules.proofs.constants.stops_where_a_check_fails.Goals as goal

pub returns-clause-binary : goal.returns-clause-binary
returns-clause-binary c = binary_stops

pub returns-clause-unary : goal.returns-clause-unary
returns-clause-unary c = unary_stops
