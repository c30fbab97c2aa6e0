use Rattle.int_value.proofs.Cover.{relations_right, within_covers}
use Rattle.int_value.proofs.laws.relations_are_true.Goals as goal

pub returns-clause-relations : goal.returns-clause-relations
returns-clause-relations c = relations_right

pub returns-clause-within : goal.returns-clause-within
returns-clause-within c = within_covers
