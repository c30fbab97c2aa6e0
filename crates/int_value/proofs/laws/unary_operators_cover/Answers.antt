use Rattle.int_value.proofs.Checked.{neg_covers, invert_covers}
use Rattle.int_value.proofs.laws.unary_operators_cover.Goals as goal

pub returns-clause-neg : goal.returns-clause-neg
returns-clause-neg c = neg_covers

pub returns-clause-invert : goal.returns-clause-invert
returns-clause-invert c = invert_covers
