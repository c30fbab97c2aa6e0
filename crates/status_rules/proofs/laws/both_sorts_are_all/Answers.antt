use Rattle.status_rules.proofs.Right.{both_sorts_are_all}
use Rattle.status_rules.proofs.laws.both_sorts_are_all.Goals as goal

pub returns : goal.returns
returns c = both_sorts_are_all
