use Rattle.status_rules.proofs.Right.{counted_are_right}
use Rattle.status_rules.proofs.laws.counted_are_right.Goals as goal

pub returns : goal.returns
returns c = counted_are_right
