use Rattle.status_rules.proofs.Last.{changed_last}
use Rattle.status_rules.proofs.laws.changed_is_last.Goals as goal

pub returns : goal.returns
returns c = changed_last
