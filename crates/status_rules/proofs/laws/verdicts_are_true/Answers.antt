use Rattle.status_rules.proofs.Sound.{verdicts_true}
use Rattle.status_rules.proofs.laws.verdicts_are_true.Goals as goal

pub returns : goal.returns
returns c = verdicts_true
