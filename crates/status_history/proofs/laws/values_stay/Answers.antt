use Rattle.status_history.proofs.Stay.{values_stay}
use Rattle.status_history.proofs.laws.values_stay.Goals as goal

pub returns : goal.returns
returns c = values_stay
