use Rattle.status_history.proofs.Kept.{kept_more}
use Rattle.status_history.proofs.event_laws.kept_grows.Goals as goal

pub returns : goal.returns
returns c = kept_more
