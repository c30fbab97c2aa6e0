use Rattle.status_rows.proofs.Unreached.{unreached}
use Rattle.status_rows.proofs.laws.unreached_keep.Goals as goal

pub returns : goal.returns
returns c = unreached
