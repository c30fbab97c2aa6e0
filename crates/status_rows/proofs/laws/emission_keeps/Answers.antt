use Rattle.status_rows.proofs.Counted.{emission_keeps}
use Rattle.status_rows.proofs.laws.emission_keeps.Goals as goal

pub returns : goal.returns
returns c = emission_keeps
