use Rattle.status_rows.proofs.Counted.{emission_counts}
use Rattle.status_rows.proofs.laws.emission_counts.Goals as goal

pub returns : goal.returns
returns c = emission_counts
