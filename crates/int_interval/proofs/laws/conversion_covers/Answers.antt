use Rattle.int_interval.proofs.Cover.{convert_holds}
use Rattle.int_interval.proofs.laws.conversion_covers.Goals as goal

pub returns : goal.returns
returns c = convert_holds
