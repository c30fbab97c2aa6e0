use Rattle.int_congr.proofs.Cover.{convert_holds}
use Rattle.int_congr.proofs.laws.conversion_covers.Goals as goal

pub returns : goal.returns
returns c = convert_holds
