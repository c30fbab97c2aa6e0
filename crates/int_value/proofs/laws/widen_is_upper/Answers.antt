use Rattle.int_value.proofs.Widened.{widen_upper}
use Rattle.int_value.proofs.laws.widen_is_upper.Goals as goal

pub returns : goal.returns
returns c = widen_upper
