use Rattle.std.proofs.Common.{refl}
use Rattle.c_typing.proofs.Roomy.{none_roomy}
use Rattle.c_typing.proofs.whole.begin.Goals as goal

pub returns-clause-roomy : goal.returns-clause-roomy
returns-clause-roomy c = none_roomy _ (rw c.new.ensures.empty refl)
