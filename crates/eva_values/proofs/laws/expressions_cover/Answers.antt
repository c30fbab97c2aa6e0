use Rattle.eva_values.proofs.Sound as sound
use Rattle.eva_values.proofs.laws.expressions_cover.Goals as goal

pub returns : goal.returns
returns c = sound.expressions_cover
