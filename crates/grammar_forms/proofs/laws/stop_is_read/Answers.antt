use Rattle.grammar_forms.proofs.Unique.{stop_read}
use Rattle.grammar_forms.proofs.laws.stop_is_read.Goals as goal

pub returns : goal.returns
returns g c = λ h sound exact s d ts w n e. stop_read h sound exact s d ts w n e
