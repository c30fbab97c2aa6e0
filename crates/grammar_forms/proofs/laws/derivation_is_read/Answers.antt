use Rattle.grammar_forms.proofs.Unique.{text_read}
use Rattle.grammar_forms.proofs.laws.derivation_is_read.Goals as goal

pub returns : goal.returns
returns g c = λ h sound exact s d ts v rest e. text_read h sound exact s d ts v rest e
