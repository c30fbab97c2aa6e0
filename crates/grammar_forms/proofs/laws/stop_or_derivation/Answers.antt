use Rattle.grammar_forms.proofs.Unique.{never_both}
use Rattle.grammar_forms.proofs.laws.stop_or_derivation.Goals as goal

pub returns : goal.returns
returns g c = λ h sound exact s d ts v rest w n x y. never_both h sound exact s d ts v rest w n x y
