use Rattle.grammar_forms.proofs.Unique.{one_text}
use Rattle.grammar_forms.proofs.laws.one_derivation.Goals as goal

pub returns : goal.returns
returns g c = λ h sound exact s d ts v u rest end x y. one_text h sound exact s d ts v u rest end x y
