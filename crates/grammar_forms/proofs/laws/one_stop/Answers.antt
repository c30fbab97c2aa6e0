use Rattle.grammar_forms.proofs.Unique.{one_stop}
use Rattle.grammar_forms.proofs.laws.one_stop.Goals as goal

pub returns : goal.returns
returns g c = λ h sound exact s d ts w u n m x y. one_stop h sound exact s d ts w u n m x y
