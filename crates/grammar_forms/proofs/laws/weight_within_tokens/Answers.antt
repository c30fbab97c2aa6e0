use Rattle.grammar_forms.proofs.Light.{text_weighs}
use Rattle.grammar_forms.proofs.laws.weight_within_tokens.Goals as goal

pub returns : goal.returns
returns g c = λ h w light s d ts a rest x. text_weighs h w light s d ts a rest x
