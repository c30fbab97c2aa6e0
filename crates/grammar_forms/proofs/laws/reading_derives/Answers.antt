use Rattle.grammar_forms.proofs.Law.{read_rule-derives}
use Rattle.grammar_forms.proofs.laws.reading_derives.Goals as goal

pub returns : goal.returns
returns g c = λ h sound s d ts v rest e. read_rule-derives h sound s d ts v rest e
