use Rattle.grammar_forms.proofs.Law.{read_rule-stops}
use Rattle.grammar_forms.proofs.laws.reading_stops.Goals as goal

pub returns : goal.returns
returns g c = λ h sound s d ts w n e. read_rule-stops h sound s d ts w n e
