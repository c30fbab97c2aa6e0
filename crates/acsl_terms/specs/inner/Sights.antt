-- Where a formula stands: the code's side.
use Rattle.acsl_terms.specs.declared.sight.Sight.{Sight}
use Rattle.acsl_terms.specs.Meaning.{Context, context}

abbrev pub context_of : Sight → Context
context_of s = context s.names.now s.view.now s.bound.now
