use Rattle.c_rules.proofs.Formed.{same_form_ty}
use Rattle.c_rules.proofs.operator.converted.Goals as goal

pub returns-then-is-clause-typed : goal.returns-then-is-clause-typed
returns-then-is-clause-typed c = λ l. same_form_ty l c.args.ty c.args.expr c.is.result c.is.ensures c.if-is.true
