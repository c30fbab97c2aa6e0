use Rattle.acsl_bind.proofs.Nexts.{begins}
use Rattle.acsl_bind.proofs.stmt.heads_loop.Goals as goal

pub returns-in-Some : goal.returns-in-Some
returns-in-Some c = begins c.in-Some.s.now c.in-Some.field-0-1.now c.args.all.now c.is_loop.result c.in-Some.ensures.cases.0 (λ sc. c.is_loop.ensures sc)
