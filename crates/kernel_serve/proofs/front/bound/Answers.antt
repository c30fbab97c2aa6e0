use Rattle.std.proofs.Common.{Err, subst, sym}
use Rattle.kernel_serve.proofs.Fronted.{no_types}
use Rattle.kernel_serve.specs.declared.status.Status.{Status}
use Rattle.kernel_serve.specs.inner.Steps.{IsBoundAnswer}
use Rattle.kernel_serve.proofs.front.bound.Goals as goal

pub returns-in-Err : goal.returns-in-Err
returns-in-Err c =
    subst (λ (s : Status). IsBoundAnswer c.args.tree.now.items c.args.annots.now (Err s))
    (sym c.type_status.ensures)
    (no_types c.one_program.ensures c.args.tree.now.items c.args.annots.now c.in-Err.fault
    c.in-Err.ensures.answer)
