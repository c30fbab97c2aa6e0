use Rattle.std.proofs.Common.{List, subst, sym}
use Rattle.status_history.specs.declared.history.Change.{Change}
use Rattle.kernel_serve.specs.inner.Keeping.{IsFirst}
use Rattle.kernel_serve.proofs.External.{opening_is_first}
use Rattle.kernel_serve.proofs.batch.history_of.Goals as goal

pub history_in-requires-clause-first : goal.history_in-requires-clause-first
history_in-requires-clause-first g c =
    subst (λ (cs : List Change). IsFirst (record { opening = c.opening-opening.result; changes = cs }))
    (sym c.in-Ok-opening_changes.ensures)
    (opening_is_first c.args.entered.now.program _ c.opening-opening.result)
