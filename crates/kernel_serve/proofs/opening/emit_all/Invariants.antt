use Rattle.std.proofs.Common.{◌≡◌, ◌++◌, drop, map}
use Rattle.status_history.specs.declared.history.Change.TheVariants.{Emit}
use Rattle.kernel_serve.proofs.opening.emit_all.Given as goal

abbrev pub invariant-loop-entry : goal.invariant-loop-entry
invariant-loop-entry l =
    l.changes ++ map Emit (drop l.entry-index l.entries) ≡ l.fn.changes ++ map Emit l.entries
