use Rattle.std.proofs.Common.{◌≡◌, drop, ◌++◌}
use Rattle.status_rules.specs.Judge.{names_registered}
use Rattle.status_core.proofs.past.all_names.Given as goal

abbrev pub invariant-loop-change : goal.invariant-loop-change
invariant-loop-change l = l.taken ++ names_registered (drop l.change-index l.fn.changes) ≡ names_registered l.fn.changes
