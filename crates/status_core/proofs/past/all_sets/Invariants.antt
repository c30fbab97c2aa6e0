use Rattle.std.proofs.Common.{◌≡◌, drop, ◌++◌}
use Rattle.status_history.specs.Values.{sets_registered}
use Rattle.status_rules.specs.Counting.{sets_of}
use Rattle.status_core.proofs.past.all_sets.Given as goal

abbrev pub invariant-loop-change : goal.invariant-loop-change
invariant-loop-change l = l.sets.items ++ sets_registered (drop l.change-index l.fn.changes) ≡ sets_of l.fn.changes
