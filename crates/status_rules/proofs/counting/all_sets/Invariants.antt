use Rattle.std.proofs.Common.{◌≡◌, ◌++◌, drop}
use Rattle.status_history.specs.Values.{sets_registered}
use Rattle.status_rules.specs.Counting.{sets_of}
use Rattle.status_rules.proofs.counting.all_sets.Given as goal

abbrev pub invariant-loop-change : goal.invariant-loop-change
invariant-loop-change l = record {
  rest : l.sets.items ++ sets_registered (drop l.change-index l.change-items) ≡ sets_of l.change-items;
  items : l.change-items ≡ l.fn.history.changes;
}
