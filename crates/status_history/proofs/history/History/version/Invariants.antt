use Rattle.std.proofs.Common.{◌≡◌, ◌≤◌, ◌+◌, drop, length}
use Rattle.status_history.specs.Values.{params_set}
use Rattle.status_history.proofs.history.History.version.Given as goal

abbrev pub invariant-loop-change : goal.invariant-loop-change
invariant-loop-change l = record {
  few : l.count ≤ l.change-index;
  rest : l.count + length (params_set (drop l.change-index l.change-items)) ≡ length (params_set l.change-items);
  items : l.change-items ≡ l.fn.self.changes;
}
