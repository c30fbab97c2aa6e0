use Rattle.std.proofs.Common.{◌≡◌, drop}
use Rattle.status_history.specs.Values.{changed_by, params_set}
use Rattle.status_history.proofs.history.History.values.Given as goal

abbrev pub invariant-loop-change : goal.invariant-loop-change
invariant-loop-change l = record {
  rest : changed_by l.values (params_set (drop l.change-index l.change-items)) ≡ changed_by l.fn.self.opening (params_set l.change-items);
  items : l.change-items ≡ l.fn.self.changes;
}
