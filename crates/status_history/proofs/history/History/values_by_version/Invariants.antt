use Rattle.std.proofs.Common.{◌≡◌, ◌++◌, drop}
use Rattle.status_history.specs.Values.{all_values, params_set}
use Rattle.status_history.proofs.history.History.values_by_version.Given as goal

abbrev pub invariant-loop-change : goal.invariant-loop-change
invariant-loop-change l = record {
  rest : l.versions.items ++ all_values l.values (params_set (drop l.change-index l.change-items)) ≡ all_values l.fn.self.opening (params_set l.change-items);
  items : l.change-items ≡ l.fn.self.changes;
}
