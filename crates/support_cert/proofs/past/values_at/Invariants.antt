use Rattle.std.proofs.Common.{◌≡◌, drop, take}
use Rattle.status_history.specs.Values.{changed_by, params_set}
use Rattle.support_cert.proofs.past.values_at.Given as goal

abbrev pub invariant-loop-change : goal.invariant-loop-change
invariant-loop-change l = record {
  rest : changed_by l.settings.values (take l.settings.left (params_set (drop l.change-index l.change-items))) ≡ changed_by l.fn.history.opening (take l.version (params_set l.change-items));
  items : l.change-items ≡ l.fn.history.changes;
}
