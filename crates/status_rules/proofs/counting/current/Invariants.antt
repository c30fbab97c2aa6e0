use Rattle.std.proofs.Common.{◌≡◌, ◌++◌, ◌+◌, map, drop}
use Rattle.std.specs.Prelude.{filter}
use Rattle.status_rules.specs.Counting.{is_current, current_of, entries_from}
use Rattle.status_rules.specs.inner.ByProp.{placed}
use Rattle.status_rules.proofs.counting.current.Given as goal

abbrev pub invariant-loop-index : goal.invariant-loop-index
invariant-loop-index l = record {
  rest : map placed l.entries.items ++ filter (is_current l.fn.history) (entries_from (l.index + 1) (drop l.index l.change-items)) ≡ current_of l.fn.history;
  items : l.change-items ≡ l.fn.history.changes;
}
