use Rattle.std.proofs.Common.{◌≡◌, ◌++◌, map, drop}
use Rattle.std.specs.List.{list_any}
use Rattle.status_rules.specs.Holds.{supports}
use Rattle.status_rules.specs.inner.ByProp.{all_entries}
use Rattle.status_rules.specs.inner.Flags.{flag}
use Rattle.status_rules.proofs.flags.claimed.Given as goal

abbrev pub invariant-loop-list : goal.invariant-loop-list
invariant-loop-list l = record {
  done : l.flags.items ++ map (list_any (supports l.status (flag l.known))) (all_entries (drop l.list-index l.list-items)) ≡ map (list_any (supports l.status (flag l.known))) (all_entries l.list-items);
  items : l.list-items ≡ l.lists.items;
}
