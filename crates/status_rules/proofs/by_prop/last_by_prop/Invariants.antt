use Rattle.std.proofs.Common.{◌≡◌, ◌≤◌, length, map, drop}
use Rattle.status_rules.specs.Counting.{last_of_each}
use Rattle.status_rules.specs.Holds.{by_prop}
use Rattle.status_rules.specs.inner.ByProp.{entries_in, placed}
use Rattle.status_rules.proofs.by_prop.last_by_prop.Given as goal

abbrev pub invariant-loop-left : goal.invariant-loop-left
invariant-loop-left l = record {
  within : l.left ≤ length l.entries;
  noted : entries_in l.lists ≡ by_prop (last_of_each (map placed (drop l.left l.entries))) l.rows;
}

abbrev pub decreases-loop-left : goal.decreases-loop-left
decreases-loop-left l = l.left
