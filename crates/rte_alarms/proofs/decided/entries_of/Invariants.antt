use Rattle.std.proofs.Common.{◌≡◌, ◌++◌, drop}
use Rattle.rte_alarms.specs.inner.Decided.{decided_by}
use Rattle.rte_alarms.proofs.decided.entries_of.Given as goal

abbrev pub invariant-loop-prop : goal.invariant-loop-prop
invariant-loop-prop l =
    l.entries ++ decided_by l.version l.by_site (drop l.prop-index l.rows)
    ≡ decided_by l.version l.by_site l.rows
