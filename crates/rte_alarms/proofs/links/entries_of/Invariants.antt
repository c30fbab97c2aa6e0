use Rattle.std.proofs.Common.{◌≡◌, ◌++◌, drop}
use Rattle.rte_alarms.specs.inner.Links.{entries_by}
use Rattle.rte_alarms.proofs.links.entries_of.Given as goal

abbrev pub invariant-loop-prop : goal.invariant-loop-prop
invariant-loop-prop l =
    l.entries ++ entries_by l.version l.instances (drop l.prop-index l.rows)
    ≡ entries_by l.version l.instances l.rows
