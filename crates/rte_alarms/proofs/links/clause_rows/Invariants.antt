use Rattle.std.proofs.Common.{◌≡◌, ◌++◌, drop}
use Rattle.rte_alarms.specs.inner.Links.{clause_rows}
use Rattle.rte_alarms.proofs.links.clause_rows.Given as goal

abbrev pub invariant-loop-prop : goal.invariant-loop-prop
invariant-loop-prop l = l.found ++ clause_rows (drop l.prop-index l.rows) ≡ clause_rows l.rows
