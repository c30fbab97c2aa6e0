use Rattle.std.proofs.Common.{◌≡◌, ◌++◌, drop}
use Rattle.status_rules.specs.Holds.{at_each}
use Rattle.status_rules.specs.Verdicts.{verdict_of}
use Rattle.status_rules.specs.inner.Consolidated.{basis}
use Rattle.status_rules.proofs.consolidation.full.Given as goal

abbrev pub invariant-loop-place : goal.invariant-loop-place
invariant-loop-place l =
    let b = basis l.consolidation.props.now l.consolidation.values.now l.consolidation.entries.now in
    l.verdicts ++ at_each (verdict_of b) l.place (drop l.place l.fn.props.rows) ≡ at_each (verdict_of b) 0 l.fn.props.rows
