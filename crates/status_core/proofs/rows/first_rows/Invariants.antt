use Rattle.std.proofs.Common.{◌≡◌, ◌++◌, drop}
use Rattle.status_rules.specs.Holds.{at_each}
use Rattle.status_core.specs.inner.Rows.{first_row}
use Rattle.status_core.proofs.rows.first_rows.Given as goal

abbrev pub invariant-loop-place : goal.invariant-loop-place
invariant-loop-place l = l.rows ++ at_each (first_row l.fn.reading.history.now l.fn.reading.props.now) l.place (drop l.place l.fn.reading.props.now.rows) ≡ at_each (first_row l.fn.reading.history.now l.fn.reading.props.now) 0 l.fn.reading.props.now.rows
