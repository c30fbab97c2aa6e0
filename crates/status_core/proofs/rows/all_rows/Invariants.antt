use Rattle.std.proofs.Common.{◌≡◌, ◌++◌, drop}
use Rattle.event_board.specs.declared.page.PlacedVerdict.{PlacedVerdict}
use Rattle.status_rules.specs.Holds.{at_each}
use Rattle.status_core.specs.inner.Rows.{row_anew}
use Rattle.status_core.proofs.rows.all_rows.Given as goal

abbrev pub invariant-loop-place : goal.invariant-loop-place
invariant-loop-place l = (none : PlacedVerdict) → l.rows ++ at_each (row_anew l.fn.reading.history.now l.fn.reading.props.now l.fn.number l.fn.old none) l.place (drop l.place l.fn.reading.props.now.rows) ≡ at_each (row_anew l.fn.reading.history.now l.fn.reading.props.now l.fn.number l.fn.old none) 0 l.fn.reading.props.now.rows
