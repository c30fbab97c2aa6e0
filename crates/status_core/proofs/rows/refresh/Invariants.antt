use Rattle.std.proofs.Common.{◌≡◌, drop, length}
use Rattle.event_board.specs.declared.page.PlacedVerdict.{PlacedVerdict}
use Rattle.status_core.specs.inner.Rows.{refreshed, row_after}
use Rattle.status_core.proofs.rows.refresh.Given as goal

abbrev pub invariant-loop-prop : goal.invariant-loop-prop
invariant-loop-prop l =
    (length l.rows ≡ length l.fn.reading.props.now.rows)
    × ((d : PlacedVerdict) → refreshed (row_after l.fn.reading.history.now l.fn.reading.props.now l.fn.number) d (drop l.prop-index l.fn.reached) l.rows ≡ refreshed (row_after l.fn.reading.history.now l.fn.reading.props.now l.fn.number) d l.fn.reached l.fn.rows)
