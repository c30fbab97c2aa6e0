use Rattle.event_board.specs.inner.Rows.{rows}
use Rattle.event_board.proofs.RowsAfter.{AreFirst}
use Rattle.event_board.proofs.page.first_after.Given as goal

abbrev pub invariant-loop-taken : goal.invariant-loop-taken
invariant-loop-taken l = record { first : AreFirst (rows l.table) l.cursor l._taken (rows l.given.items) }
