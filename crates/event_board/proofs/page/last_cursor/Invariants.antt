use Rattle.std.proofs.Common.{◌≡◌, drop}
use Rattle.status_rules.specs.Fetch.{last_cursor}
use Rattle.event_board.specs.inner.Rows.{rows}
use Rattle.event_board.proofs.page.last_cursor.Given as goal

abbrev pub invariant-loop-row : goal.invariant-loop-row
invariant-loop-row l =
    last_cursor l.last (rows (drop l.row-index l.given)) ≡ last_cursor l.fn.cursor (rows l.given)
