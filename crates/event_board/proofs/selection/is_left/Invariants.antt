use Rattle.std.proofs.Common.{◌≡◌, drop}
use Rattle.status_rules.specs.Fetch.{is_left}
use Rattle.event_board.specs.inner.Rows.{rows}
use Rattle.event_board.proofs.selection.is_left.Given as goal

abbrev pub invariant-loop-found : goal.invariant-loop-found
invariant-loop-found l =
    is_left (rows (drop l.found-index l.table)) l.cursor ≡ is_left (rows l.table) l.cursor
