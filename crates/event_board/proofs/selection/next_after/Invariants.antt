use Rattle.std.proofs.Common.{◌≡◌, None, drop}
use Rattle.std.specs.Prelude.{option_map}
use Rattle.event_board.specs.inner.Rows.{nearest, row, rows}
use Rattle.event_board.proofs.selection.next_after.Given as goal

abbrev pub invariant-loop-found : goal.invariant-loop-found
invariant-loop-found l =
    nearest l.cursor (option_map row l.best) (rows (drop l.found-index l.table)) ≡ nearest l.cursor None (rows l.table)
