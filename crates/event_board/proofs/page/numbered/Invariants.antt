use Rattle.std.proofs.Common.{◌≡◌, ◌++◌, drop}
use Rattle.event_board.specs.Numbered.{rows_from}
use Rattle.event_board.specs.inner.Rows.{rows}
use Rattle.event_board.proofs.page.numbered.Given as goal

abbrev pub invariant-loop-place : goal.invariant-loop-place
invariant-loop-place l =
    rows l.table.items ++ rows_from l.place (drop l.place l.verdicts) ≡ rows_from 0 l.verdicts
