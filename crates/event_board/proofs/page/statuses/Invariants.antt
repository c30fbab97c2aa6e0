use Rattle.std.proofs.Common.{◌≡◌, ◌++◌, drop, map}
use Rattle.status_rules.specs.Fetch.{Row}
use Rattle.event_board.specs.inner.Rows.{rows}
use Rattle.event_board.proofs.page.statuses.Given as goal

abbrev pub invariant-loop-row : goal.invariant-loop-row
invariant-loop-row l =
    let shown = λ (r : Row). r.status in
    l.found ++ map shown (rows (drop l.row-index l.given)) ≡ map shown (rows l.given)
