use Rattle.std.proofs.Common.{◌≡◌, length}
use Rattle.status_rows.proofs.index.users.Given as goal

abbrev pub invariant-loop-row : goal.invariant-loop-row
invariant-loop-row l = length l.lists.items ≡ l._row-index
