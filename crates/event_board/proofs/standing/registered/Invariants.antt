use Rattle.std.proofs.Common.{◌≡◌, ◌+◌, ◌≤◌, length, drop}
use Rattle.status_history.specs.Values.{sets_registered}
use Rattle.event_board.proofs.standing.registered.Given as goal

abbrev pub invariant-loop-change : goal.invariant-loop-change
invariant-loop-change l = record {
  count : l.count + length (sets_registered (drop l.change-index l.changes)) ≡ length (sets_registered l.changes);
  within : l.count ≤ l.change-index;
}
