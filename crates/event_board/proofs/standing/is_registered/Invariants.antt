use Rattle.std.proofs.Common.{◌≡◌, drop}
use Rattle.std.specs.Prelude.{bytes_eq}
use Rattle.std.specs.List.{list_any}
use Rattle.status_rules.specs.Judge.{names_registered}
use Rattle.event_board.proofs.standing.is_registered.Given as goal

abbrev pub invariant-loop-change : goal.invariant-loop-change
invariant-loop-change l =
    list_any (bytes_eq l.name) (names_registered (drop l.change-index l.changes)) ≡ list_any (bytes_eq l.name) (names_registered l.changes)
