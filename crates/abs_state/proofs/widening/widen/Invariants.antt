use Rattle.std.proofs.Common.{◌≡◌, ◌++◌, drop}
use Rattle.abs_state.specs.Widening.{widened}
use Rattle.abs_state.proofs.widening.widen.Given as goal

abbrev pub invariant-loop-number : goal.invariant-loop-number
invariant-loop-number l =
    l.values ++ widened l.turn l.thresholds (drop l.number l.shapes) (drop l.number l.old)
    (drop l.number l.next)
    ≡ widened l.turn l.thresholds l.shapes l.old l.next
