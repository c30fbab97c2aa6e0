use Rattle.std.proofs.Common.{◌≡◌, ◌++◌, drop}
use Rattle.abs_state.specs.Widening.{whole_cells}
use Rattle.abs_state.proofs.widening.whole.Given as goal

abbrev pub invariant-loop-number : goal.invariant-loop-number
invariant-loop-number l =
    l.values ++ whole_cells (drop l.number l.shapes) (drop l.number l.flags) ≡ whole_cells l.shapes l.flags
