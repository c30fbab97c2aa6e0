use Rattle.std.proofs.Common.{◌≡◌, ◌++◌, drop}
use Rattle.abs_cells.specs.Cells.{joined}
use Rattle.abs_cells.proofs.cells.Cells.join.Given as goal

abbrev pub invariant-loop-number : goal.invariant-loop-number
invariant-loop-number l = l.values ++ joined (drop l.number l.mine) (drop l.number l.others) ≡ joined l.mine l.others
