use Rattle.std.proofs.Common.{◌≡◌, drop}
use Rattle.abs_cells.specs.Cells.{is_included}
use Rattle.abs_cells.proofs.cells.Cells.included.Given as goal

abbrev pub invariant-loop-number : goal.invariant-loop-number
invariant-loop-number l = is_included (drop l.number l.mine) (drop l.number l.others) ≡ is_included l.mine l.others
