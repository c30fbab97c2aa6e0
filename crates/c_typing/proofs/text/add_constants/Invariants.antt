use Rattle.std.proofs.Common.{◌≡◌, ◌+◌, ◌++◌, ◌≤◌, length, drop}
use Rattle.c_typing.specs.Functions.{constant_cells}
use Rattle.c_typing.proofs.text.add_constants.Given as goal

abbrev pub invariant-loop-formal : goal.invariant-loop-formal
invariant-loop-formal l = record {
  goes : l.constants ++ constant_cells l.cell (drop l.formal-index l.all) ≡ l.fn.constants ++ constant_cells l.first l.all;
  cell : l.cell + length (drop l.formal-index l.all) ≤ l.first + length l.all;
}
