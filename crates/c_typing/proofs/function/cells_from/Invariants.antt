use Rattle.std.proofs.Common.{◌≡◌, ◌+◌, ◌++◌, ◌≤◌, length, drop}
use Rattle.c_typing.specs.Functions.{cells_from}
use Rattle.c_typing.proofs.function.cells_from.Given as goal

abbrev pub invariant-loop-ty : goal.invariant-loop-ty
invariant-loop-ty l = record {
  goes : l.cells ++ cells_from l.cell (drop l._ty-index l.types) ≡ cells_from l.first l.types;
  cell : l.cell + length (drop l._ty-index l.types) ≤ l.first + length l.types;
}
