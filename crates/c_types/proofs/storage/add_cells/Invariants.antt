use Rattle.std.proofs.Common.{◌≡◌, ◌≤◌, ◌++◌, ◌-◌, replicate}
use Rattle.c_types.proofs.storage.add_cells.Given as goal

abbrev pub invariant-loop : goal.invariant-loop
invariant-loop l = record {
  goes : l.cells ++ replicate (l.end - l.counter) l.cell ≡ l.fn.cells ++ replicate l.end l.cell;
  within : l.counter ≤ l.end;
}
