use Rattle.std.proofs.Common.{◌≡◌, ◌+◌, ◌++◌, length, drop}
use Rattle.c_typing.specs.Functions.{formal_types}
use Rattle.c_typing.proofs.function.formal_types.Given as goal

abbrev pub invariant-loop-formal : goal.invariant-loop-formal
invariant-loop-formal l = record {
  goes : l.types ++ formal_types (drop l.formal-index l.all) ≡ formal_types l.all;
  count : length l.types + length (drop l.formal-index l.all) ≡ length l.all;
}
