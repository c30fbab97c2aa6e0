use Rattle.std.proofs.Common.{◌+◌, ◌≤◌, length, drop}
use Rattle.c_typing.specs.Functions.{allocate_formals}
use Rattle.c_typing.specs.Walking.{names_of, made_of}
use Rattle.c_typing.specs.inner.Goes.{Goes}
use Rattle.c_typing.proofs.function.allocate_formals.Given as goal

abbrev pub invariant-loop-ty : goal.invariant-loop-ty
invariant-loop-ty l = record {
  goes : Goes (allocate_formals l.owner (drop l.ty-index l.types) (names_of l.scope) (made_of l.walk))
      (allocate_formals l.owner l.types (names_of l.scope) (made_of l.fn.walk)) l.walk l.fn.walk;
  cells : l.walk.cells + length (drop l.ty-index l.types) ≤ l.fn.walk.cells + length l.types;
  points : length l.walk.points + length (drop l.ty-index l.types) ≤ length l.fn.walk.points + length l.types;
  sites : length l.walk.found.sites + length (drop l.ty-index l.types) ≤ length l.fn.walk.found.sites + length l.types;
}
