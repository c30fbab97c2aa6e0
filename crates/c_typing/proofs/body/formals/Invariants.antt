use Rattle.std.proofs.Common.{◌≡◌, ◌+◌, ◌≤◌, length, drop}
use Rattle.c_typing.specs.Functions.{formals_from}
use Rattle.c_typing.specs.Walking.{names_of, made_of, undone}
use Rattle.c_typing.specs.inner.Goes.{Goes}
use Rattle.c_typing.proofs.body.formals.Given as goal

abbrev pub invariant-loop-f : goal.invariant-loop-f
invariant-loop-f l = record {
  goes : Goes (formals_from l.ctx l.cell (drop l.f-index l.all) (names_of l.scope) (made_of l.walk))
      (formals_from l.ctx l.first l.all (names_of l.fn.scope) (made_of l.fn.walk)) l.walk l.fn.walk;
  kept : undone l.log (names_of l.scope).env ≡ undone l.fn.log (names_of l.fn.scope).env;
  cell : l.cell + length (drop l.f-index l.all) ≤ l.first + length l.all;
  sites : length l.walk.found.sites ≤ length l.fn.walk.found.sites;
  points : length l.walk.points ≤ length l.fn.walk.points;
  cells : l.walk.cells ≤ l.fn.walk.cells;
}
