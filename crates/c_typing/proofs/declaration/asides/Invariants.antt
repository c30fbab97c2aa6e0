use Rattle.std.proofs.Common.{◌≡◌, ◌≤◌, length, drop}
use Rattle.c_typing.specs.Declarations.{asides}
use Rattle.c_typing.specs.Room.{total_of}
use Rattle.c_typing.specs.Walking.{names_of, made_of}
use Rattle.c_typing.specs.inner.Goes.{Goes}
use Rattle.c_typing.proofs.declaration.asides.Given as goal

abbrev pub invariant-loop-e : goal.invariant-loop-e
invariant-loop-e l = record {
  goes : Goes (asides (drop l.e-index l.all) (names_of l.scope) (made_of l.walk))
      (asides l.all (names_of l.scope) (made_of l.fn.walk)) l.walk l.fn.walk;
  room : total_of (drop l.e-index l.all) ≤ total_of l.all;
  sites : length l.walk.found.sites ≤ length l.fn.walk.found.sites;
  points : length l.walk.points ≤ length l.fn.walk.points;
  cells : l.walk.cells ≤ l.fn.walk.cells;
  numbered_points : length l.walk.points ≡ length l.fn.walk.points;
  numbered_sites : length l.walk.found.sites ≡ length l.fn.walk.found.sites;
}
