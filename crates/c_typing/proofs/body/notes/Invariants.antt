use Rattle.std.proofs.Common.{◌≤◌, length, drop}
use Rattle.c_typing.specs.Functions.{notes_of}
use Rattle.c_typing.specs.Walking.{names_of, made_of}
use Rattle.c_typing.specs.inner.Goes.{Goes}
use Rattle.c_typing.proofs.body.notes.Given as goal

abbrev pub invariant-loop-at : goal.invariant-loop-at
invariant-loop-at l = record {
  goes : Goes (notes_of l.owner (drop l.at-index l.all) (names_of l.scope) (made_of l.walk))
      (notes_of l.owner l.all (names_of l.scope) (made_of l.fn.walk)) l.walk l.fn.walk;
  sites : length l.walk.found.sites ≤ length l.fn.walk.found.sites;
  points : length l.walk.points ≤ length l.fn.walk.points;
  cells : l.walk.cells ≤ l.fn.walk.cells;
}
