use Rattle.std.proofs.Common.{◌≡◌, ◌≤◌, [], None, Some, length, drop}
use Rattle.c_ir.specs.Numbers.{count, points_of_all, stmt_sites_of_all}
use Rattle.c_typing.specs.Statements.{notes_from}
use Rattle.c_typing.specs.Walking.{names_of, made_of}
use Rattle.c_typing.specs.inner.Goes.{Goes}
use Rattle.c_typing.proofs.statement.notes.Given as goal

abbrev pub invariant-loop-at : goal.invariant-loop-at
invariant-loop-at l = record {
  goes : Goes (notes_from l.ctx l.waiting (drop l.at-index l.all) l.done (names_of l.scope) (made_of l.walk))
      (notes_from l.ctx None l.all [] (names_of l.scope) (made_of l.fn.walk)) l.walk l.fn.walk;
  sites : length l.walk.found.sites ≤ length l.fn.walk.found.sites;
  points : length l.walk.points ≤ length l.fn.walk.points;
  cells : l.walk.cells ≤ l.fn.walk.cells;
  numbered_points : count (length l.fn.walk.points) (points_of_all l.done) ≡ Some (length l.walk.points);
  numbered_sites : count (length l.fn.walk.found.sites) (stmt_sites_of_all l.done) ≡ Some (length l.walk.found.sites);
}
