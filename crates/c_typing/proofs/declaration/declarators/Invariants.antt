use Rattle.std.proofs.Common.{◌≡◌, ◌+◌, ◌≤◌, [], Some, length, drop}
use Rattle.c_ir.specs.Numbers.{count, points_of_all, stmt_sites_of_all}
use Rattle.c_typing.specs.Declarations.{declarators_from}
use Rattle.c_typing.specs.Room.{room_of_declrs}
use Rattle.c_typing.specs.Walking.{names_of, made_of, undone}
use Rattle.c_typing.specs.inner.Goes.{Goes}
use Rattle.c_typing.proofs.declaration.declarators.Given as goal

abbrev pub invariant-loop-d : goal.invariant-loop-d
invariant-loop-d l = record {
  goes : Goes (declarators_from l.ctx l.ty l.constant (drop l.d-index l.all) l.done (names_of l.scope) (made_of l.walk))
      (declarators_from l.ctx l.ty l.constant l.all [] (names_of l.fn.scope) (made_of l.fn.walk)) l.walk l.fn.walk;
  kept : undone l.log (names_of l.scope).env ≡ undone l.fn.log (names_of l.fn.scope).env;
  sites : length l.walk.found.sites + room_of_declrs (drop l.d-index l.all) ≤ length l.fn.walk.found.sites + room_of_declrs l.all;
  points : length l.walk.points + room_of_declrs (drop l.d-index l.all) ≤ length l.fn.walk.points + room_of_declrs l.all;
  cells : l.walk.cells + room_of_declrs (drop l.d-index l.all) ≤ l.fn.walk.cells + room_of_declrs l.all;
  numbered_points : count (length l.fn.walk.points) (points_of_all l.done) ≡ Some (length l.walk.points);
  numbered_sites : count (length l.fn.walk.found.sites) (stmt_sites_of_all l.done) ≡ Some (length l.walk.found.sites);
}
