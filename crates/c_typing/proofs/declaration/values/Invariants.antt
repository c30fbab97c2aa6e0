use Rattle.std.proofs.Common.{◌≡◌, ◌+◌, ◌≤◌, [], Some, length, drop}
use Rattle.c_ir.specs.Numbers.{count, sites_of_all}
use Rattle.c_typing.specs.Declarations.{values_from}
use Rattle.c_typing.specs.Room.{total_of}
use Rattle.c_typing.specs.Walking.{names_of, made_of}
use Rattle.c_typing.specs.inner.Goes.{Goes}
use Rattle.c_typing.proofs.declaration.values.Given as goal

abbrev pub invariant-loop-e : goal.invariant-loop-e
invariant-loop-e l = record {
  goes : Goes (values_from l.point l.ty (drop l.e-index l.all) l.done (names_of l.scope) (made_of l.walk))
      (values_from l.point l.ty l.all [] (names_of l.scope) (made_of l.fn.walk)) l.walk l.fn.walk;
  sites : length l.walk.found.sites + total_of (drop l.e-index l.all) ≤ length l.fn.walk.found.sites + total_of l.all;
  points : length l.walk.points + total_of (drop l.e-index l.all) ≤ length l.fn.walk.points + total_of l.all;
  cells : l.walk.cells + total_of (drop l.e-index l.all) ≤ l.fn.walk.cells + total_of l.all;
  numbered_points : length l.walk.points ≡ length l.fn.walk.points;
  numbered_sites : count (length l.fn.walk.found.sites) (sites_of_all l.done) ≡ Some (length l.walk.found.sites);
}
