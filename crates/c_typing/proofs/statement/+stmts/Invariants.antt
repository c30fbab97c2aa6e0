use Rattle.std.proofs.Common.{◌≡◌, ◌+◌, ◌*◌, ◌≤◌, [], None, Some, length, map, drop}
use Rattle.std.specs.Option.{option_map}
use Rattle.c_ir.specs.Numbers.{count, points_of_all, stmt_sites_of_all}
use Rattle.c_typing.specs.Room.{room_of, nodes_of, nodes_if, size_of_stmt, size_of_sub}
use Rattle.c_typing.specs.Statements.{stmts_from, meant_of}
use Rattle.c_typing.specs.Walking.{names_of, made_of, undone}
use Rattle.c_typing.specs.inner.Goes.{Goes}
use Rattle.c_typing.proofs.statement.+stmts.Given as goal

abbrev pub invariant-stmts-loop-s : goal.invariant-stmts-loop-s
invariant-stmts-loop-s l = record {
  goes : Goes (stmts_from l.ctx l.waiting (map meant_of (drop l.s-index l.all)) l.done (names_of l.scope) (made_of l.walk))
      (stmts_from l.ctx None (map meant_of l.all) [] (names_of l.fn.scope) (made_of l.fn.walk)) l.walk l.fn.walk;
  kept : undone l.log (names_of l.scope).env ≡ undone l.fn.log (names_of l.fn.scope).env;
  sites : length l.walk.found.sites + room_of (map size_of_stmt (drop l.s-index l.all)) ≤ length l.fn.walk.found.sites + room_of (map size_of_stmt l.all);
  points : length l.walk.points + room_of (map size_of_stmt (drop l.s-index l.all)) ≤ length l.fn.walk.points + room_of (map size_of_stmt l.all);
  cells : l.walk.cells + room_of (map size_of_stmt (drop l.s-index l.all)) ≤ l.fn.walk.cells + room_of (map size_of_stmt l.all);
  nodes : nodes_of (map size_of_stmt (drop l.s-index l.all)) ≤ nodes_of (map size_of_stmt l.all);
  numbered_points : count (length l.fn.walk.points) (points_of_all l.done) ≡ Some (length l.walk.points);
  numbered_sites : count (length l.fn.walk.found.sites) (stmt_sites_of_all l.done) ≡ Some (length l.walk.found.sites);
}

abbrev pub decreases-stmt : goal.decreases-stmt
decreases-stmt l = 8 * (size_of_stmt l.s.now).nodes + 2

abbrev pub decreases-next : goal.decreases-next
decreases-next l = 8 * (size_of_stmt l.s.now).nodes + 3

abbrev pub decreases-stmts : goal.decreases-stmts
decreases-stmts l = 8 * nodes_of (map size_of_stmt l.all.now) + 5

abbrev pub decreases-block : goal.decreases-block
decreases-block l = 8 * nodes_of (map size_of_stmt l.all.now) + 6

abbrev pub decreases-for_stmt : goal.decreases-for_stmt
decreases-for_stmt l = 8 * (size_of_sub l.body.now).nodes + 5

abbrev pub decreases-for_parts : goal.decreases-for_parts
decreases-for_parts l = 8 * (size_of_sub l.body.now).nodes + 3

abbrev pub decreases-branch : goal.decreases-branch
decreases-branch l = 8 * nodes_if (option_map size_of_sub l.s.now) + 1

abbrev pub decreases-sub : goal.decreases-sub
decreases-sub l = 8 * (size_of_sub l.s.now).nodes
