use Rattle.std.proofs.Common.{◌≡◌, ◌+◌, ◌*◌, ◌≤◌, [], length, map}
use Rattle.acsl_bind.specs.Placing.{stmts_from, placed_of, scene, made_of}
use Rattle.acsl_bind.specs.inner.Goes.{Goes}
use Rattle.acsl_bind.specs.inner.Sizes.{size_of, size_of_all}
use Rattle.acsl_bind.proofs.stmt.+stmts.Given as goal

abbrev pub invariant-stmts-loop-s : goal.invariant-stmts-loop-s
invariant-stmts-loop-s l = record {
  goes : Goes (stmts_from (scene l.source l.annots l.function) l.clauses (map (placed_of (scene l.source l.annots l.function)) l.rest) l.done (made_of l.walk))
      (stmts_from (scene l.source l.annots l.function) [] (map (placed_of (scene l.source l.annots l.function)) l.all) [] (made_of l.fn.walk)) l.walk l.fn.walk;
  size : size_of_all l.rest ≤ size_of_all l.all;
}

abbrev pub decreases-stmts-loop-s : goal.decreases-stmts-loop-s
decreases-stmts-loop-s l = length l.rest

abbrev pub decreases-stmts : goal.decreases-stmts
decreases-stmts l = 4 * size_of_all l.all.now + 3

abbrev pub decreases-next : goal.decreases-next
decreases-next l = 4 * size_of l.s.now + 2

abbrev pub decreases-stmt : goal.decreases-stmt
decreases-stmt l = 4 * size_of l.s.now + 1

abbrev pub decreases-if_stmt : goal.decreases-if_stmt
decreases-if_stmt l = 4 * (size_of_all l.yes.now + size_of_all l.no.now) + 4

abbrev pub decreases-while_stmt : goal.decreases-while_stmt
decreases-while_stmt l = 4 * size_of_all l.body.now + 4

abbrev pub decreases-do_stmt : goal.decreases-do_stmt
decreases-do_stmt l = 4 * size_of_all l.body.now + 4

abbrev pub decreases-for_stmt : goal.decreases-for_stmt
decreases-for_stmt l = 4 * (size_of_all l.first.now + (size_of_all l.body.now + size_of_all l.update.now)) + 4
