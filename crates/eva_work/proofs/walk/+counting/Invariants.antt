use Rattle.std.proofs.Common.{◌≡◌, slice_get, ◌+◌, ◌≤◌, drop}
use Rattle.c_ir.specs.Calls.{calls_of_all}
use Rattle.eva_work.specs.Work.{bodies_of, most_work, work_of_stmts}
use Rattle.eva_work.specs.inner.Counting.{Noted, body_left, capped, whole, left, expr_left, exprs_left, if_left, init_left, stmt_left, stmts_left}
use Rattle.eva_work.proofs.walk.+counting.Given as goal

abbrev pub decreases-all_bodies : goal.decreases-all_bodies
decreases-all_bodies l = exprs_left l.program.now l.all.now

abbrev pub decreases-bodies : goal.decreases-bodies
decreases-bodies l = expr_left l.program.now l.e.now

abbrev pub decreases-bodies_if : goal.decreases-bodies_if
decreases-bodies_if l = if_left l.program.now l.value.now

abbrev pub decreases-body : goal.decreases-body
decreases-body l = 1 + body_left (left l.program.now) (slice_get l.program.now.fns l.number)

abbrev pub decreases-function : goal.decreases-function
decreases-function l = left l.program.now l.number

abbrev pub decreases-init_bodies : goal.decreases-init_bodies
decreases-init_bodies l = init_left l.program.now l.value.now

abbrev pub decreases-stmt : goal.decreases-stmt
decreases-stmt l = stmt_left l.program.now l.s.now

abbrev pub decreases-stmts : goal.decreases-stmts
decreases-stmts l = stmts_left l.program.now l.all.now

abbrev pub invariant-all_bodies-loop-e : goal.invariant-all_bodies-loop-e
invariant-all_bodies-loop-e l = record {
  known : Noted l.program l.unroll l.known;
  few : l.total ≤ most_work;
  count : capped (l.total + bodies_of (whole l.program l.unroll) (calls_of_all (drop l.e-index l.all)))
      ≡ capped (bodies_of (whole l.program l.unroll) (calls_of_all l.all));
}

abbrev pub invariant-stmts-loop-s : goal.invariant-stmts-loop-s
invariant-stmts-loop-s l = record {
  known : Noted l.program l.unroll l.known;
  few : l.total ≤ most_work;
  count : capped (l.total + work_of_stmts l.unroll (whole l.program l.unroll) (drop l.s-index l.all))
      ≡ capped (work_of_stmts l.unroll (whole l.program l.unroll) l.all);
}
