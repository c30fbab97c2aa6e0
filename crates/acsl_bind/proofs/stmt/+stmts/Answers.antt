use Rattle.std.proofs.Common.{◌∙◌, ◌≤◌, List, [], arith, ap, map, subst}
use Rattle.c_ir.specs.declared.tree.Stmt.{Stmt}
use Rattle.acsl_bind.specs.Placing.{made_of, placed_of, scene, stmts_from}
use Rattle.acsl_bind.specs.inner.Goes.{Goes}
use Rattle.acsl_bind.specs.inner.Sizes.{size_of_all}
use Rattle.acsl_bind.proofs.Nexts.{no_note, a_note_nexts, one_more}
use Rattle.acsl_bind.proofs.stmt.+stmts.Goals as goal

pub next-returns-in_ok-push-in-None : goal.next-returns-in_ok-push-in-None
next-returns-in_ok-push-in-None t c =
    let sc = scene c.args.source.now c.args.annots.now c.args.function in
    no_note sc c.args.clauses (placed_of sc c.args.s.now) c.args.before_loop c.args.done.now c.in_ok-stmt-in-None.field-0 c.new.result c.push.new.self c.args.walk.now c.stmt.new.walk
    (c.note_of.ensures sc ∙ c.in-None.is) c.in_ok-stmt-in-None.ensures c.new.ensures c.in_ok-push-in-None.ensures.ok

pub next-returns-in_ok-bound-in-Some : goal.next-returns-in_ok-bound-in-Some
next-returns-in_ok-bound-in-Some t c =
    let sc = scene c.args.source.now c.args.annots.now c.args.function in
    a_note_nexts sc c.args.clauses (placed_of sc c.args.s.now) c.args.before_loop c.args.done.now c.in-Some.at c.in_ok-bound-in-Some.bound c.with_bound.result c.with_bound.new.done c.args.walk.now c.bound_note.new.walk c.with_bound.new.walk
    (c.note_of.ensures sc ∙ c.in-Some.is) c.in_ok-bound-in-Some.ensures c.with_bound.ensures

pub stmts-loop-s-preserved : goal.stmts-loop-s-preserved
stmts-loop-s-preserved t c =
    let sc = scene c.args.source.now c.args.annots.now c.args.function in
    let whole = stmts_from sc [] (map (placed_of sc) c.args.all.now) [] (made_of c.args.walk.now) in
    let is = c.in-Some.ensures.cases.0 in
    record {
      goes = one_more sc c.loop-s.clauses (placed_of sc c.in-Some.s.now) (map (placed_of sc) c.in-Some.more.now) c.loop-s.done c.heads_loop-before_loop.result (c.in_ok-clauses.clauses, c.next.new.done) c.loop-s.walk c.next.new.walk c.args.walk.now whole
          (c.heads_loop-before_loop.ensures sc) c.in_ok-clauses.ensures
          (subst (λ (ss : List Stmt). Goes (stmts_from sc c.loop-s.clauses (map (placed_of sc) ss) c.loop-s.done (made_of c.loop-s.walk)) whole c.loop-s.walk c.args.walk.now) is c.loop-s.invariant.goes);
      size = omega (arith, subst (λ (ss : List Stmt). size_of_all ss ≤ size_of_all c.args.all.now) is c.loop-s.invariant.size);
    }
