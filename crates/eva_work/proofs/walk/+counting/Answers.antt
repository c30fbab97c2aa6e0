use Rattle.std.proofs.Common.{◌<◌, ◌+◌, ◌∙◌, ℕ, List, slice_get, refl, ap, sym, subst, arith}
use Rattle.c_ir.specs.Calls.{calls_of, calls_of_all}
use Rattle.c_ir.specs.declared.tree.Expr.{Expr}
use Rattle.eva_work.specs.Work.{bodies_of, work_of_stmts}
use Rattle.eva_work.specs.inner.Counting.{Noted, body_left, capped, expr_left, exprs_left, left, stmt_left, whole}
use Rattle.eva_work.proofs.Deep.{left_is, whole_is}
use Rattle.eva_work.proofs.Nodes.{assign_bodies, assign_left, binary_bodies, binary_left, call_bodies, call_left, cond_bodies, cond_left}
use Rattle.eva_work.proofs.Sums.{expr_item, exprs_step, few_of, noted_more, stmt_item, stmts_step, two_parts}
use Rattle.eva_work.proofs.walk.+counting.Goals as goal

-- ---- functions

pub function-body-count-requires : goal.function-body-count-requires
function-body-count-requires t c =
    let p = c.args.program.now in
    let all = left_is p c.keeps.ensures c.args.number in
    let less : 1 + body_left (left p) (slice_get p.fns c.args.number) < t = omega (arith, all, c.decreases) in
    (less, c.requires)

pub function-returns-in-None-clause-count : goal.function-returns-in-None-clause-count
function-returns-in-None-clause-count t c =
    let p = c.args.program.now in
    c.body-count.ensures.count ∙ ap capped (sym (whole_is p c.keeps.ensures c.args.unroll c.args.number))

pub function-returns-in-None-clause-known : goal.function-returns-in-None-clause-known
function-returns-in-None-clause-known t c =
    let p = c.args.program.now in
    let u = c.args.unroll in
    let g = c.args.number in
    let count = c.body-count.ensures.count ∙ ap capped (sym (whole_is p c.keeps.ensures u g)) in
    subst (λ (xs : List ℕ). Noted p u xs) (sym c.note.ensures)
    (noted_more p u c.body-count.new.known g c.body-count.result count c.body-count.ensures.known)

-- ---- loops

pub all_bodies-bodies-requires : goal.all_bodies-bodies-requires
all_bodies-bodies-requires t c =
    let p = c.args.program.now in
    let item = expr_item p c.args.all.now c.loop-e.e-index c.e-item.result c.loop-e-test.true c.e-item.is in
    let less : expr_left p c.e-item.result < t = omega (arith, item, c.decreases) in
    (less, c.loop-e.invariant.known)

pub all_bodies-loop-e-preserved : goal.all_bodies-loop-e-preserved
all_bodies-loop-e-preserved t c =
    let w = whole c.args.program.now c.args.unroll in
    let es = c.args.all.now in
    let l = c.loop-e in
    let inside = c.loop-e-test.true in record {
      known = c.bodies.ensures.known;
      few = few_of c.sum-total.result (l.total + c.bodies.result) c.sum-total.ensures;
      count =
          exprs_step w es l.e-index c.e-item.result l.total (bodies_of w (calls_of_all es)) c.sum-total.result
          c.bodies.result inside c.e-item.is c.sum-total.ensures c.bodies.ensures.count l.invariant.count;
    }

pub stmts-stmt-requires : goal.stmts-stmt-requires
stmts-stmt-requires t c =
    let p = c.args.program.now in
    let item = stmt_item p c.args.all.now c.loop-s.s-index c.s-item.result c.loop-s-test.true c.s-item.is in
    let less : stmt_left p c.s-item.result < t = omega (arith, item, c.decreases) in
    (less, c.loop-s.invariant.known)

pub stmts-loop-s-preserved : goal.stmts-loop-s-preserved
stmts-loop-s-preserved t c =
    let u = c.args.unroll in
    let w = whole c.args.program.now u in
    let ss = c.args.all.now in
    let l = c.loop-s in
    let inside = c.loop-s-test.true in record {
      known = c.stmt.ensures.known;
      few = few_of c.sum-total.result (l.total + c.stmt.result) c.sum-total.ensures;
      count =
          stmts_step u w ss l.s-index c.s-item.result l.total (work_of_stmts u w ss) c.sum-total.result
          c.stmt.result inside c.s-item.is c.sum-total.ensures c.stmt.ensures.count l.invariant.count;
    }

-- ---- expressions

pub bodies-all_bodies-before-requires : goal.bodies-all_bodies-before-requires
bodies-all_bodies-before-requires t c =
    let p = c.args.program.now in
    let all = call_left c.args.e.now p c.in-Call.f c.in-Call.args c.in-Call.is in
    let part = ap (exprs_left p) c.as_slice.ensures in
    let less : exprs_left p c.as_slice.result.now < t = omega (arith, all, part, c.decreases) in
    (less, c.requires)

pub bodies-function-requires : goal.bodies-function-requires
bodies-function-requires t c =
    let p = c.args.program.now in
    let all = call_left c.args.e.now p c.in-Call.f c.in-Call.args c.in-Call.is in
    let less : left p c.in-Call.f.0 < t = omega (arith, all, c.decreases) in
    (less, c.all_bodies-before.ensures.known)

pub bodies-bodies-first-requires : goal.bodies-bodies-first-requires
bodies-bodies-first-requires t c =
    let p = c.args.program.now in
    let b = c.in-Binary in
    let all = binary_left c.args.e.now p b.op b.left b.right b.is in
    let part = ap (expr_left p) c.get-in-Binary.ensures in
    let less : expr_left p c.get-in-Binary.result.now < t = omega (arith, all, part, c.decreases) in
    (less, c.requires)

pub bodies-bodies-requires-in-Binary : goal.bodies-bodies-requires-in-Binary
bodies-bodies-requires-in-Binary t c =
    let p = c.args.program.now in
    let b = c.in-Binary in
    let all = binary_left c.args.e.now p b.op b.left b.right b.is in
    let part = ap (expr_left p) c.get-in-Binary-2.ensures in
    let less : expr_left p c.get-in-Binary-2.result.now < t = omega (arith, all, part, c.decreases) in
    (less, c.bodies-first.ensures.known)

pub bodies-bodies-first-requires-in-Assign : goal.bodies-bodies-first-requires-in-Assign
bodies-bodies-first-requires-in-Assign t c =
    let p = c.args.program.now in
    let b = c.in-Assign in
    let all = assign_left c.args.e.now p b.to b.value b.is in
    let part = ap (expr_left p) c.get-in-Assign.ensures in
    let less : expr_left p c.get-in-Assign.result.now < t = omega (arith, all, part, c.decreases) in
    (less, c.requires)

pub bodies-bodies-requires-in-Assign : goal.bodies-bodies-requires-in-Assign
bodies-bodies-requires-in-Assign t c =
    let p = c.args.program.now in
    let b = c.in-Assign in
    let all = assign_left c.args.e.now p b.to b.value b.is in
    let part = ap (expr_left p) c.get-in-Assign-2.ensures in
    let less : expr_left p c.get-in-Assign-2.result.now < t = omega (arith, all, part, c.decreases) in
    (less, c.bodies-first-in-Assign.ensures.known)

pub bodies-bodies-first-requires-in-Cond : goal.bodies-bodies-first-requires-in-Cond
bodies-bodies-first-requires-in-Cond t c =
    let p = c.args.program.now in
    let b = c.in-Cond in
    let all = cond_left c.args.e.now p b.cond b.yes b.no b.is in
    let part = ap (expr_left p) c.get-in-Cond.ensures in
    let less : expr_left p c.get-in-Cond.result.now < t = omega (arith, all, part, c.decreases) in
    (less, c.requires)

pub bodies-bodies-second-requires : goal.bodies-bodies-second-requires
bodies-bodies-second-requires t c =
    let p = c.args.program.now in
    let b = c.in-Cond in
    let all = cond_left c.args.e.now p b.cond b.yes b.no b.is in
    let part = ap (expr_left p) c.get-in-Cond-2.ensures in
    let less : expr_left p c.get-in-Cond-2.result.now < t = omega (arith, all, part, c.decreases) in
    (less, c.bodies-first-in-Cond.ensures.known)

pub bodies-bodies-requires-in-Cond : goal.bodies-bodies-requires-in-Cond
bodies-bodies-requires-in-Cond t c =
    let p = c.args.program.now in
    let b = c.in-Cond in
    let all = cond_left c.args.e.now p b.cond b.yes b.no b.is in
    let part = ap (expr_left p) c.get-in-Cond-3.ensures in
    let less : expr_left p c.get-in-Cond-3.result.now < t = omega (arith, all, part, c.decreases) in
    (less, c.bodies-second.ensures.known)

pub bodies-returns-in-Call-clause-count : goal.bodies-returns-in-Call-clause-count
bodies-returns-in-Call-clause-count t c =
    let w = whole c.args.program.now c.args.unroll in
    let args = ap (λ (es : List Expr). capped (bodies_of w (calls_of_all es))) c.as_slice.ensures in
    let all = bodies_of w (calls_of c.args.e.now) in
    two_parts c.all_bodies-before.result c.function.result _ _ all c.sum.result c.sum.ensures
    (c.all_bodies-before.ensures.count ∙ args) c.function.ensures.count
    (call_bodies c.args.e.now w c.in-Call.f c.in-Call.args c.in-Call.is)

pub bodies-returns-in-Binary-clause-count : goal.bodies-returns-in-Binary-clause-count
bodies-returns-in-Binary-clause-count t c =
    let w = whole c.args.program.now c.args.unroll in
    let of = λ (e : Expr). capped (bodies_of w (calls_of e)) in
    let b = c.in-Binary in
    let left = bodies_of w (calls_of b.left) in
    let right = bodies_of w (calls_of b.right) in
    let all = bodies_of w (calls_of c.args.e.now) in
    let sum = c.sum-in-Binary in
    two_parts c.bodies-first.result c.bodies-in-Binary.result left right all sum.result sum.ensures
    (c.bodies-first.ensures.count ∙ ap of c.get-in-Binary.ensures)
    (c.bodies-in-Binary.ensures.count ∙ ap of c.get-in-Binary-2.ensures)
    (binary_bodies c.args.e.now w b.op b.left b.right b.is)

pub bodies-returns-in-Assign-clause-count : goal.bodies-returns-in-Assign-clause-count
bodies-returns-in-Assign-clause-count t c =
    let w = whole c.args.program.now c.args.unroll in
    let of = λ (e : Expr). capped (bodies_of w (calls_of e)) in
    let b = c.in-Assign in
    let to = bodies_of w (calls_of b.to) in
    let value = bodies_of w (calls_of b.value) in
    let all = bodies_of w (calls_of c.args.e.now) in
    let sum = c.sum-in-Assign in
    two_parts c.bodies-first-in-Assign.result c.bodies-in-Assign.result to value all sum.result sum.ensures
    (c.bodies-first-in-Assign.ensures.count ∙ ap of c.get-in-Assign.ensures)
    (c.bodies-in-Assign.ensures.count ∙ ap of c.get-in-Assign-2.ensures)
    (assign_bodies c.args.e.now w b.to b.value b.is)

pub bodies-returns-in-Cond-clause-count : goal.bodies-returns-in-Cond-clause-count
bodies-returns-in-Cond-clause-count t c =
    let w = whole c.args.program.now c.args.unroll in
    let of = λ (e : Expr). capped (bodies_of w (calls_of e)) in
    let b = c.in-Cond in
    let cond = bodies_of w (calls_of b.cond) in
    let yes = bodies_of w (calls_of b.yes) in
    let no = bodies_of w (calls_of b.no) in
    let all = bodies_of w (calls_of c.args.e.now) in
    let at_yes = c.bodies-second.ensures.count ∙ ap of c.get-in-Cond-2.ensures in
    let at_no = c.bodies-in-Cond.ensures.count ∙ ap of c.get-in-Cond-3.ensures in
    let sum = c.sum-in-Cond in
    let first = c.bodies-second.result in
    let second = c.bodies-in-Cond.result in
    let branches = two_parts first second yes no (yes + no) sum.result sum.ensures at_yes at_no refl in
    let both = c.sum-in-Cond-2 in
    two_parts c.bodies-first-in-Cond.result sum.result cond (yes + no) all both.result both.ensures
    (c.bodies-first-in-Cond.ensures.count ∙ ap of c.get-in-Cond.ensures) branches
    (cond_bodies c.args.e.now w b.cond b.yes b.no b.is)
