use Rattle.std.proofs.Common.{◌≡◌, inl, inr, ◌<◌, ◌≤◌, ◌+◌, ◌-◌, min, Bor, ℕ, Bool, true, false, List, [], ◌∷◌, drop, length, map, Option, Some, None, refl, sym, ap, ap₂, subst, ◌∙◌, arith}
use Rattle.std.specs.Prelude.{IfOk, slice_get}
use Rattle.std.specs.Option.{option_map}
use Rattle.c_ir.specs.Bodies.{cell_count}
use Rattle.c_ir.specs.Programs.{Program}
use Rattle.c_ir.specs.declared.tree.Stmt.{Stmt, map-Stmt, roll-Stmt}
use Rattle.c_ir.specs.declared.tree.Stmt.TheVariants.{rolls-Clause, rolls-Declare, rolls-DoWhile, rolls-Empty, rolls-Expression, rolls-For, rolls-If, rolls-Return, rolls-While}
use Rattle.c_ir.specs.declared.tree.Stmt.TheOpen.{Stmt-F}
use Rattle.c_ir.specs.declared.tree.Fun.{Fun}
use Rattle.c_runs.specs.Runs.{Breaks, Next, Returns, Stopped}
use Rattle.c_runs.specs.Statements.{entry_clauses, formals_in, is_main}
use Rattle.c_ir.specs.declared.tree.Expr.{Expr}
use Rattle.c_ir.specs.declared.tree.Node.TheVariants as N
use Rattle.c_ir.specs.declared.tree.PointClause.{PointClause}
use Rattle.int_value.specs.declared.value.Value.{Value}
use Rattle.eva_rules.specs.Meant.{Meant, meant}
use Rattle.eva_rules.specs.Writing.{set_cell, set_cells, written, zero_value}
use Rattle.abs_state.specs.States.{unreached_state}
use Rattle.abs_state.specs.declared.state.State.{State}
use Rattle.eva_values.specs.Values.{Abstract, abstracted}
use Rattle.eva_rules.specs.Passing.{Passed, Record, Step, Widening, all_pass, branch, changes, closed, closing, continuing, either, ends, looped, seq, stable}
use Rattle.eva_rules.specs.Points.{arrive, point_noted, preconditions_noted, then_pass}
use Rattle.eva_rules.specs.Statements.{Inside, after_entry, at as at_point, declaring, dropping, filling, returning, at_end, body, call_to, condition, condition_if, entry_passed, function, function_if, giving_to, inside_of, loop, pass, pass_all, pass_step}
use Rattle.eva_run.specs.Code.{IsPassed, after_turn, alone, converted_by, exits_of, ground_by, inside_by, inside_with, tallied, turn_by, widening_by, writes_of}
use Rattle.eva_run.specs.declared.exits.Exits.{Exits}
use Rattle.eva_run.specs.declared.inside.Turn.{Turn}
use Rattle.eva_run.proofs.Calls.{all_filled, assign_passed, call_is, call_passed, dropped_passed, filled_passed, filling_step, given_done, value_is}
use Rattle.eva_run.proofs.Parts.{assign_none, at_end_none}
use Rattle.eva_run.proofs.Sames.{meant_at}
use Rattle.eva_run.proofs.Steps.{Done, Going, Turning, branch_done, closing_done, continuing_done, done_at, drop_step, either_done, ended, exits_either, exits_followed, followed_done, going_end, going_init, going_step, no_more, nothing_done, point_done, point_passed, passed_at, seq_done, settled_last, stable_is, stable_last, then_noted, pass_is, turning_end, turning_step, wider_is}
use Rattle.eva_run.proofs.Weights.{call_less, item_less, measure, weight, weight_all, weight_if}
use Rattle.eva_run.proofs.analysis.+analysing.Goals as goal

pub block-statement-requires : goal.block-statement-requires
block-statement-requires t c =
    let funs = c.args.inside.setting.program.now.fns in
    let h = item_less funs c.args.inside.depth c.args.body.now c.loop-stmt.stmt-index c.stmt-item.result c.stmt-item.is
    c.loop-stmt-test.true in
    (subst (λ (n : ℕ). measure funs c.args.inside.depth (weight c.stmt-item.result) < n) c.decreases h, tt)

pub block-loop-stmt-preserved : goal.block-loop-stmt-preserved
block-loop-stmt-preserved t c =
    let i = inside_by c.args.inside in
    let number = (ground_by c.args.inside.setting).number in
    let body = c.args.body.now in
    let k = c.loop-stmt.stmt-index in
    let item = c.stmt-item.result in
    let target = pass_all i body c.args.state in
    let x : Exits = record { next = c.loop-stmt.next; breaks = c.loop-stmt.breaks; continues = c.loop-stmt.continues; returns = c.loop-stmt.returns } in
    let at : drop k body ≡ item ∷ drop (k + 1) body =
    drop_step body k item c.loop-stmt-test.true ∙ ap (λ (s : Stmt). s ∷ drop (k + 1) body) (sym c.stmt-item.is) in
    let going = subst (λ (ss : List Stmt). Going number c.args.noting (map (pass i) ss) x c.args.table.now c.loop-stmt.table target) at c.loop-stmt.invariant in
    going_step number c.args.noting (pass i item) (map (pass i) (drop (k + 1) body)) c.loop-stmt.next c.loop-stmt.breaks
    c.loop-stmt.continues c.loop-stmt.returns c.in_ok-step.step c.in_ok-breaks.breaks c.in_ok-continues.continues
    c.in_ok-returns.returns c.args.table.now c.loop-stmt.table c.statement.new.table target c.in_ok-step.ensures
    c.in_ok-breaks.ensures c.in_ok-continues.ensures c.in_ok-returns.ensures going

pub body_and_update-returns : goal.body_and_update-returns
body_and_update-returns t c =
    let i = inside_by c.args.inside in
    let number = (ground_by c.args.inside.setting).number in
    let n = c.args.noting in
    let f : Step = continuing (pass_all i c.args.body.now) in
    let g : Step = pass_all i c.args.update.now in
    let once = c.in_ok-once.once in
    let last = done_at number n c.body_once.new.table c.block.new.table c.in_ok-last.last g c.in_ok-start.start once.next
    c.in_ok-start.ensures c.in_ok-last.ensures in
    ended number n c.followed.result c.args.table.now c.block.new.table (exits_followed once c.in_ok-last.last)
    (seq f g c.args.state) c.followed.ensures
    (seq_done number n f g c.args.state once c.in_ok-last.last c.args.table.now c.body_once.new.table c.block.new.table
    c.in_ok-once.ensures last)

pub headed-returns : goal.headed-returns
headed-returns t c =
    let i = inside_by c.args.inside in
    let number = (ground_by c.args.inside.setting).number in
    let n = c.args.noting in
    let f : Step = pass_all i c.args.first.now in
    let g : Step = loop i (turn_by i c.args.turn) in
    let head = c.in_ok-head.head in
    let rest = done_at number n c.block.new.table c.looped.new.table c.in_ok-rest.rest g c.in_ok-start.start head.next
    c.in_ok-start.ensures c.in_ok-rest.ensures in
    ended number n c.followed.result c.args.table.now c.looped.new.table (exits_followed head c.in_ok-rest.rest)
    (seq f g c.args.state) c.followed.ensures
    (seq_done number n f g c.args.state head c.in_ok-rest.rest c.args.table.now c.block.new.table c.looped.new.table
    c.in_ok-head.ensures rest)

pub choose-returns : goal.choose-returns
choose-returns t c =
    let i = inside_by c.args.inside in
    let number = (ground_by c.args.inside.setting).number in
    let n = c.args.noting in
    let f : Step = pass_all i c.args.yes.now in
    let g : Step = pass_all i c.args.no.now in
    let a = abstracted i.ground.world.overflow c.args.cond.now in
    let x = exits_either c.in_ok-a.a c.in_ok-b.b in
    subst (λ (b : Abstract). IsPassed number c.either.result n c.args.table.now c.block-2.new.table (branch b f g c.args.state))
    (sym (value_is i c.args.cond.now))
    (ended number n c.either.result c.args.table.now c.block-2.new.table x (branch a f g c.args.state) c.either.ensures
    (branch_done number n a f g c.args.state c.in_ok-ways.ways.taken c.in_ok-ways.ways.skipped c.in_ok-a.a c.in_ok-b.b
    c.args.table.now c.conditioned.new.table c.block.new.table c.block-2.new.table c.in_ok-ways.ensures.table
    c.in_ok-ways.ensures.taken c.in_ok-ways.ensures.skipped c.in_ok-a.ensures c.in_ok-b.ensures))

pub while_turn-returns : goal.while_turn-returns
while_turn-returns t c =
    let i = inside_by c.args.inside in
    let number = (ground_by c.args.inside.setting).number in
    let n = c.args.noting in
    let f : Step = pass_all i c.args.body.now in
    let g : Step = ends Breaks in
    let a = abstracted i.ground.world.overflow c.args.cond.now in
    let x = exits_either c.in_ok-a.a c.in_ok-b.b in
    let other = nothing_done number n c.block.new.table c.in_ok-b.b (g c.in_ok-ways.ways.skipped) c.in_ok-b.ensures refl in
    subst (λ (b : Abstract). IsPassed number c.either.result n c.args.table.now c.block.new.table (branch b f g c.args.state))
    (sym (value_is i c.args.cond.now))
    (ended number n c.either.result c.args.table.now c.block.new.table x (branch a f g c.args.state) c.either.ensures
    (branch_done number n a f g c.args.state c.in_ok-ways.ways.taken c.in_ok-ways.ways.skipped c.in_ok-a.a c.in_ok-b.b
    c.args.table.now c.conditioned.new.table c.block.new.table c.block.new.table c.in_ok-ways.ensures.table
    c.in_ok-ways.ensures.taken c.in_ok-ways.ensures.skipped c.in_ok-a.ensures other))

pub do_turn-returns : goal.do_turn-returns
do_turn-returns t c =
    let i = inside_by c.args.inside in
    let number = (ground_by c.args.inside.setting).number in
    let n = c.args.noting in
    let once = c.in_ok-once.once in
    let f : Step = continuing (pass_all i c.args.body.now) in
    let yes_part : Step = ends Next in
    let no_part : Step = ends Breaks in
    let a = abstracted i.ground.world.overflow c.args.cond.now in
    let t1 = c.body_once.new.table in
    let t2 = c.conditioned.new.table in
    let x = exits_either c.ends_next-a.result c.in_ok-b.b in
    let one = nothing_done number n t2 c.ends_next-a.result (yes_part c.in_ok-ways.ways.taken) c.ends_next-a.ensures refl in
    let two = nothing_done number n t2 c.in_ok-b.b (no_part c.in_ok-ways.ways.skipped) c.in_ok-b.ensures refl in
    let both = branch_done number n a yes_part no_part once.next c.in_ok-ways.ways.taken c.in_ok-ways.ways.skipped
    c.ends_next-a.result c.in_ok-b.b t1 t2 t2 t2 c.in_ok-ways.ensures.table c.in_ok-ways.ensures.taken
    c.in_ok-ways.ensures.skipped one two in
    let test = subst (λ (b : Abstract). Done number n t1 t2 x (branch b yes_part no_part once.next))
    (sym (value_is i c.args.cond.now)) both in
    let named = subst (λ (y : Exits). Done number n t1 t2 y (condition i c.args.cond.now yes_part no_part once.next))
    (sym c.in_ok-test.ensures) test in
    ended number n c.followed.result c.args.table.now t2 (exits_followed once c.in_ok-test.test)
    (seq f (condition i c.args.cond.now yes_part no_part) c.args.state) c.followed.ensures
    (seq_done number n f (condition i c.args.cond.now yes_part no_part) c.args.state once c.in_ok-test.test
    c.args.table.now t1 t2 c.in_ok-once.ensures named)

pub looped-returns : goal.looped-returns
looped-returns t c =
    let i = inside_by c.args.inside in
    let number = (ground_by c.args.inside.setting).number in
    turning_end number c.args.noting c.either-2.result i.widening (turn_by i c.args.turn) c.unrolls-turns.result
    c.loop-number._number c.loop-number.exits c.in_ok-last.last c.in_ok-ways-2.ways.left c.loop-number.now
    c.in_ok-stable.stable c.args.table.now c.loop-number.table c.make_turn-2.new.table
    (loop i (turn_by i c.args.turn) c.args.state) c.loop-number-test.false c.in_ok-stable.ensures c.in_ok-last.ensures
    c.in_ok-ways-2.ensures.left c.either-2.ensures c.loop-number.invariant

pub stable-returns-in-Stable : goal.stable-returns-in-Stable
stable-returns-in-Stable t c =
    let i = inside_by c.args.inside in
    let f = turn_by i c.args.turn in
    stable_is i.widening f c.loop-number.number c.loop-number.now c.in-Stable.state (stable i.widening f 11 1 c.args.state)
    c.in_ok-after.after c.in_ok-state.field-0 c.loop-number-test.true c.in_ok-after.ensures c.in_ok-state.ensures
    c.in-Stable.is c.loop-number.invariant

pub stable-loop-number-preserved : goal.stable-loop-number-preserved
stable-loop-number-preserved t c =
    let i = inside_by c.args.inside in
    let f = turn_by i c.args.turn in
    wider_is i.widening f c.loop-number.number c.loop-number.now c.in-Wider.state (stable i.widening f 11 1 c.args.state)
    c.in_ok-after.after c.in_ok-state.field-0 c.loop-number-test.true c.in_ok-after.ensures c.in_ok-state.ensures
    c.in-Wider.is c.loop-number.invariant

pub stable-returns-in-Stable-2 : goal.stable-returns-in-Stable-2
stable-returns-in-Stable-2 t c =
    let i = inside_by c.args.inside in
    let f = turn_by i c.args.turn in
    stable_last i.widening f c.loop-number.number c.loop-number.now c.in-Stable-2.state (stable i.widening f 11 1 c.args.state)
    c.in_ok-after-2.after c.in_ok-state-2.field-0 c.loop-number-test.false c.in_ok-after-2.ensures
    c.in_ok-state-2.ensures c.in-Stable-2.is c.loop-number.invariant

pub stable-returns-in_ok-after-in-Wider-2 : goal.stable-returns-in_ok-after-in-Wider-2
stable-returns-in_ok-after-in-Wider-2 t c =
    let i = inside_by c.args.inside in
    let f = turn_by i c.args.turn in
    settled_last i.widening f c.settled.result c.loop-number.number c.loop-number.now c.in-Wider-2.state
    (stable i.widening f 11 1 c.args.state) c.in_ok-after-2.after c.in_ok-after-in-Wider-2.after
    c.in_ok-state-2.field-0 c.loop-number-test.false c.in_ok-after-2.ensures c.in_ok-state-2.ensures c.in-Wider-2.is
    c.in_ok-after-in-Wider-2.ensures c.settled.ensures c.loop-number.invariant

pub make_turn-returns-in_ok-state-in-While : goal.make_turn-returns-in_ok-state-in-While
make_turn-returns-in_ok-state-in-While t c =
    let i = inside_by c.args.inside in
    let g = ground_by c.args.inside.setting in
    let f : Step = condition i c.in-While.cond.now (pass_all i c.in-While.body.now) (ends Breaks) in
    subst (λ (x : Turn). IsPassed g.number c.while_turn.result c.args.noting c.args.table.now c.while_turn.new.table
    (turn_by i x c.args.state)) (sym c.in-While.is)
    (point_passed g.number c.args.noting c.while_turn.result c.args.table.now c.arrive.new.table c.while_turn.new.table
    c.in_ok-state-in-While.state (point_noted g c.in-While.point.0 None c.args.state) f c.in_ok-state-in-While.ensures c.while_turn.ensures)

pub make_turn-returns-in_ok-state-in-DoWhile : goal.make_turn-returns-in_ok-state-in-DoWhile
make_turn-returns-in_ok-state-in-DoWhile t c =
    let i = inside_by c.args.inside in
    let g = ground_by c.args.inside.setting in
    let f : Step = seq (continuing (pass_all i c.in-DoWhile.body.now)) (condition i c.in-DoWhile.cond.now (ends Next) (ends Breaks)) in
    subst (λ (x : Turn). IsPassed g.number c.do_turn.result c.args.noting c.args.table.now c.do_turn.new.table
    (turn_by i x c.args.state)) (sym c.in-DoWhile.is)
    (point_passed g.number c.args.noting c.do_turn.result c.args.table.now c.arrive-in-DoWhile.new.table c.do_turn.new.table
    c.in_ok-state-in-DoWhile.state (point_noted g c.in-DoWhile.point.0 None c.args.state) f c.in_ok-state-in-DoWhile.ensures c.do_turn.ensures)

pub make_turn-returns-in_ok-state-in-For : goal.make_turn-returns-in_ok-state-in-For
make_turn-returns-in_ok-state-in-For t c =
    let i = inside_by c.args.inside in
    let g = ground_by c.args.inside.setting in
    let f : Step = condition i c.in-For.cond.now (seq (continuing (pass_all i c.in-For.body.now)) (pass_all i c.in-For.update.now)) (ends Breaks) in
    subst (λ (x : Turn). IsPassed g.number c.tested_turn.result c.args.noting c.args.table.now c.tested_turn.new.table
    (turn_by i x c.args.state)) (sym c.in-For.is)
    (point_passed g.number c.args.noting c.tested_turn.result c.args.table.now c.arrive-in-For.new.table c.tested_turn.new.table
    c.in_ok-state-in-For.state (point_noted g c.in-For.point.0 None c.args.state) f c.in_ok-state-in-For.ensures c.tested_turn.ensures)

pub make_turn-returns-in_ok-state-in-Endless : goal.make_turn-returns-in_ok-state-in-Endless
make_turn-returns-in_ok-state-in-Endless t c =
    let i = inside_by c.args.inside in
    let g = ground_by c.args.inside.setting in
    let f : Step = condition_if i None (seq (continuing (pass_all i c.in-Endless.body.now)) (pass_all i c.in-Endless.update.now)) (ends Breaks) in
    subst (λ (x : Turn). IsPassed g.number c.endless_turn.result c.args.noting c.args.table.now c.endless_turn.new.table
    (turn_by i x c.args.state)) (sym c.in-Endless.is)
    (point_passed g.number c.args.noting c.endless_turn.result c.args.table.now c.arrive-in-Endless.new.table c.endless_turn.new.table
    c.in_ok-state-in-Endless.state (point_noted g c.in-Endless.point.0 None c.args.state) f c.in_ok-state-in-Endless.ensures c.endless_turn.ensures)

pub function-returns : goal.function-returns
function-returns t c =
    let g = ground_by c.args.setting in
    let n = c.args.noting in
    let calls = call_to g c.args.depth in
    let f = c.args.f.now in
    let first = point_done g.number n c.args.table.now c.arrive.new.table c.ends_next-entry.result c.in_ok-state.state
    (point_noted g f.entry.0 None c.args.state) c.in_ok-state.ensures c.ends_next-entry.ensures in
    let rest = done_at g.number n c.arrive.new.table c.after_entry.new.table c.in_ok-rest.rest (after_entry g calls f)
    c.in_ok-start.start c.ends_next-entry.result.next
    (c.in_ok-start.ensures ∙ sym (ap (λ (x : Exits). x.next) c.ends_next-entry.ensures)) c.in_ok-rest.ensures in
    ended g.number n c.followed.result c.args.table.now c.after_entry.new.table
    (exits_followed c.ends_next-entry.result c.in_ok-rest.rest) (function g calls f c.args.state) c.followed.ensures
    (followed_done g.number n (entry_passed g f c.args.state) (after_entry g calls f) c.ends_next-entry.result
    c.in_ok-rest.rest c.args.table.now c.arrive.new.table c.after_entry.new.table first rest)

pub after_entry-returns : goal.after_entry-returns
after_entry-returns t c =
    let g = ground_by c.args.setting in
    let n = c.args.noting in
    let calls = call_to g c.args.depth in
    let f = c.args.f.now in
    let whole : Step = body g calls f f.body in
    let exit : State → Step = λ (s : State). arrive g f.exit.0 (Some s) (ends Next) in
    let all = c.in_ok-body.body in
    let t1 = c.whole_body.new.table in
    let t2 = c.arrive.new.table in
    let at_end = point_done g.number n t1 t2 c.ends_next-exit.result c.in_ok-end-2.end
    (point_noted g f.exit.0 (Some c.in_ok-entry.entry) c.in_ok-end.end) c.in_ok-end-2.ensures c.ends_next-exit.ensures in
    let moved = done_at g.number n t1 t2 c.ends_next-exit.result (exit c.in_ok-entry.entry) c.in_ok-end.end all.next
    c.in_ok-end.ensures at_end in
    let last = subst (λ (s : State). Done g.number n t1 t2 c.ends_next-exit.result (exit s all.next))
    c.in_ok-entry.ensures moved in
    ended g.number n c.followed.result c.args.table.now t2 (exits_followed all c.ends_next-exit.result)
    (after_entry g calls f c.args.state) c.followed.ensures
    (seq_done g.number n whole (exit c.args.state) c.args.state all c.ends_next-exit.result c.args.table.now t1 t2
    c.in_ok-body.ensures last)

pub function_at-function-requires : goal.function_at-function-requires
function_at-function-requires t c =
    let funs = c.args.setting.program.now.fns in
    let deep : 0 < c.args.depth = omega (arith, c.if-depth-eq0.false) in
    let found = sym (c.in-Some.ensures.value ∙ ap (λ (p : Program). slice_get p.fns c.args.number) c.program.view_is) in (
      subst (λ (n : ℕ). measure funs (c.args.depth - 1) (weight_if c.in-Some.f.now.body + 3) < n) c.decreases
          (call_less funs c.args.depth c.args.number c.in-Some.f.now deep found),
      tt,
    )

pub function_at-returns-in-None : goal.function_at-returns-in-None
function_at-returns-in-None t c =
    let g = ground_by c.args.setting in
    let funs = c.args.setting.program.now.fns in
    let deep : 0 < c.args.depth = omega (arith, c.if-depth-eq0.false) in
    let none = sym (c.in-None.ensures.value ∙ ap (λ (p : Program). slice_get p.fns c.args.number) c.program.view_is) in
    let is = call_is g c.args.depth c.args.number c.args.state deep
    ∙ ap (λ (o : Option Fun). function_if g (call_to g (c.args.depth - 1)) o c.args.state) none in
    let x = c.ends_stopped-in-None.result in
    subst (λ (a : Passed). Done g.number c.args.noting c.args.table.now c.args.table.now x a) (sym is)
    (nothing_done g.number c.args.noting c.args.table.now x (ends Stopped c.args.state) c.ends_stopped-in-None.ensures refl)

pub function_at-returns-in-Some : goal.function_at-returns-in-Some
function_at-returns-in-Some t c =
    let g = ground_by c.args.setting in
    let funs = c.args.setting.program.now.fns in
    let deep : 0 < c.args.depth = omega (arith, c.if-depth-eq0.false) in
    let found = sym (c.in-Some.ensures.value ∙ ap (λ (p : Program). slice_get p.fns c.args.number) c.program.view_is) in
    let is = call_is g c.args.depth c.args.number c.args.state deep
    ∙ ap (λ (o : Option Fun). function_if g (call_to g (c.args.depth - 1)) o c.args.state) found in
    subst (λ (a : Passed). IsPassed g.number c.function.result c.args.noting c.args.table.now c.function.new.table a)
    (sym is) c.function.ensures

pub tested_turn-returns : goal.tested_turn-returns
tested_turn-returns t c =
    let i = inside_by c.args.inside in
    let number = (ground_by c.args.inside.setting).number in
    let n = c.args.noting in
    let f : Step = seq (continuing (pass_all i c.args.body.now)) (pass_all i c.args.update.now) in
    let g : Step = ends Breaks in
    let a = abstracted i.ground.world.overflow c.args.cond.now in
    let x = exits_either c.in_ok-a.a c.in_ok-b.b in
    let t2 = c.body_and_update.new.table in
    let other = nothing_done number n t2 c.in_ok-b.b (g c.in_ok-ways.ways.skipped) c.in_ok-b.ensures refl in
    subst (λ (b : Abstract). IsPassed number c.either.result n c.args.table.now t2 (branch b f g c.args.state))
    (sym (value_is i c.args.cond.now))
    (ended number n c.either.result c.args.table.now t2 x (branch a f g c.args.state) c.either.ensures
    (branch_done number n a f g c.args.state c.in_ok-ways.ways.taken c.in_ok-ways.ways.skipped c.in_ok-a.a c.in_ok-b.b
    c.args.table.now c.conditioned.new.table t2 t2 c.in_ok-ways.ensures.table
    c.in_ok-ways.ensures.taken c.in_ok-ways.ensures.skipped c.in_ok-a.ensures other))

pub endless_turn-returns : goal.endless_turn-returns
endless_turn-returns t c =
    let i = inside_by c.args.inside in
    let number = (ground_by c.args.inside.setting).number in
    let n = c.args.noting in
    let f : Step = seq (continuing (pass_all i c.args.body.now)) (pass_all i c.args.update.now) in
    let g : Step = ends Breaks in
    let x = exits_either c.in_ok-a.a c.in_ok-b.b in
    let t2 = c.body_and_update.new.table in
    let other = nothing_done number n t2 c.in_ok-b.b (g (unreached_state c.args.state.used))
    (c.in_ok-b.ensures ∙ ap (λ (s : State). exits_of (g s)) c.in_ok-other.ensures) refl in
    ended number n c.either.result c.args.table.now t2 x (condition_if i None f g c.args.state) c.either.ensures
    (either_done number n (f c.args.state) (g (unreached_state c.args.state.used)) c.in_ok-a.a c.in_ok-b.b
    c.args.table.now t2 t2 c.in_ok-a.ensures other)

pub whole_body-returns-in_ok-end-in-Some-2 : goal.whole_body-returns-in_ok-end-in-Some-2
whole_body-returns-in_ok-end-in-Some-2 t c =
    let g = ground_by c.args.setting in
    let n = c.args.noting in
    let calls = call_to g c.args.depth in
    let fn = c.args.f.now in
    let ss = c.in-Some.stmts in
    let i : Inside = inside_of g calls fn in
    let last : Step = at_end (is_main fn) fn.result in
    let t0 = c.args.table.now in
    let t1 = c.block.new.table in
    let all = c.in_ok-body-in-Some.body in
    let end = c.in_ok-end-in-Some-2.end in
    let one = subst (λ (w : Widening). Done g.number n t0 t1 all (pass_all (inside_with g calls w fn.result)
    c.as_slice.result.now c.args.state)) c.in_ok-widening-in-Some.ensures c.in_ok-body-in-Some.ensures in
    let two = subst (λ (xs : List Stmt). Done g.number n t0 t1 all (pass_all i xs c.args.state)) c.as_slice.ensures one in
    let ends_is = c.in_ok-end-in-Some-2.ensures ∙ ap (λ (s : State). exits_of (last s)) c.in_ok-end-in-Some.ensures in
    let z = exits_of (closed (alone all) (alone end)) in
    let whole = closing_done g.number n (pass_all i ss) last c.args.state all end z t0 t1 two ends_is
    (at_end_none (is_main fn) fn.result) refl in
    subst (λ (o : Option (List Stmt)). IsPassed g.number c.closed.result n t0 t1 (body g calls fn o c.args.state))
    (sym c.in-Some.is)
    (ended g.number n c.closed.result t0 t1 z (closing (pass_all i ss) last c.args.state) c.closed.ensures whole)

pub call-returns : goal.call-returns
call-returns t c =
    let i = inside_by c.args.inside in
    let g = ground_by c.args.inside.setting in
    let n = c.args.noting in
    let p = c.args.inside.setting.program.now in
    let k = c.args.called.function.0 in
    let u = c.in_ok-values.field-0.state in
    let w = c.in_ok-state.state in
    let v = c.in_ok-state-2.state in
    let t1 = c.arguments.new.table in
    let t2 = c.preconditions_noted.new.table in
    let callee = c.get-callee.ensures.value ∙ ap (λ (q : Program). slice_get q.fns k) c.program.view_is in
    let is = c.in_ok-state.ensures ∙ ap₂ (λ (o : Option Fun) (xs : List Value).
    record { env = written (formals_in o) xs u.env; used = u.used }) callee c.as_slice.ensures in
    let clauses = c.entry_clauses-clauses.ensures ∙ ap (entry_clauses p) callee in
    let noted = subst (λ (cs : List PointClause). (v ≡ (preconditions_noted g c.args.point.0 0 cs w).state)
    × (t2 ≡ tallied g.number n t1 (preconditions_noted g c.args.point.0 0 cs w).records)) clauses
    c.in_ok-state-2.ensures in
    call_passed g.number n i c.args.point.0 k (converted_by c.args.expr.now) (writes_of c.args.to) c.left_by_call.result
    c.args.expr.now c.args.called.args.now c.args.state c.in_ok-values.field-0.values u w v c.in_ok-body.body c.args.table.now t1 t2
    c.function_at.new.table (c.requires i.ground.world.overflow) c.in_ok-values.ensures is noted c.in_ok-body.ensures
    c.left_by_call.ensures

pub drop_value-returns-in_ok-aimed-in-Assign : goal.drop_value-returns-in_ok-aimed-in-Assign
drop_value-returns-in_ok-aimed-in-Assign t c =
    let i = inside_by c.args.inside in
    let overflow = i.ground.world.overflow in
    let to = c.get.result.now in
    let value = c.get-in-Assign.result.now in
    let by_node = ap (λ (m : Meant). m.assign)
    (meant_at overflow c.args.expr.now (N.Assign c.in-Assign.to c.in-Assign.value) c.in-Assign.is) in
    let is = by_node ∙ ap₂ (λ (x y : Expr). Some (record {
      target = (meant overflow x).target;
      value = (meant overflow y).value;
      call = (meant overflow y).call;
    })) (sym c.get.ensures) (sym c.get-in-Assign.ensures) in
    assign_passed (ground_by c.args.inside.setting).number c.args.noting i c.args.point.0 c.give.result c.args.expr.now
    to value c.args.state c.in_ok-aimed-in-Assign.aimed.state (writes_of c.in_ok-aimed-in-Assign.aimed.to) c.args.table.now
    c.aim.new.table c.give.new.table is c.in_ok-aimed-in-Assign.ensures c.give.ensures

pub drop_value-returns-in_default : goal.drop_value-returns-in_default
drop_value-returns-in_default t c =
    let i = inside_by c.args.inside in
    dropped_passed (ground_by c.args.inside.setting).number c.args.noting i c.args.point.0 c.give-in_default.result
    c.args.expr.now c.args.state c.args.table.now c.give-in_default.new.table
    (assign_none i.ground.world.overflow c.args.expr.now c.in_default.not-Assign) c.give-in_default.ensures

pub fill-loop-place-init : goal.fill-loop-place-init
fill-loop-place-init t c =
    let i = inside_by c.args.inside in
    let number = (ground_by c.args.inside.setting).number in
    let q = c.args.point.0 in
    let first = c.args.cells.0 in
    let count = c.args.cells.1 in
    let values = c.args.values.now in
    let x : Exits = record {
      next = c.args.state;
      breaks = c.nowhere-breaks.result;
      continues = c.nowhere-continues.result;
      returns = c.nowhere-returns.result;
    } in
    let f : first + 0 ≡ first = omega arith in
    let k : count - 0 ≡ count = omega arith in (
      omega arith,
      subst (λ (gs : List Step). Going number c.args.noting gs x c.args.table.now c.args.table.now
          (all_pass (filling i q first count values) c.args.state))
          (sym (ap₂ (λ (a b : ℕ). filling i q a b values) f k))
          (going_init number c.args.noting (filling i q first count values) c.args.state c.nowhere-breaks.result
          c.nowhere-continues.result c.nowhere-returns.result c.args.table.now c.nowhere-breaks.ensures
          c.nowhere-continues.ensures c.nowhere-returns.ensures),
    )

pub fill-loop-place-preserved : goal.fill-loop-place-preserved
fill-loop-place-preserved t c =
    let i = inside_by c.args.inside in
    let number = (ground_by c.args.inside.setting).number in
    let q = c.args.point.0 in
    let first = c.args.cells.0 in
    let count = c.args.cells.1 in
    let values = c.args.values.now in
    let k = c.loop-place.place in
    let e = c.index-values-place.result in
    let less : k < min (length values) count = subst (λ (m : ℕ). k < m) c.min-given.ensures c.loop-place-test.true in
    let in_values : k < length values = omega (arith, less) in
    let in_count : k < count = omega (arith, less) in
    let x : Exits = record {
      next = c.loop-place.next;
      breaks = c.loop-place.breaks;
      continues = c.loop-place.continues;
      returns = c.loop-place.returns;
    } in
    let target = all_pass (filling i q first count values) c.args.state in
    let going = subst (λ (gs : List Step). Going number c.args.noting gs x c.args.table.now c.loop-place.table target)
    (filling_step i q first count values k e c.index-values-place.is in_values in_count) c.loop-place.invariant.1 in (
      omega (arith, c.loop-place-test.true),
      going_step number c.args.noting (giving_to i q (set_cell (first + k)) e)
          (filling i q (first + (k + 1)) (count - (k + 1)) (drop (k + 1) values)) c.loop-place.next c.loop-place.breaks
          c.loop-place.continues c.loop-place.returns c.in_ok-step.step c.in_ok-breaks.breaks c.in_ok-continues.continues
          c.in_ok-returns.returns c.args.table.now c.loop-place.table c.give.new.table target c.in_ok-step.ensures
          c.in_ok-breaks.ensures c.in_ok-continues.ensures c.in_ok-returns.ensures going,
    )

pub fill-returns-then-count-values : goal.fill-returns-then-count-values
fill-returns-then-count-values t c =
    let i = inside_by c.args.inside in
    let number = (ground_by c.args.inside.setting).number in
    let q = c.args.point.0 in
    let first = c.args.cells.0 in
    let count = c.args.cells.1 in
    let values = c.args.values.now in
    let k = c.loop-place.place in
    let whole : k ≡ count = omega (
      arith,
      c.min-given.ensures,
      c.loop-place-test.false,
      c.loop-place.invariant.0,
      c.if-count-values.true,
    ) in
    let x : Exits = record {
      next = c.loop-place.next;
      breaks = c.loop-place.breaks;
      continues = c.loop-place.continues;
      returns = c.loop-place.returns;
    } in
    let target = all_pass (filling i q first count values) c.args.state in
    let going = subst (λ (gs : List Step). Going number c.args.noting gs x c.args.table.now c.loop-place.table target)
    (all_filled i q (first + k) values count k whole c.if-count-values.true) c.loop-place.invariant.1 in
    going_end number c.args.noting x c.args.table.now c.loop-place.table target going

pub fill-returns : goal.fill-returns
fill-returns t c =
    let i = inside_by c.args.inside in
    let number = (ground_by c.args.inside.setting).number in
    let q = c.args.point.0 in
    let first = c.args.cells.0 in
    let count = c.args.cells.1 in
    let values = c.args.values.now in
    let k = c.loop-place.place in
    let whole : c.min-given.result ≡ k = omega (arith, c.loop-place-test.false, c.loop-place.invariant.0) in
    let enough : length values ≤ k = omega (arith, c.min-given.ensures, whole, c.if-count-values.false) in
    let x : Exits = record {
      next = c.loop-place.next;
      breaks = c.loop-place.breaks;
      continues = c.loop-place.continues;
      returns = c.loop-place.returns;
    } in
    let target = all_pass (filling i q first count values) c.args.state in
    let h = subst (λ (m : ℕ). IfOk c.filled.result (λ y. y ≡ exits_followed x (exits_of (changes (set_cells (first + m)
    (count - m) zero_value) x.next)))) whole c.filled.ensures in
    filled_passed number c.args.noting i q c.filled.result (first + k) (count - k) k values x c.args.table.now
    c.loop-place.table target enough h c.loop-place.invariant.1

pub give-returns-in_ok-env-in-None : goal.give-returns-in_ok-env-in-None
give-returns-in_ok-env-in-None t c =
    let i = inside_by c.args.inside in
    given_done (ground_by c.args.inside.setting).number c.args.noting i c.args.point.0 (writes_of c.args.to)
    c.args.expr.now c.args.state c.in_ok-one-in-None.one.value c.in_ok-one-in-None.one.state c.in_ok-env-in-None.env
    c.ends_next.result c.args.table.now c.evaluate.new.table (c.in-None.ensures i.ground.world.overflow)
    c.in_ok-one-in-None.ensures c.in_ok-env-in-None.ensures c.ends_next.ensures

pub statement-returns-in-While : goal.statement-returns-in-While
statement-returns-in-While t c =
    let i = inside_by c.args.inside in
    let g = ground_by c.args.inside.setting in
    let p = c.in-While.point in
    let e = c.in-While.cond in
    let body = c.in-While.body in
    subst (λ (h : Step). IsPassed g.number c.looped.result c.args.noting c.args.table.now c.looped.new.table (h c.args.state))
    (sym (pass_is i c.args.stmt.now (Stmt-F.While p e body) (c.in-While.is ∙ sym (rolls-While p e body))))
    (subst (λ (xs : List Stmt). IsPassed g.number c.looped.result c.args.noting c.args.table.now c.looped.new.table
    (loop i (at_point g p (condition i e (pass_all i xs) (ends Breaks))) c.args.state)) c.as_slice-in-While.ensures
    c.looped.ensures)

pub statement-returns-in-DoWhile : goal.statement-returns-in-DoWhile
statement-returns-in-DoWhile t c =
    let i = inside_by c.args.inside in
    let g = ground_by c.args.inside.setting in
    let p = c.in-DoWhile.point in
    let e = c.in-DoWhile.cond in
    let body = c.in-DoWhile.body in
    let r = c.looped-in-DoWhile.result in
    let t1 = c.looped-in-DoWhile.new.table in
    subst (λ (h : Step). IsPassed g.number r c.args.noting c.args.table.now t1 (h c.args.state))
    (sym (pass_is i c.args.stmt.now (Stmt-F.DoWhile p body e) (c.in-DoWhile.is ∙ sym (rolls-DoWhile p body e))))
    (subst (λ (xs : List Stmt). IsPassed g.number r c.args.noting c.args.table.now t1
    (loop i (at_point g p (seq (continuing (pass_all i xs)) (condition i e (ends Next) (ends Breaks)))) c.args.state))
    c.as_slice-in-DoWhile.ensures c.looped-in-DoWhile.ensures)

pub statement-returns-in-For : goal.statement-returns-in-For
statement-returns-in-For t c =
    let i = inside_by c.args.inside in
    let g = ground_by c.args.inside.setting in
    let p = c.in-For.point in
    let hs = c.in-For.first in
    let e = c.in-For.cond in
    let bs = c.in-For.body in
    let us = c.in-For.update in
    let r = c.for_loop.result in
    let n = c.args.noting in
    let t0 = c.args.table.now in
    let t1 = c.for_loop.new.table in
    let turn : List Stmt → List Stmt → Step = λ (xs ys : List Stmt).
    loop i (at_point g p (condition_if i e (seq (continuing (pass_all i xs)) (pass_all i ys)) (ends Breaks))) in
    let one = subst (λ (xs : List Stmt). IsPassed g.number r n t0 t1 (seq (pass_all i c.as_slice-in-For.result.now)
    (turn xs c.as_slice-update.result.now) c.args.state)) c.as_slice-body.ensures c.for_loop.ensures in
    let two = subst (λ (xs : List Stmt). IsPassed g.number r n t0 t1 (seq (pass_all i c.as_slice-in-For.result.now)
    (turn bs xs) c.args.state)) c.as_slice-update.ensures one in
    let three = subst (λ (xs : List Stmt). IsPassed g.number r n t0 t1 (seq (pass_all i xs)
    (turn bs us) c.args.state)) c.as_slice-in-For.ensures two in
    subst (λ (h : Step). IsPassed g.number r n t0 t1 (h c.args.state))
    (sym (pass_is i c.args.stmt.now (Stmt-F.For hs p e bs us) (c.in-For.is ∙ sym (rolls-For hs p e bs us)))) three

pub statement-returns-in_ok-state-in-Declare : goal.statement-returns-in_ok-state-in-Declare
statement-returns-in_ok-state-in-Declare t c =
    let i = inside_by c.args.inside in
    let g = ground_by c.args.inside.setting in
    let f : Step = declaring i c.in-Declare.point.0 c.in-Declare.first (cell_count c.in-Declare.length) c.in-Declare.value in
    subst (λ (h : Step). IsPassed g.number c.declare.result c.args.noting c.args.table.now c.declare.new.table (h c.args.state))
    (sym (pass_is i c.args.stmt.now (Stmt-F.Declare c.in-Declare.point c.in-Declare.first c.in-Declare.length c.in-Declare.value) (c.in-Declare.is ∙ sym (rolls-Declare c.in-Declare.point c.in-Declare.first c.in-Declare.length c.in-Declare.value))))
    (point_passed g.number c.args.noting c.declare.result c.args.table.now c.arrive.new.table c.declare.new.table
    c.in_ok-state-in-Declare.state (point_noted g c.in-Declare.point.0 None c.args.state) f c.in_ok-state-in-Declare.ensures
    c.declare.ensures)

pub statement-returns-in_ok-state-in-Expression : goal.statement-returns-in_ok-state-in-Expression
statement-returns-in_ok-state-in-Expression t c =
    let i = inside_by c.args.inside in
    let g = ground_by c.args.inside.setting in
    let f : Step = dropping i c.in-Expression.point.0 c.in-Expression.expr in
    subst (λ (h : Step). IsPassed g.number c.drop_value.result c.args.noting c.args.table.now c.drop_value.new.table (h c.args.state))
    (sym (pass_is i c.args.stmt.now (Stmt-F.Expression c.in-Expression.point c.in-Expression.expr) (c.in-Expression.is ∙ sym (rolls-Expression c.in-Expression.point c.in-Expression.expr))))
    (point_passed g.number c.args.noting c.drop_value.result c.args.table.now c.arrive-in-Expression.new.table c.drop_value.new.table
    c.in_ok-state-in-Expression.state (point_noted g c.in-Expression.point.0 None c.args.state) f c.in_ok-state-in-Expression.ensures
    c.drop_value.ensures)

pub statement-returns-in_ok-state-in-If : goal.statement-returns-in_ok-state-in-If
statement-returns-in_ok-state-in-If t c =
    let i = inside_by c.args.inside in
    let g = ground_by c.args.inside.setting in
    let f : Step = condition i c.in-If.cond (pass_all i c.in-If.yes) (pass_all i c.in-If.no) in
    subst (λ (h : Step). IsPassed g.number c.choose.result c.args.noting c.args.table.now c.choose.new.table (h c.args.state))
    (sym (pass_is i c.args.stmt.now (Stmt-F.If c.in-If.point c.in-If.cond c.in-If.yes c.in-If.no) (c.in-If.is ∙ sym (rolls-If c.in-If.point c.in-If.cond c.in-If.yes c.in-If.no))))
    (point_passed g.number c.args.noting c.choose.result c.args.table.now c.arrive-in-If.new.table c.choose.new.table
    c.in_ok-state-in-If.state (point_noted g c.in-If.point.0 None c.args.state) f c.in_ok-state-in-If.ensures
    (subst (λ (xs : List Stmt). IsPassed g.number c.choose.result c.args.noting c.arrive-in-If.new.table c.choose.new.table
    (condition i c.in-If.cond (pass_all i c.in-If.yes) (pass_all i xs) c.in_ok-state-in-If.state)) c.as_slice-in-If-2.ensures
    (subst (λ (xs : List Stmt). IsPassed g.number c.choose.result c.args.noting c.arrive-in-If.new.table c.choose.new.table
    (condition i c.in-If.cond (pass_all i xs) (pass_all i c.as_slice-in-If-2.result.now) c.in_ok-state-in-If.state)) c.as_slice-in-If.ensures
    c.choose.ensures)))

pub statement-returns-in_ok-state-in-Return : goal.statement-returns-in_ok-state-in-Return
statement-returns-in_ok-state-in-Return t c =
    let i = inside_by c.args.inside in
    let g = ground_by c.args.inside.setting in
    let f : Step = returning i c.in-Return.point.0 c.in-Return.value in
    subst (λ (h : Step). IsPassed g.number c.leave.result c.args.noting c.args.table.now c.leave.new.table (h c.args.state))
    (sym (pass_is i c.args.stmt.now (Stmt-F.Return c.in-Return.point c.in-Return.value) (c.in-Return.is ∙ sym (rolls-Return c.in-Return.point c.in-Return.value))))
    (point_passed g.number c.args.noting c.leave.result c.args.table.now c.arrive-in-Return.new.table c.leave.new.table
    c.in_ok-state-in-Return.state (point_noted g c.in-Return.point.0 None c.args.state) f c.in_ok-state-in-Return.ensures
    c.leave.ensures)

pub statement-returns-in_ok-state-in-Empty : goal.statement-returns-in_ok-state-in-Empty
statement-returns-in_ok-state-in-Empty t c =
    let i = inside_by c.args.inside in
    let g = ground_by c.args.inside.setting in
    let p = c.in-Empty.point in
    let x = c.ends_next-in-Empty.result in
    let t0 = c.args.table.now in
    let t1 = c.arrive-in-Empty.new.table in
    let done = point_done g.number c.args.noting t0 t1 x c.in_ok-state-in-Empty.state
    (point_noted g p.0 None c.args.state) c.in_ok-state-in-Empty.ensures c.ends_next-in-Empty.ensures in
    let of : (y : Stmt-F Stmt) → c.args.stmt.now ≡ roll-Stmt y
    → Done g.number c.args.noting t0 t1 x (pass_step i (map-Stmt Stmt Step (pass i) y) c.args.state)
    → Done g.number c.args.noting t0 t1 x (pass i c.args.stmt.now c.args.state) =
    λ y is here. subst (λ (h : Step). Done g.number c.args.noting t0 t1 x (h c.args.state))
    (sym (pass_is i c.args.stmt.now y is)) here in
    elim c.in-Empty.is [
      | inl is ↦ of (Stmt-F.Empty p) (is ∙ sym (rolls-Empty p)) done
      | inr is ↦ of (Stmt-F.Clause p) (is ∙ sym (rolls-Clause p)) done
    ]

pub for_loop-returns-in-Some : goal.for_loop-returns-in-Some
for_loop-returns-in-Some t c =
    let i = inside_by c.args.inside in
    let g = ground_by c.args.inside.setting in
    subst (λ (o : Option Expr). IsPassed g.number c.headed.result c.args.noting c.args.table.now c.headed.new.table
    (seq (pass_all i c.args.first.now) (loop i (at_point g c.args.point (condition_if i o
    (seq (continuing (pass_all i c.args.body.now)) (pass_all i c.args.update.now)) (ends Breaks)))) c.args.state))
    (sym c.in-Some.is) c.headed.ensures

pub for_loop-returns-in-None : goal.for_loop-returns-in-None
for_loop-returns-in-None t c =
    let i = inside_by c.args.inside in
    let g = ground_by c.args.inside.setting in
    subst (λ (o : Option Expr). IsPassed g.number c.headed-in-None.result c.args.noting c.args.table.now
    c.headed-in-None.new.table (seq (pass_all i c.args.first.now) (loop i (at_point g c.args.point (condition_if i o
    (seq (continuing (pass_all i c.args.body.now)) (pass_all i c.args.update.now)) (ends Breaks)))) c.args.state))
    (sym c.in-None.is) c.headed-in-None.ensures

pub looped-loop-number-preserved : goal.looped-loop-number-preserved
looped-loop-number-preserved t c =
    let i = inside_by c.args.inside in
    turning_step (ground_by c.args.inside.setting).number c.args.noting i.widening (turn_by i c.args.turn)
    c.unrolls-turns.result c.loop-number._number c.loop-number.exits c.in_ok-exits.exits c.in_ok-ways.ways.left
    c.in_ok-one.one c.loop-number.now c.in_ok-ways.ways.back c.args.table.now c.loop-number.table c.make_turn.new.table
    (loop i (turn_by i c.args.turn) c.args.state) c.loop-number-test.true c.in_ok-one.ensures c.in_ok-ways.ensures.left
    c.in_ok-exits.ensures c.in_ok-ways.ensures.back c.loop-number.invariant
