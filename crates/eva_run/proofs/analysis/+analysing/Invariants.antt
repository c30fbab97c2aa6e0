use Rattle.std.proofs.Common.{◌≡◌, ◌+◌, ◌-◌, ◌*◌, ◌≤◌, map, drop, min, length}
use Rattle.eva_rules.specs.Passing as passing
use Rattle.eva_rules.specs.Statements.{filling, loop, pass, pass_all}
use Rattle.eva_run.specs.Code.{ground_by, inside_by, turn_by}
use Rattle.eva_run.proofs.Steps.{Going, Turning}
use Rattle.eva_run.proofs.Weights.{measure, weight, weight_all, weight_if, turn_weight}
use Rattle.eva_run.proofs.analysis.+analysing.Given as goal

abbrev pub decreases-after_entry : goal.decreases-after_entry
decreases-after_entry l = measure l.setting.program.now.fns l.depth (weight_if l.f.now.body + 2)

abbrev pub decreases-block : goal.decreases-block
decreases-block l = measure l.inside.setting.program.now.fns l.inside.depth (weight_all l.body.now)

abbrev pub decreases-body_and_update : goal.decreases-body_and_update
decreases-body_and_update l =
    measure l.inside.setting.program.now.fns l.inside.depth (weight_all l.body.now + weight_all l.update.now + 2)

abbrev pub decreases-body_once : goal.decreases-body_once
decreases-body_once l = measure l.inside.setting.program.now.fns l.inside.depth (weight_all l.body.now + 1)

abbrev pub decreases-call : goal.decreases-call
decreases-call l = measure l.inside.setting.program.now.fns l.inside.depth 1

abbrev pub decreases-choose : goal.decreases-choose
decreases-choose l =
    measure l.inside.setting.program.now.fns l.inside.depth (weight_all l.yes.now + weight_all l.no.now + 1)

abbrev pub decreases-declare : goal.decreases-declare
decreases-declare l = measure l.inside.setting.program.now.fns l.inside.depth 4

abbrev pub decreases-do_turn : goal.decreases-do_turn
decreases-do_turn l = measure l.inside.setting.program.now.fns l.inside.depth (weight_all l.body.now + 3)

abbrev pub decreases-drop_value : goal.decreases-drop_value
decreases-drop_value l = measure l.inside.setting.program.now.fns l.inside.depth 3

abbrev pub decreases-fill : goal.decreases-fill
decreases-fill l = measure l.inside.setting.program.now.fns l.inside.depth 3

abbrev pub decreases-for_loop : goal.decreases-for_loop
decreases-for_loop l =
    measure l.inside.setting.program.now.fns l.inside.depth
    (weight_all l.first.now + (weight_all l.body.now + weight_all l.update.now) + 9)

abbrev pub decreases-tested_turn : goal.decreases-tested_turn
decreases-tested_turn l =
    measure l.inside.setting.program.now.fns l.inside.depth (weight_all l.body.now + weight_all l.update.now + 3)

abbrev pub decreases-endless_turn : goal.decreases-endless_turn
decreases-endless_turn l =
    measure l.inside.setting.program.now.fns l.inside.depth (weight_all l.body.now + weight_all l.update.now + 3)

abbrev pub decreases-function : goal.decreases-function
decreases-function l = measure l.setting.program.now.fns l.depth (weight_if l.f.now.body + 3)

abbrev pub decreases-function_at : goal.decreases-function_at
decreases-function_at l = measure l.setting.program.now.fns l.depth 0

abbrev pub decreases-give : goal.decreases-give
decreases-give l = measure l.inside.setting.program.now.fns l.inside.depth 2

abbrev pub decreases-headed : goal.decreases-headed
decreases-headed l =
    measure l.inside.setting.program.now.fns l.inside.depth (weight_all l.first.now + turn_weight l.turn + 8)

abbrev pub decreases-leave : goal.decreases-leave
decreases-leave l = measure l.inside.setting.program.now.fns l.inside.depth 3

abbrev pub decreases-looped : goal.decreases-looped
decreases-looped l = measure l.inside.setting.program.now.fns l.inside.depth (turn_weight l.turn + 7)

abbrev pub decreases-make_turn : goal.decreases-make_turn
decreases-make_turn l = measure l.inside.setting.program.now.fns l.inside.depth (turn_weight l.turn + 4)

abbrev pub decreases-next_turn : goal.decreases-next_turn
decreases-next_turn l = measure l.inside.setting.program.now.fns l.inside.depth (turn_weight l.turn + 5)

abbrev pub decreases-stable : goal.decreases-stable
decreases-stable l = measure l.inside.setting.program.now.fns l.inside.depth (turn_weight l.turn + 6)

abbrev pub decreases-statement : goal.decreases-statement
decreases-statement l = measure l.inside.setting.program.now.fns l.inside.depth (weight l.stmt.now)

abbrev pub decreases-while_turn : goal.decreases-while_turn
decreases-while_turn l = measure l.inside.setting.program.now.fns l.inside.depth (weight_all l.body.now + 3)

abbrev pub decreases-whole_body : goal.decreases-whole_body
decreases-whole_body l = measure l.setting.program.now.fns l.depth (weight_if l.f.now.body + 1)

abbrev pub invariant-block-loop-stmt : goal.invariant-block-loop-stmt
invariant-block-loop-stmt l =
    let i = inside_by l.inside in
    Going (ground_by l.inside.setting).number l.noting (map (pass i) (drop l.stmt-index l.body))
    (record { next = l.next; breaks = l.breaks; continues = l.continues; returns = l.returns }) l.fn.table l.table
    (pass_all i l.body l.fn.state)

abbrev pub invariant-fill-loop-place : goal.invariant-fill-loop-place
invariant-fill-loop-place l =
    let i = inside_by l.inside in
    (l.place ≤ l.given)
    × Going (ground_by l.inside.setting).number l.noting
    (filling i l.point.0 (l.first + l.place) (l.count - l.place) (drop l.place l.values))
    (record { next = l.next; breaks = l.breaks; continues = l.continues; returns = l.returns }) l.fn.table l.table
    (passing.all_pass (filling i l.point.0 l.first l.count l.values) l.fn.state)

abbrev pub invariant-looped-loop-number : goal.invariant-looped-loop-number
invariant-looped-loop-number l =
    let i = inside_by l.inside in
    Turning (ground_by l.inside.setting).number l.noting i.widening (turn_by i l.turn) (l.turns - l._number) l.exits l.now
    l.fn.table l.table (loop i (turn_by i l.turn) l.fn.state)

abbrev pub invariant-stable-loop-number : goal.invariant-stable-loop-number
invariant-stable-loop-number l =
    let i = inside_by l.inside in
    passing.stable i.widening (turn_by i l.turn) (12 - l.number) l.number l.now
    ≡ passing.stable i.widening (turn_by i l.turn) 11 1 l.fn.state
