use Rattle.std.proofs.Common.{◌≡◌, ◌∙◌, List, ap, false, true}
use Rattle.eva_expr.specs.Conditions.{value_seen}
use Rattle.eva_rules.specs.Passing.{mark_records}
use Rattle.eva_values.specs.declared.seen.SiteMark.{SiteMark}
use Rattle.eva_run.specs.Code.{ground_by, tallied}
use Rattle.eva_run.proofs.Seeing.{marks_are, narrowed_is}
use Rattle.eva_run.proofs.values.conditioned.Goals as goal

pub returns-clause-taken : goal.returns-clause-taken
returns-clause-taken c =
    narrowed_is c.args.setting.params.now.values true c.args.cond.now c.args.state.now
    c.in_ok-_value.field-0.taken
    c.in_ok-_value.ensures.taken

pub returns-clause-skipped : goal.returns-clause-skipped
returns-clause-skipped c =
    narrowed_is c.args.setting.params.now.values false c.args.cond.now c.args.state.now
    c.in_ok-_value.field-0.skipped
    c.in_ok-_value.ensures.skipped

pub returns-clause-table : goal.returns-clause-table
returns-clause-table c =
    let seen : c.as_slice.result.now
    ≡ (value_seen c.args.setting.params.now.values c.args.cond.now c.args.state.now).marks =
    c.as_slice.ensures ∙ c.in_ok-_value.ensures.marks in
    c.in_ok-note_marks.ensures
    ∙ ap (λ (ms : List SiteMark). tallied (ground_by c.args.setting).number c.args.noting c.args.table.now
    (mark_records c.args.state.now.used ms))
    (marks_are c.args.setting.params.now.values c.args.cond.now c.args.state.now c.as_slice.result.now seen)
