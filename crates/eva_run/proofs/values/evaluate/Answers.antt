use Rattle.eva_run.specs.Code.{ground_by}
use Rattle.eva_run.proofs.Seeing.{evaluated_is}
use Rattle.eva_run.proofs.values.evaluate.Goals as goal

pub returns : goal.returns
returns c =
    evaluated_is c.args.setting.params.now.values c.args.expr.now c.args.state
    (ground_by c.args.setting).number
    c.args.noting c.in_ok-seen.seen c.as_slice.result.now c.is_empty.result c.reached_when.result
    c.args.table.now
    c.note_marks.new.table c.in_ok-seen.ensures c.as_slice.ensures c.is_empty.ensures c.reached_when.ensures
    c.in_ok-note_marks.ensures
