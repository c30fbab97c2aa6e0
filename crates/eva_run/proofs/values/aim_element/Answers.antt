use Rattle.eva_run.specs.Code.{ground_by}
use Rattle.eva_run.proofs.Seeing.{element_is}
use Rattle.eva_run.proofs.values.aim_element.Goals as goal

pub returns : goal.returns
returns c =
    element_is c.args.setting.params.now.values c.args.index.now c.args.state
    (ground_by c.args.setting).number
    c.args.noting c.args.site c.args.first c.args.length c.in_ok-seen.seen c.as_slice.result.now
    c.met_index.result c.is_empty-is_there.result c.reached_when.result c.args.table.now
    c.note_marks.new.table c.note_index.new.table c.in_ok-seen.ensures c.as_slice.ensures
    c.in_ok-note_marks.ensures
    c.in_ok-note_index.ensures c.met_index.ensures c.is_empty-is_there.ensures c.reached_when.ensures
