use Rattle.std.proofs.Common.{◌∙◌}
use Rattle.eva_run.specs.Code.{ground_by}
use Rattle.eva_run.proofs.Tallying.{marks_step}
use Rattle.eva_run.proofs.values.note_marks.Goals as goal

pub loop-mark-preserved : goal.loop-mark-preserved
loop-mark-preserved c =
    marks_step (ground_by c.args.setting).number c.args.noting c.args.used.now c.args.marks.now
    c.loop-mark.mark-index _
    c.check-number.result c.loop-mark.table c.note.new.table c.loop-mark-test.true c.check-number.ensures
    (c.in_ok-note.ensures (ground_by c.args.setting).number)
    ∙ c.loop-mark.invariant
