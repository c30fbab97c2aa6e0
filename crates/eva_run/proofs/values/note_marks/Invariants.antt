use Rattle.std.proofs.Common.{◌≡◌, drop}
use Rattle.eva_rules.specs.Passing.{mark_records}
use Rattle.eva_run.specs.Code.{ground_by, tallied}
use Rattle.eva_run.proofs.values.note_marks.Given as goal

abbrev pub invariant-loop-mark : goal.invariant-loop-mark
invariant-loop-mark l =
    tallied (ground_by l.setting).number l.noting l.table (mark_records l.used (drop l.mark-index l.marks))
    ≡ tallied (ground_by l.setting).number l.noting l.fn.table (mark_records l.used l.marks)
