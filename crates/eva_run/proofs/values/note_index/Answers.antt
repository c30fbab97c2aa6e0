use Rattle.std.proofs.Common.{◌∙◌, ◌-ℤ◌, ℤ, ap, pos}
use Rattle.int_value.specs.Checks.{within_said}
use Rattle.eva_run.specs.Code.{ground_by}
use Rattle.eva_run.proofs.Sames.{last_index}
use Rattle.eva_run.proofs.Tallying.{index_noted}
use Rattle.eva_run.proofs.values.note_index.Goals as goal

pub returns-in-Some : goal.returns-in-Some
returns-in-Some c =
    index_noted c.note.result (ground_by c.args.setting).number c.args.noting c.args.used.now c.args.site
    c.in-Some.site
    (within_said (pos 0) (pos c.args.length -ℤ pos 1) c.args.index.now.range) c.within-said.result
    c.check-number.result c.args.table.now c.note.new.table c.in-Some.is (c.within-said.ensures
    ∙ ap (λ (z : ℤ). within_said (pos 0) z c.args.index.now.range)
    (last_index c.args.length c.from.result c.ranges.length.fits c.from.ensures)) c.check-number.ensures
    c.note.ensures
