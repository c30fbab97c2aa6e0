use Rattle.std.proofs.Common.{◌∙◌, false}
use Rattle.std.proofs.lemmas.Int.{to_z-of_z}
use Rattle.int_value.proofs.Reduction.{between_empty, raised_past, lowered_past}
use Rattle.int_value.proofs.value.reduced_between.Goals as goal

pub returns-in-None : goal.returns-in-None
returns-in-None c =
    let fl = c.ranges.lo in
    c.nothing.ensures ∙ between_empty _ _ c.args.congr false (raised_past c.args.lo c.args.hi c.args.congr c.ranges.lo c.ranges.hi (simp to_z-of_z at c.in-None.ensures))

pub returns-in-None-lowered : goal.returns-in-None-lowered
returns-in-None-lowered c =
    let fh = c.ranges.hi in
    c.nothing-in-None-lowered.ensures ∙ between_empty _ _ c.args.congr false (lowered_past c.args.lo c.args.hi c.args.congr c.ranges.lo c.ranges.hi (simp to_z-of_z at c.in-None-lowered.ensures))
