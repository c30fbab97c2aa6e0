use Rattle.std.proofs.Common.{◌∙◌}
use Rattle.std.proofs.lemmas.Int.{to_z-of_z}
use Rattle.abs_cells.proofs.Crossed.{past_below}
use Rattle.abs_cells.proofs.narrowing.below.Goals as goal

pub returns-in-None : goal.returns-in-None
returns-in-None c =
    let fits = c.ranges.end in
    c.meet-in-None.ensures ∙ past_below c.args.own.now c.args.lo c.args.end c.ranges.lo c.ranges.end
    (simp to_z-of_z at c.in-None.ensures)
