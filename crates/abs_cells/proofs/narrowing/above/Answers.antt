use Rattle.std.proofs.Common.{◌∙◌}
use Rattle.std.proofs.lemmas.Int.{to_z-of_z}
use Rattle.abs_cells.proofs.Crossed.{past_above}
use Rattle.abs_cells.proofs.narrowing.above.Goals as goal

pub returns-in-None : goal.returns-in-None
returns-in-None c =
    let fits = c.ranges.end in
    c.meet-in-None.ensures ∙ past_above c.args.own.now c.args.end c.args.hi c.ranges.end c.ranges.hi
    (simp to_z-of_z at c.in-None.ensures)
