use Rattle.std.proofs.Common.{◌∙◌, sym}
use Rattle.std.proofs.lemmas.Int.{to_z-of_z}
use Rattle.abs_cells.proofs.Crossed.{both_ends}
use Rattle.abs_cells.proofs.narrowing.without.Goals as goal

pub returns-in-true-true : goal.returns-in-true-true
returns-in-true-true c =
    let lo = c.ranges.lo in
    let hi = c.ranges.hi in
    let number = c.ranges.number in
    c.meet.ensures ∙ both_ends c.args.own.now c.args.lo c.args.hi c.args.number
    (sym (simp to_z-of_z at c.in-true-true.ensures)) (sym (simp to_z-of_z at c.in-true-true.ensures'))
