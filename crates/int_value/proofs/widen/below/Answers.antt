use Rattle.std.proofs.Common.{◌∙◌, ap, fold, arith}
use Rattle.std.proofs.lemmas.Int.{to_z-of_z}
use Rattle.std.proofs.lemmas.List.{take_all}
use Rattle.std.proofs.lemmas.List.Sums.{fold_more}
use Rattle.int_value.proofs.Thresholds.{fold-filter}
use Rattle.int_value.proofs.widen.below.Goals as goal

pub seeking-preserved : goal.seeking-preserved
seeking-preserved c = grind (arith, to_z-of_z, fold_more)

pub returns : goal.returns
returns c =
    let fx = c.ranges.lo in
    let fe = c.ranges.bottom in
    let kept = simp to_z-of_z at c.seeking.invariant in
    kept ∙ ap (fold _ _) (take_all _ _ c.seeking-test.false) ∙ fold-filter _ _ _ c.args.thresholds.now
