use Rattle.std.proofs.Common.{◌∙◌}
use Rattle.std.proofs.lemmas.Int.{to_z-of_z}
use Rattle.int_interval.proofs.Cuts.{corner_four}
use Rattle.int_interval.proofs.arithmetic.products.Goals as goal

pub returns : goal.returns
returns c =
    let fa = c.ranges.a in
    let fb = c.ranges.b in
    let fc = c.ranges.c in
    let fd = c.ranges.d in
    c.corners.ensures ∙ corner_four _ c.args.a c.args.b c.args.c c.args.d _ _ _ _ (simp to_z-of_z at c.product.ensures) (simp to_z-of_z at c.product-2.ensures)
    (simp to_z-of_z at c.product-3.ensures) (simp to_z-of_z at c.product-4.ensures)
