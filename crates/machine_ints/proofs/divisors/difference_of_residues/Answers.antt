use Rattle.std.proofs.Common.{arith}
use Rattle.std.proofs.lemmas.Int.{to_z-of_z}
use Rattle.machine_ints.proofs.Residues.{residue-sub, residue-sub_over}
use Rattle.machine_ints.proofs.divisors.difference_of_residues.Goals as goal

pub returns-then-below-above-clause-value : goal.returns-then-below-above-clause-value
returns-then-below-above-clause-value c = grind (arith, to_z-of_z, residue-sub)

pub returns-else-below-above-clause-value : goal.returns-else-below-above-clause-value
returns-else-below-above-clause-value c =
    let fl = c.ranges.left in
    let fr = c.ranges.right in
    residue-sub_over _ _ _ _ _ c.requires (simp to_z-of_z at c.residue-above.ensures.value) (simp to_z-of_z at c.residue-below.ensures.value) c.if-below-above.false
