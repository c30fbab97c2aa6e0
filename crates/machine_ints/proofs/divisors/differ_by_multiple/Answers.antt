use Rattle.std.proofs.Common.{◌-ℤ◌, arith}
use Rattle.std.proofs.lemmas.Int.{to_z-of_z}
use Rattle.machine_ints.proofs.Congruences.{residue-zero}
use Rattle.machine_ints.proofs.divisors.differ_by_multiple.Goals as goal

pub returns-else-modulus-eq0 : goal.returns-else-modulus-eq0
returns-else-modulus-eq0 c =
    let fl = c.ranges.left in
    let fr = c.ranges.right in
    residue-zero (c.args.left -ℤ c.args.right) c.args.modulus c.residue_of_difference.result (omega arith) (simp to_z-of_z at c.residue_of_difference.ensures.value)
