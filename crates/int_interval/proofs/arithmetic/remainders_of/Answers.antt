use Rattle.std.proofs.lemmas.Int.{to_z-of_z}
use Rattle.int_interval.proofs.Cuts.{remainders_many}
use Rattle.int_interval.proofs.arithmetic.remainders_of.Goals as goal

pub returns-else-are_one-2 : goal.returns-else-are_one-2
returns-else-are_one-2 c =
    let fa = c.ranges.a in
    let fb = c.ranges.b in
    let fc = c.ranges.c in
    let fd = c.ranges.d in
    remainders_many c.args.a c.args.b c.args.c c.args.d _ _ _ (simp to_z-of_z at c.are_one.ensures) c.if-are_one.false (simp to_z-of_z at c.are_one-else-are_one.ensures) c.if-are_one-2.false
    (simp to_z-of_z at c.many_remainders.ensures)
