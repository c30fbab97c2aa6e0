use Rattle.std.proofs.Common.{ℤ, Option, subst, sym, ◌∙◌}
use Rattle.std.specs.Prelude.{IfSome}
use Rattle.std.proofs.lemmas.Int.{to_z-of_z}
use Rattle.c_rules.proofs.Evaluations.{IsShort, checked_short}
use Rattle.c_rules.proofs.constants.operated.Goals as goal

pub returns-then-are_operands-clause-bound : goal.returns-then-are_operands-clause-bound
returns-then-are_operands-clause-bound c =
    let fl = c.ranges.left in
    let fr = c.ranges.right in
    subst (λ (o : Option ℤ). IfSome o IsShort) (sym (simp to_z-of_z at c.checked.ensures))
    (checked_short c.args.op c.args.ty c.args.left c.args.right (sym (simp to_z-of_z at c.are_operands.ensures) ∙ c.if-are_operands.true))
