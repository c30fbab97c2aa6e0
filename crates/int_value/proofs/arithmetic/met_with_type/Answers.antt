use Rattle.std.proofs.Common.{sym, ◌∙◌}
use Rattle.int_value.proofs.Included.{met_stable}
use Rattle.int_value.proofs.arithmetic.met_with_type.Goals as goal

pub returns-then-included : goal.returns-then-included
returns-then-included c =
    let test = rw c.range_of_type.ensures at c.included.ensures in
    met_stable c.args.shape.now c.args.exact.now c.requires (sym test ∙ c.if-included.true)
