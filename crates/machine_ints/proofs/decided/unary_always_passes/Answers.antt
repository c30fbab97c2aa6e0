use Rattle.machine_ints.proofs.ByEnds.{unary_ends_decide}
use Rattle.machine_ints.proofs.decided.unary_always_passes.Goals as goal

pub returns : goal.returns
returns c =
    let a = c.args in
    rw c.do_unary_ends_fit.ensures (unary_ends_decide a.of_type.now a.width c.requires.is_type a.operator a.operand.now c.requires.operand)
