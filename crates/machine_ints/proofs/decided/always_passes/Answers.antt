use Rattle.machine_ints.proofs.ByEnds.{ends_decide}
use Rattle.machine_ints.proofs.decided.always_passes.Goals as goal

pub returns : goal.returns
returns c =
    let a = c.args in
    rw c.do_ends_pass.ensures (ends_decide a.of_type.now a.width c.requires.is_type a.left.now a.right.now c.requires.left c.requires.right a.check a.operator)
