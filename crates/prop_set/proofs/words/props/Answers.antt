use Rattle.std.proofs.Common.{sym, ◌∙◌, arith}
use Rattle.prop_set.proofs.Counts.{props_start, props_step, props_end}
use Rattle.prop_set.proofs.words.props.Goals as goal

pub loop-number-init : goal.loop-number-init
loop-number-init c = rw c.new-props.ensures (props_start c.args.words.now)

pub loop-number-preserved : goal.loop-number-preserved
loop-number-preserved c =
    let step = props_step c.args.words.now c.loop-number.props c.loop-number.number (omega arith) in
    rw (c.in_ok-push_if.ensures, c.bit-is_member.ensures) (step ∙ c.loop-number.invariant)

pub returns : goal.returns
returns c =
    let end = props_end c.args.words.now c.loop-number.props c.loop-number.number (omega arith) in
    sym end ∙ c.loop-number.invariant
