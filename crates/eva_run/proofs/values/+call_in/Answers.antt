use Rattle.eva_run.proofs.Sames.{call_cast, call_known, call_none}
use Rattle.eva_run.proofs.values.+call_in.Goals as goal

pub returns-in-Call : goal.returns-in-Call
returns-in-Call t c overflow =
    call_known overflow c.args.expr.now c.in-Call.function c.in-Call.args c.as_slice.result.now c.in-Call.is
    c.as_slice.ensures

pub returns-in-Cast : goal.returns-in-Cast
returns-in-Cast t c overflow =
    call_cast overflow c.args.expr.now c.in-Cast.of c.get.result.now c.call_in.result c.in-Cast.is
    c.get.ensures
    (c.call_in.ensures overflow)

pub returns-in-Literal : goal.returns-in-Literal
returns-in-Literal t c overflow = call_none overflow c.args.expr.now c.in-Literal.is
