use Rattle.eva_run.proofs.Sames.{converted_cast, converted_none}
use Rattle.eva_run.proofs.values.+converted_by.Goals as goal

pub returns : goal.returns
returns t c =
    converted_cast c.args.expr.now c.in-Cast.of c.get.result.now c.args.value c.converted_by.result
    c.converted.result c.in-Cast.is c.get.ensures c.converted_by.ensures c.converted.ensures

pub returns-in_default : goal.returns-in_default
returns-in_default t c = converted_none c.args.expr.now c.args.value c.in_default.not-Cast
