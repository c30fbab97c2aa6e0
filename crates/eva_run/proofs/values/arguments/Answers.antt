use Rattle.std.proofs.Common.{map}
use Rattle.eva_expr.specs.Conditions.{checks_overflow}
use Rattle.eva_values.specs.Values.{abstracted}
use Rattle.eva_run.specs.Code.{arguments, ground_by}
use Rattle.eva_run.proofs.Seeing.{args_step}
use Rattle.eva_run.proofs.values.arguments.Goals as goal

pub loop-arg-preserved : goal.loop-arg-preserved
loop-arg-preserved c =
    args_step c.args.setting.params.now.values (ground_by c.args.setting).number c.args.noting
    c.args.args.now
    c.loop-arg.arg-index c.arg-item.result c.loop-arg.now c.in_ok-one.one.state c.in_ok-one.one.value
    c.loop-arg.values
    c.push.new.self c.args.table.now c.loop-arg.table c.evaluate.new.table
    (arguments (map (abstracted (checks_overflow c.args.setting.params.now.values)) c.args.args.now)
    c.args.state)
    c.loop-arg-test.true c.arg-item.is c.in_ok-one.ensures c.in_ok-push.ensures.ok c.loop-arg.invariant
