use Rattle.std.proofs.Common.{drop, map}
use Rattle.eva_expr.specs.Conditions.{checks_overflow}
use Rattle.eva_values.specs.Values.{abstracted}
use Rattle.eva_run.specs.Code.{arguments, ground_by}
use Rattle.eva_run.proofs.Seeing.{ArgsGo}
use Rattle.eva_run.proofs.values.arguments.Given as goal

abbrev pub invariant-loop-arg : goal.invariant-loop-arg
invariant-loop-arg l =
    ArgsGo (ground_by l.setting).number l.noting l.fn.table
    (arguments (map (abstracted (checks_overflow l.setting.params.now.values)) l.args) l.fn.state) l.values
    l.table
    (arguments (map (abstracted (checks_overflow l.setting.params.now.values)) (drop l.arg-index l.args))
    l.now)
