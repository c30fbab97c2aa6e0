use Rattle.std.proofs.Common.{◌+◌, arith}
use Rattle.prop_table.proofs.Counting.{points_next}
use Rattle.prop_table.proofs.Numbering.{points_step, added_point}
use Rattle.prop_table.proofs.state.Rows.push_fn.Goals as goal

pub loop-point-preserved : goal.loop-point-preserved
loop-point-preserved c = record {
  goes = λ z h. c.loop-point.invariant.goes z (points_step _ _ z c.args.program.now c.args.function.0 c.args.fun.now c.loop-point.point (c.from-end.result + 1) c.loop-point-test.true c.in_ok-push_point.ensures h);
  room = omega (arith, added_point _ _ c.args.program.now (record { number = c.args.function.0; function = c.args.fun.now; point = c.loop-point.point }) c.in_ok-push_point.ensures, c.loop-point.invariant.room, points_next c.args.program.now c.loop-point.point (c.from-end.result + 1) c.loop-point-test.true);
}
