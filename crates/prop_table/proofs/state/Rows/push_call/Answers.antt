use Rattle.std.proofs.Common.{arith}
use Rattle.prop_table.proofs.Numbering.{number_step}
use Rattle.prop_table.proofs.state.Rows.push_call.Goals as goal

pub loop-number-preserved : goal.loop-number-preserved
loop-number-preserved c = record {
  goes = λ z h. c.loop-number.invariant.goes z (number_step _ _ z _ _ c.loop-number._number c.args.count c.loop-number-test.true c.in_ok-push.ensures h);
  room = omega (arith, c.in_ok-push.ensures.longer, c.loop-number.invariant.room, c.loop-number-test.true);
}
