use Rattle.std.proofs.Common.{arith}
use Rattle.prop_table.proofs.Numbering.{calls_step, calls_room, added_same}
use Rattle.prop_table.proofs.state.Rows.push_calls.Goals as goal

pub loop-callee-preserved : goal.loop-callee-preserved
loop-callee-preserved c = record {
  goes = λ z h. c.loop-callee.invariant.goes z (calls_step _ _ z _ c.args.program.now c.args.at.now.line c.args.callees.now c.loop-callee.callee-index c.loop-callee-test.true
      (rw c.requires_of.ensures at c.in_ok-push_call.ensures) h);
  room = omega (arith, added_same _ _ _ _ _ c.in_ok-push_call.ensures, c.requires_of.ensures, c.loop-callee.invariant.room, calls_room c.args.program.now c.args.callees.now c.loop-callee.callee-index c.loop-callee-test.true);
}
