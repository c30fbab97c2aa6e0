use Rattle.std.proofs.Common.{◌+◌, arith, length-drop}
use Rattle.prop_table.proofs.Numbering.{clauses_step}
use Rattle.prop_table.proofs.state.Rows.push_clauses.Goals as goal

pub loop-clause-preserved : goal.loop-clause-preserved
loop-clause-preserved c = record {
  goes = λ z h. c.loop-clause.invariant.goes z (clauses_step _ _ z _ c.args.clauses.now c.loop-clause.clause-index c.clause-item.result c.loop-clause-test.true c.clause-item.is
      (rw c.as_str.ensures.value at c.in_ok-push.ensures) h);
  room = omega (arith, c.in_ok-push.ensures.longer, c.loop-clause.invariant.room, length-drop c.loop-clause.clause-index c.args.clauses.now, length-drop (c.loop-clause.clause-index + 1) c.args.clauses.now, c.loop-clause-test.true);
}
