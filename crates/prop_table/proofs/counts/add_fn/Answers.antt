use Rattle.std.proofs.Common.{arith, ◌∙◌}
use Rattle.prop_table.proofs.Counting.{count_step, count_all}
use Rattle.prop_table.proofs.counts.add_fn.Goals as goal

pub loop-point-preserved : goal.loop-point-preserved
loop-point-preserved c = record {
  sum = rw c.add_point-total.ensures (count_step c.args.program.now c.loop-point.total c.loop-point.point _ c.loop-point-test.true ∙ c.loop-point.invariant.sum);
  fits = omega (arith, c.add_point-total.ensures);
}

pub returns : goal.returns
returns c = count_all c.args.program.now c.args.f.now c.loop-point.total c.args.total c.loop-point.point _ c.loop-point-test.false c.loop-point.invariant.fits c.loop-point.invariant.sum
