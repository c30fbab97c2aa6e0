use Rattle.std.proofs.Common.{arith}
use Rattle.c_typing.proofs.Puts.{one_cell, one_fewer}
use Rattle.c_typing.proofs.function.cells_from.Goals as goal

pub loop-ty-preserved : goal.loop-ty-preserved
loop-ty-preserved c =
    let l = c.loop-ty in
    let fewer = one_fewer c.args.types.now l._ty-index c.loop-ty-test.true in
    let fits = l.invariant.cell in
    record {
      goes = one_cell c.args.types.now l._ty-index l.cell l.cells _ _ c.loop-ty-test.true c.in_ok-push.ensures.ok l.invariant.goes;
      cell = omega (arith, fewer, fits);
    }
