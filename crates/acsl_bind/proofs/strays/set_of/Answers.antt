use Rattle.std.specs.BTreeSet.{contains}
use Rattle.std.specs.Ordering.{nat_cmp}
use Rattle.acsl_bind.proofs.Sets.{inserted}
use Rattle.acsl_bind.proofs.strays.set_of.Goals as goal

pub loop-number-preserved : goal.loop-number-preserved
loop-number-preserved c = λ n.
    inserted c.args.numbers.now c.loop-number.number-index n (contains nat_cmp c.loop-number.set n) (contains nat_cmp c.insert.new.self n) _ c.loop-number-test.true (c.in_ok-insert.ensures.updates.0 n) (c.loop-number.invariant n)
