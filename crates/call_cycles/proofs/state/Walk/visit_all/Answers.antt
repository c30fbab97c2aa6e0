use Rattle.std.proofs.Common.{length, ap, arith}
use Rattle.call_cycles.proofs.Firsts.{firsts-none, good-fresh_by, fresh-first, first-found_by}
use Rattle.call_cycles.proofs.state.Walk.visit_all.Goals as goal

pub loop-function-init : goal.loop-function-init
loop-function-init c = record {
  good = good-fresh_by _ _ _ c.requires.stack c.requires.colours;
  empty = ap length c.requires.stack;
  first = firsts-none _ _ _ (fresh-first c.args.calls.now _ c.requires.first);
  visited = λ x l. absurd (omega arith);
}

pub returns : goal.returns
returns c =
    first-found_by c.args.calls.now c.requires.range _ _ _ _ c.requires.colours c.requires.first c.loop-function.invariant.first (λ x l. c.loop-function.invariant.visited x (omega arith))
