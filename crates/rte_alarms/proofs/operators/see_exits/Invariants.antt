use Rattle.std.proofs.Common.{drop, ◌≤◌, ◌^◌}
use Rattle.rte_alarms.specs.inner.Sites.{exits_top}
use Rattle.rte_alarms.proofs.operators.see_exits.Given as goal

-- if what is left fits, all fits
abbrev pub invariant-loop-f : goal.invariant-loop-f
invariant-loop-f l = exits_top (drop l.f-index l.fns) ≤ 2 ^ 32 → exits_top l.fns ≤ 2 ^ 32
