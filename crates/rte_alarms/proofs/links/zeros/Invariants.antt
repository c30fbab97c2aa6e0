use Rattle.std.proofs.Common.{◌≡◌, replicate}
use Rattle.rte_alarms.proofs.links.zeros.Given as goal

abbrev pub invariant-loop-number : goal.invariant-loop-number
invariant-loop-number l = l.all.items ≡ replicate l._number 0
