use Rattle.std.proofs.Common.{ℕ, ◌<◌, get_or}
use Rattle.call_cycles.proofs.tests.are_below.Given as goal

abbrev pub invariant-loop-callee : goal.invariant-loop-callee
invariant-loop-callee l = (i : ℕ) → i < l.callee-index → get_or l.callees i 0 < l.count
