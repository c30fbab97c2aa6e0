use Rattle.std.proofs.Common.{◌≡◌}
use Rattle.large_stack.proofs.fn.on_large_stack.scope.Given as goal

-- a stack that can't be had gives the closure back
abbrev pub invariant-loop-size : goal.invariant-loop-size
invariant-loop-size g l = l.f ≡ l.initial.f
