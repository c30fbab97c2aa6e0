use Rattle.std.proofs.Common.{ℕ, ◌<◌, length}
use Rattle.call_cycles.specs.Calls.{Calls}
use Rattle.call_cycles.proofs.tests.is_in_range.Given as goal

abbrev pub invariant-loop-function : goal.invariant-loop-function
invariant-loop-function l = (f : ℕ) → f < l.function → (c : ℕ) → Calls l.calls f c → c < length l.calls
