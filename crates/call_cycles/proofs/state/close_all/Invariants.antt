use Rattle.std.proofs.Common.{◌≡◌, length, drop}
use Rattle.call_cycles.specs.inner.Colours.{close}
use Rattle.call_cycles.proofs.state.close_all.Given as goal

abbrev pub invariant-loop-function : goal.invariant-loop-function
invariant-loop-function l = record {
  long : length l.colours ≡ length l.fn.colours;
  rest : close (drop l.function-index l.functions) l.colours ≡ close l.functions l.fn.colours;
}
