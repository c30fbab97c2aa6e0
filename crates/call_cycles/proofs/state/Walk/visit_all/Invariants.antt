use Rattle.std.proofs.Common.{◌≡◌, ◌<◌, ℕ, false, length}
use Rattle.call_cycles.specs.inner.Colours.{new_at}
use Rattle.call_cycles.specs.inner.Walk.{Good, Firsts}
use Rattle.call_cycles.proofs.state.Walk.visit_all.Given as goal

abbrev pub invariant-loop-function : goal.invariant-loop-function
invariant-loop-function l = record {
  good : Good l.calls l.self.stack.items l.self.colours.items;
  empty : length l.self.stack.items ≡ 0;
  first : Firsts l.calls l.fn.self.colours.items l.fn.self.first l.self.colours.items l.self.first;
  visited : (x : ℕ) → x < l.function → new_at l.self.colours.items x ≡ false;
}
