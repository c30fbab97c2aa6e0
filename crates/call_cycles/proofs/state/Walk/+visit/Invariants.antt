use Rattle.std.proofs.Common.{◌+◌, ◌*◌}
use Rattle.call_cycles.specs.inner.Colours.{unvisited}
use Rattle.call_cycles.specs.inner.Walk.{SoFar, Firsts}
use Rattle.call_cycles.proofs.state.Walk.+visit.Given as goal

abbrev pub decreases-visit : goal.decreases-visit
decreases-visit l = 2 * unvisited l.self.now.colours.items

abbrev pub decreases-visit_callees : goal.decreases-visit_callees
decreases-visit_callees l = 2 * unvisited l.self.now.colours.items + 1

abbrev pub invariant-visit_callees-loop-callee : goal.invariant-visit_callees-loop-callee
invariant-visit_callees-loop-callee l = record {
  walked : SoFar l.calls l.fn.self.stack.items l.fn.self.colours.items l.function l.callee-index l.low l.self.stack.items l.self.colours.items;
  first : Firsts l.calls l.fn.self.colours.items l.fn.self.first l.self.colours.items l.self.first;
}
