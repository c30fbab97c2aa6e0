use Rattle.std.proofs.Common.{◌≤◌, ◌+◌, length, drop}
use Rattle.prop_table.specs.declared.state.Rows.{Rows}
use Rattle.prop_table.specs.Rows.{call_requires}
use Rattle.prop_table.specs.inner.Counts.{calls_count}
use Rattle.prop_table.specs.inner.Numbered.{spot_of, Adds}
use Rattle.prop_table.proofs.state.Rows.push_calls.Given as goal

-- whatever adds what is left adds all
abbrev pub invariant-loop-callee : goal.invariant-loop-callee
invariant-loop-callee l = record {
  goes : (z : Rows) → Adds l.self z (spot_of l.at) (call_requires l.program l.at.line (drop l.callee-index l.callees)) → Adds l.fn.self z (spot_of l.at) (call_requires l.program l.at.line l.callees);
  room : length l.self.rows + calls_count l.program (drop l.callee-index l.callees) ≤ 65536;
}
