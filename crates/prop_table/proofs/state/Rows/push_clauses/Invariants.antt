use Rattle.std.proofs.Common.{◌≤◌, ◌+◌, length, drop, map}
use Rattle.prop_table.specs.declared.state.Rows.{Rows}
use Rattle.prop_table.specs.Rows.{of_clause}
use Rattle.prop_table.specs.inner.Numbered.{spot_of, Adds}
use Rattle.prop_table.proofs.state.Rows.push_clauses.Given as goal

-- whatever adds what is left adds all
abbrev pub invariant-loop-clause : goal.invariant-loop-clause
invariant-loop-clause l = record {
  goes : (z : Rows) → Adds l.self z (spot_of l.at) (map of_clause (drop l.clause-index l.clauses)) → Adds l.fn.self z (spot_of l.at) (map of_clause l.clauses);
  room : length l.self.rows + length (drop l.clause-index l.clauses) ≤ 65536;
}
