use Rattle.std.proofs.Common.{◌≡◌, ◌≤◌, ◌+◌, drop, length}
use Rattle.prop_table.specs.Points.{requires_among}
use Rattle.prop_table.proofs.preconditions.count_among.Given as goal

abbrev pub invariant-loop-clause : goal.invariant-loop-clause
invariant-loop-clause l = record {
  count : l.count + length (requires_among (drop l.clause-index l.clauses)) ≡ length (requires_among l.clauses);
  few : l.count ≤ l.clause-index;
}
