use Rattle.std.proofs.Common.{◌≡◌, ◌≤◌, ◌+◌, length, drop}
use Rattle.prop_table.specs.declared.state.Rows.{Rows}
use Rattle.prop_table.specs.Rows.{fns_rows, numbered}
use Rattle.prop_table.specs.inner.Counts.{fns_count}
use Rattle.prop_table.specs.inner.Numbered.{AddsRows}
use Rattle.prop_table.proofs.rows.rows_of.Given as goal

-- whatever adds what is left has all
abbrev pub invariant-loop-number : goal.invariant-loop-number
invariant-loop-number l = record {
  goes : (z : Rows) → AddsRows l.all z (fns_rows l.program l.number (drop l.number l.fns)) → z.rows ≡ numbered 0 (fns_rows l.program 0 l.program.fns);
  room : length l.all.rows + fns_count l.program (drop l.number l.fns) ≤ 65536;
}
