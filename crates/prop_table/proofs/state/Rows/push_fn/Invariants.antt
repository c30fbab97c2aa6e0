use Rattle.std.proofs.Common.{◌≤◌, ◌+◌, ◌-◌, length}
use Rattle.prop_table.specs.declared.state.Rows.{Rows}
use Rattle.prop_table.specs.Rows.{points_rows, fn_rows}
use Rattle.prop_table.specs.inner.Counts.{points_count}
use Rattle.prop_table.specs.inner.Numbered.{AddsRows}
use Rattle.prop_table.proofs.state.Rows.push_fn.Given as goal

-- whatever adds what is left adds all
abbrev pub invariant-loop-point : goal.invariant-loop-point
invariant-loop-point l = record {
  goes : (z : Rows) → AddsRows l.self z (points_rows l.program l.function.0 l.fun l.point (l.end - l.point)) → AddsRows l.fn.self z (fn_rows l.program l.function.0 l.fun);
  room : length l.self.rows + points_count l.program l.point (l.end - l.point) ≤ 65536;
}
