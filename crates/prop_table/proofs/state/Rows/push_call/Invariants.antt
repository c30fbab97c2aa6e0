use Rattle.std.proofs.Common.{◌≤◌, ◌+◌, ◌-◌, length, replicate}
use Rattle.std.specs.Prelude.{None}
use Rattle.c_ir.specs.declared.kind.Kind.TheVariants as K
use Rattle.prop_table.specs.declared.state.Rows.{Rows}
use Rattle.prop_table.specs.Rows.{plain}
use Rattle.prop_table.specs.inner.Numbered.{spot_of, Adds}
use Rattle.prop_table.proofs.state.Rows.push_call.Given as goal

-- whatever adds what is left adds all
abbrev pub invariant-loop-number : goal.invariant-loop-number
invariant-loop-number l = record {
  goes : (z : Rows) → Adds l.self z (spot_of l.at) (replicate (l.count - l._number) (plain K.CallRequires l.at.line None)) → Adds l.fn.self z (spot_of l.at) (replicate l.count (plain K.CallRequires l.at.line None));
  room : length l.self.rows + (l.count - l._number) ≤ 65536;
}
