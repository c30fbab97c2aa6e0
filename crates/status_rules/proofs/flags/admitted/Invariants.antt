use Rattle.std.proofs.Common.{◌≡◌, ◌++◌, map, drop}
use Rattle.param_book.specs.Table.{entry_function, run_values}
use Rattle.c_ir.specs.Table.{row_admitted}
use Rattle.status_rules.proofs.flags.admitted.Given as goal

abbrev pub invariant-loop-row : goal.invariant-loop-row
invariant-loop-row l = record {
  done : l.flags.items ++ map (row_admitted l.props (entry_function (run_values l.values))) (drop l.row-index l.row-items) ≡ map (row_admitted l.props (entry_function (run_values l.values))) l.row-items;
  items : l.row-items ≡ l.props.rows;
}
