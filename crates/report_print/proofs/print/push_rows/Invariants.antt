use Rattle.std.proofs.Common.{◌≡◌, ◌++◌, drop}
use Rattle.report_print.specs.Report.{rows_text}
use Rattle.report_print.specs.inner.Rows.{rows_view}
use Rattle.report_print.proofs.print.push_rows.Given as goal

abbrev pub invariant-loop-row : goal.invariant-loop-row
invariant-loop-row l = l.text.items ++ rows_text (rows_view (drop l.row-index l.rows)) ≡ l.fn.text.items ++ rows_text (rows_view l.rows)
