use Rattle.std.proofs.Common.{◌≡◌, ◌+◌, ◌≤◌, drop}
use Rattle.report_print.specs.Report.{count_of}
use Rattle.report_print.specs.inner.Rows.{rows_view}
use Rattle.report_print.proofs.print.count_of.Given as goal

abbrev pub invariant-loop-row : goal.invariant-loop-row
invariant-loop-row l = record {
  counted : l.count + count_of l.verdict (rows_view (drop l.row-index l.rows)) ≡ count_of l.verdict (rows_view l.rows);
  bound : l.count ≤ l.row-index;
}
