use Rattle.std.proofs.Common.{◌≡◌, ◌++◌, drop}
use Rattle.report_print.specs.Report.{counts_text}
use Rattle.report_print.specs.inner.Rows.{rows_view}
use Rattle.report_print.proofs.print.push_counts.Given as goal

abbrev pub invariant-loop-verdict : goal.invariant-loop-verdict
invariant-loop-verdict l =
    l.text.items ++ counts_text (rows_view l.rows) (drop l.verdict-index l.verdicts)
    ≡ l.fn.text.items ++ counts_text (rows_view l.rows) l.verdicts
