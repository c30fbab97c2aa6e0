use Rattle.std.proofs.Common.{◌≡◌, ◌++◌, drop}
use Rattle.report_print.specs.Report.{printed}
use Rattle.report_print.specs.inner.Rows.{rows_view}
use Rattle.report_print.proofs.print.printed_rows.Given as goal

abbrev pub invariant-loop-index : goal.invariant-loop-index
invariant-loop-index l =
    rows_view l.rows.items ++ printed l.points (drop l.index l.props) (drop l.index l.verdicts) ≡ printed l.points l.props l.verdicts
