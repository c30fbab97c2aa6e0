use Rattle.std.proofs.Common.{ap, ◌∙◌}
use Rattle.event_board.specs.inner.Rows.{rows}
use Rattle.event_board.proofs.Numbers.{rows_once}
use Rattle.event_board.proofs.page.fetched.Goals as goal

pub page-requires : goal.page-requires
page-requires c = record {
  once = rows_once c.args.verdicts.now (rows c.deref.result.now) (ap rows c.deref.ensures.value ∙ c.in_ok-table.ensures);
}
