use Rattle.std.proofs.Common.{ℕ, List, length, ap, subst, ◌∙◌, arith}
use Rattle.event_board.specs.Numbered.{rows_from}
use Rattle.status_rules.specs.Fetch.{IsFetched, IsPage, Row, rows_of}
use Rattle.status_rules.proofs.Each.{length-at_each}
use Rattle.status_core.specs.Held.{Held}
use Rattle.status_core.specs.inner.Rows.{row_of}
use Rattle.status_core.proofs.Written.{fetch_rows}
use Rattle.status_core.proofs.table.Table.changed_since.Goals as goal

pub fetched-requires : goal.fetched-requires
fetched-requires c =
    let s = c.self.inside in
    omega (arith, ap length (c.as_slice.ensures ∙ c.self.invariant.rows_are), length-at_each (row_of s.history s.props.now) 0 s.props.now.rows, c.len-count.ensures.value, c.len-count.ensures.bound)

pub returns : goal.returns
returns c =
    let s = c.self.inside in
    let rows = ap (rows_from 0) (c.as_slice.ensures ∙ c.self.invariant.rows_are) ∙ fetch_rows s.history s.props.now in
    let by_rows = subst (λ (rs : List Row). IsPage rs c.len-len.result c.args.cursor c.args.limit c.in_ok-found.found) rows c.in_ok-found.ensures in
    let by_len = subst (λ (n : ℕ). IsPage (rows_of s.history s.props.now) n c.args.cursor c.args.limit c.in_ok-found.found) c.len-len.ensures by_rows in
    subst (λ (b : Held). IsFetched b.history b.props c.args.cursor c.args.limit c.in_ok-found.found) c.self.view_is by_len
