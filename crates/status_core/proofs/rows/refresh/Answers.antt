use Rattle.std.proofs.Common.{ap, sym, ◌∙◌, arith}
use Rattle.status_core.specs.inner.Rows.{refreshed, row_after}
use Rattle.status_core.proofs.Written.{drop_all, refreshed_more}
use Rattle.status_core.proofs.rows.refresh.Goals as goal

pub loop-prop-preserved : goal.loop-prop-preserved
loop-prop-preserved c =
    let r = c.args.reading.now in
    let f = row_after r.history.now r.props.now c.args.number in (
      c.refresh_row.ensures.len ∙ c.loop-prop.invariant.0,
      λ d. refreshed_more f d c.args.reached.now c.loop-prop.prop-index _ c.loop-prop.rows _ (omega arith) (c.refresh_row.ensures.value d) ∙ c.loop-prop.invariant.1 d,
    )

pub returns : goal.returns
returns c d =
    let r = c.args.reading.now in
    let f = row_after r.history.now r.props.now c.args.number in
    sym (ap (λ qs. refreshed f d qs c.loop-prop.rows) (drop_all c.args.reached.now c.loop-prop.prop-index (omega arith))) ∙ c.loop-prop.invariant.1 d
