use Rattle.std.proofs.Common.{◌<◌, length, ◌∙◌, ap, ◌++◌, ◌∷◌, [], arith}
use Rattle.event_board.specs.declared.page.PlacedVerdict.{PlacedVerdict}
use Rattle.status_core.specs.inner.Rows.{first_row}
use Rattle.status_rules.proofs.Each.{each_more}
use Rattle.status_core.proofs.rows.first_rows.Goals as goal

pub loop-place-preserved : goal.loop-place-preserved
loop-place-preserved c =
    let r = c.args.reading.now in
    let i = c.loop-place.place in
    let rows = r.props.now.rows in
    let within : i < length rows = omega arith in
    each_more (first_row r.history.now r.props.now) i rows c.loop-place.rows _ within (c.in_ok-push.ensures.ok ∙ ap (λ (x : PlacedVerdict). c.loop-place.rows ++ x ∷ []) c.first_row.ensures)
    ∙ c.loop-place.invariant
