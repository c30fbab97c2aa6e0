use Rattle.std.proofs.Common.{◌∙◌, ap, map}
use Rattle.status_rows.specs.inner.Counted.{places_in}
use Rattle.status_rows.proofs.Recounted.{recounted}
use Rattle.status_rows.proofs.places.counted_places.Goals as goal

pub returns : goal.returns
returns c =
    recounted c.args.history.now c.args.props.now.rows c.in_ok-lists.lists.items c.in_ok-entries.entries.items
    (c.in_ok-lists.ensures ∙ ap (map places_in) c.deref.ensures.value) c.in_ok-entries.ensures
