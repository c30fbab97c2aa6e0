use Rattle.std.proofs.Common.{ap, ◌∙◌}
use Rattle.fc_base.specs.declared.status.LocalStatus.TheVariants as Status
use Rattle.status_rules.specs.Holds.{basis_of, entries_on, nothing, supports}
use Rattle.status_rows.specs.Places.{any_at}
use Rattle.status_rows.proofs.Placed.{any_places}
use Rattle.status_rows.proofs.reading.Reading.is_plain.Goals as goal

pub returns : goal.returns
returns c =
    let s = c.args.self.now in
    c.any_plain.ensures
    ∙ (ap (λ xs. any_at (supports Status.True nothing) xs c.places_on.result.now) c.as_slice.ensures
    ∙ any_places (supports Status.True nothing) s.history.now.changes c.places_on.result.now (entries_on (basis_of s.history.now s.props.now) c.args.prop.0) c.places_on.ensures)
