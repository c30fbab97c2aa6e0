use Rattle.std.proofs.Common.{ap, ◌∙◌}
use Rattle.std.specs.Prelude.{◌||◌}
use Rattle.fc_base.specs.declared.status.LocalStatus.{LocalStatus}
use Rattle.fc_base.specs.declared.status.LocalStatus.TheVariants.{FalseIfReachable, FalseAndReachable}
use Rattle.fc_base.specs.declared.status.LocalStatus.TheVariants as Status
use Rattle.status_rules.specs.Counting.{PlacedEntry}
use Rattle.status_rules.specs.Holds.{basis_of, entries_on, same_status}
use Rattle.status_rules.specs.Verdicts.{has_said}
use Rattle.status_rules.proofs.Known.{inputs_same}
use Rattle.status_rows.specs.Places.{any_at}
use Rattle.status_rows.proofs.Placed.{any_places, tried_from}
use Rattle.status_rows.proofs.reading.Reading.inputs.Goals as goal

pub returns : goal.returns
returns c =
    let s = c.args.self.now in
    let es = entries_on (basis_of s.history.now s.props.now) c.args.prop.0 in
    let said = λ (r : LocalStatus). any_places (λ (e : PlacedEntry). same_status e.entry.status r) s.history.now.changes c.places_on-places.result.now es c.places_on-places.ensures in
    inputs_same _ _ _ _ _ _ _ _ _ _ _ _ _ _ _ _ _ _
    c.is_admitted.ensures c.is_held.ensures c.is_refuted.ensures c.is_unvisited.ensures c.is_supported.ensures c.is_supported-2.ensures
    (c.has_place.ensures ∙ tried_from s.history.now.changes c.places_on-places.result.now es c.places_on-places.ensures)
    (c.has_said.ensures ∙ said Status.True)
    (c.has_said_false.ensures ∙ (ap (λ b. b || any_at (λ (e : PlacedEntry). same_status e.entry.status FalseAndReachable) s.history.now.changes c.places_on-places.result.now) (said FalseIfReachable) ∙ ap (λ b. has_said FalseIfReachable es || b) (said FalseAndReachable)))
