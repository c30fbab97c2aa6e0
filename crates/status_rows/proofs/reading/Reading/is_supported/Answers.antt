use Rattle.std.proofs.Common.{◌∙◌}
use Rattle.status_rules.specs.Holds.{basis_of, entries_on, is_sure, supports}
use Rattle.status_rows.proofs.Placed.{any_places}
use Rattle.status_rows.proofs.reading.Reading.is_supported.Goals as goal

pub returns : goal.returns
returns c =
    let s = c.args.self.now in
    let b = basis_of s.history.now s.props.now in
    c.any_supports.ensures
    ∙ any_places (supports c.args.status (is_sure b)) s.history.now.changes c.places_on.result.now (entries_on b c.args.prop.0) c.places_on.ensures
