use Rattle.std.proofs.Common.{map, sym, ap, ◌∙◌}
use Rattle.status_rules.specs.Counting.{counted_of}
use Rattle.status_rows.specs.Places.{placed_at}
use Rattle.status_rows.proofs.Placed.{on_list, on_none}
use Rattle.status_rows.proofs.reading.Reading.places_on.Goals as goal

pub returns-in-Some : goal.returns-in-Some
returns-in-Some c =
    let s = c.args.self.now in
    let look = c.in-Some.ensures.lookup in
    ap (map (placed_at s.history.now.changes)) c.as_slice.ensures.value
    ∙ on_list s.history.now.changes s.places.now (counted_of s.history.now) s.props.now.rows c.args.prop.0 c.in-Some.list.now s.places_are (sym look.0) look.1

pub returns-in-None : goal.returns-in-None
returns-in-None c =
    let s = c.args.self.now in
    let look = c.in-None.ensures.lookup in
    on_none s.history.now.changes s.places.now (counted_of s.history.now) s.props.now.rows c.args.prop.0 s.places_are (sym look.0)
