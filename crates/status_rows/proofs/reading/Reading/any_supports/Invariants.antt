use Rattle.std.proofs.Common.{◌≡◌, drop}
use Rattle.status_rules.specs.Holds.{basis_of, is_sure, supports}
use Rattle.status_rows.specs.Places.{any_at}
use Rattle.status_rows.proofs.reading.Reading.any_supports.Given as goal

abbrev pub invariant-loop-place : goal.invariant-loop-place
invariant-loop-place l =
    let test = supports l.fn.status (is_sure (basis_of l.fn.self.history.now l.fn.self.props.now)) in
    any_at test l.fn.self.history.now.changes (drop l.place-index l.fn.places) ≡ any_at test l.fn.self.history.now.changes l.fn.places
