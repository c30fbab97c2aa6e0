use Rattle.std.proofs.Common.{◌≡◌, drop}
use Rattle.status_rules.specs.Holds.{same_status}
use Rattle.status_rules.specs.Counting.{PlacedEntry}
use Rattle.status_rows.specs.Places.{any_at}
use Rattle.status_rows.proofs.reading.Reading.has_said.Given as goal

abbrev pub invariant-loop-place : goal.invariant-loop-place
invariant-loop-place l =
    let test = λ (e : PlacedEntry). same_status e.entry.status l.fn.status in
    any_at test l.fn.self.history.now.changes (drop l.place-index l.fn.places) ≡ any_at test l.fn.self.history.now.changes l.fn.places
