use Rattle.std.proofs.Common.{◌≡◌, drop, ◌++◌}
use Rattle.std.specs.Prelude.{filter, not}
use Rattle.status_rows.specs.Places.{is_of}
use Rattle.status_rows.proofs.places.with_place.Given as goal

abbrev pub invariant-loop-one : goal.invariant-loop-one
invariant-loop-one l = l.places.items ++ filter (λ x. not (is_of l.fn.changes l.fn.emitter.0 x)) (drop l.one-index l.fn.old) ≡ filter (λ x. not (is_of l.fn.changes l.fn.emitter.0 x)) l.fn.old
