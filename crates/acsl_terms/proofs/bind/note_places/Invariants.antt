use Rattle.std.proofs.Common.{◌≡◌, drop}
use Rattle.acsl_terms.specs.Breaches.{least}
use Rattle.acsl_terms.specs.Clauses.{places_faults}
use Rattle.acsl_terms.specs.inner.Sights.{context_of}
use Rattle.acsl_terms.proofs.bind.note_places.Given as goal

abbrev pub invariant-loop-place : goal.invariant-loop-place
invariant-loop-place l =
    least l.first (places_faults (context_of l.sight) (drop l.place-index l.places))
    ≡ least l.fn.first (places_faults (context_of l.sight) l.places)
