use Rattle.std.proofs.Common.{◌≡◌, drop, ◌++◌, map}
use Rattle.status_rules.specs.declared.counting.CountedEntry.{CountedEntry}
use Rattle.status_rows.proofs.places.places_of.Given as goal

abbrev pub invariant-loop-found : goal.invariant-loop-found
invariant-loop-found l = l.places.items ++ map (λ (e : CountedEntry). e.place) (drop l.found-index l.fn.entries) ≡ map (λ (e : CountedEntry). e.place) l.fn.entries
