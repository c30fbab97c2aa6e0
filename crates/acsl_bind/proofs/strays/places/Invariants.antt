use Rattle.std.proofs.Common.{◌≡◌, ◌++◌, drop}
use Rattle.acsl_bind.specs.Notes.{places_in_all}
use Rattle.acsl_bind.proofs.strays.places.Given as goal

abbrev pub invariant-loop-f : goal.invariant-loop-f
invariant-loop-f l = l.found ++ places_in_all (drop l.f-index l.fns) ≡ places_in_all l.fns
