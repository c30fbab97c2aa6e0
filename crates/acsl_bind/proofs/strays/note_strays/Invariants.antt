use Rattle.std.proofs.Common.{◌≡◌, length}
use Rattle.acsl_terms.specs.Breaches.{least}
use Rattle.acsl_bind.specs.Notes.{places_in_all}
use Rattle.acsl_bind.specs.Programs.{noted_all, strays}
use Rattle.acsl_bind.proofs.strays.note_strays.Given as goal

abbrev pub invariant-loop-spot : goal.invariant-loop-spot
invariant-loop-spot l =
    least l.first (strays (places_in_all l.fns) (noted_all l.spots_left l.annots_left)) ≡ least l.fn.first (strays (places_in_all l.fns) (noted_all l.spots l.annots))

abbrev pub decreases-loop-spot : goal.decreases-loop-spot
decreases-loop-spot l = length l.spots_left
