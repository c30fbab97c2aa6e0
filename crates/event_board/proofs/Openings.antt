-- What a change is answered rests on changes alone.
use Rattle.std.proofs.Common.{refl}
use Rattle.status_history.specs.declared.history.Change.TheVariants.{Register, Param, Emit}
use Rattle.status_rules.specs.Judge.{judge}
use Rattle.event_board.specs.Laws.{OpeningsDontCount}

pub openings_dont_count : OpeningsDontCount
unfolding judge
openings_dont_count t a b cs (Register name set) = refl
openings_dont_count t a b cs (Param n x) = refl
openings_dont_count t a b cs (Emit e) = refl
