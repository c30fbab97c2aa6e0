use Rattle.c_lex.specs.inner.Reading.{spot_of, IsRoomy}
use Rattle.c_lex.proofs.Left.{left}
use Rattle.c_lex.proofs.OneReading.{Found}
use Rattle.c_lex.proofs.lex.tokens.Given as goal

-- pieces lead from the text's start to the place, and those of them that are tokens are the ones found
abbrev pub invariant-lexing : goal.invariant-lexing
invariant-lexing l = record { room : IsRoomy l.place; found : Found l.bytes (spot_of l.place) l.tokens }

abbrev pub decreases-lexing : goal.decreases-lexing
decreases-lexing l = left (spot_of l.place)
