use Rattle.std.proofs.Common.{length}
use Rattle.acsl_notes.specs.Notes.{notes_of}
use Rattle.acsl_notes.proofs.Steps.{Found, Only, Fault}
use Rattle.acsl_notes.proofs.text.notes.Given as goal

abbrev pub invariant-reading : goal.invariant-reading
invariant-reading l = record {
  found : Found l.bytes l.annots (notes_of l.rest) (notes_of l.tokens);
  only : Only l.bytes l.annots (notes_of l.rest) (notes_of l.tokens);
  fault : Fault l.bytes (notes_of l.rest) (notes_of l.tokens);
}

abbrev pub decreases-reading : goal.decreases-reading
decreases-reading l = length l.rest
