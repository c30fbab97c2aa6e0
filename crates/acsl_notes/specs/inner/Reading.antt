-- What reading one note adds.
use Rattle.std.specs.Prelude.{◌≡◌, ◌++◌, ◌∷◌, [], ℕ, List, Option, Some, None, Result, Ok, Err}
use Rattle.c_ast.specs.declared.annot.Annot.{Annot}
use Rattle.acsl_read.specs.declared.text.AcslFault.{AcslFault}
use Rattle.acsl_read.specs.declared.text.AcslFault.TheVariants as F
use Rattle.acsl_read.specs.Program as note
use Rattle.acsl_notes.specs.declared.note.Note.{Note}
use Rattle.acsl_notes.specs.Notes.{Between}

abbrev pub between : Note → Between
between n = record { tokens = n.tokens.now; end = n.end }

-- a note's annotation stands behind those before
abbrev pub Reads : List ℕ → Between → List Annot → List Annot → Result (Unit {0}) AcslFault → Type 0
Reads bytes n old new (Ok u) =
    (a : Annot) × (new ≡ old ++ a ∷ []) × note.IsAnnot bytes a n.tokens × ((b : Annot) → note.IsAnnot bytes b n.tokens → b ≡ a)
Reads bytes n old new (Err f) =
    note.IsFault bytes n.tokens n.end f × ((b : Annot) → note.IsAnnot bytes b n.tokens → f ≡ F.Memory)

abbrev pub Adds : List ℕ → Option Between → List Annot → List Annot → Result (Unit {0}) AcslFault → Type 0
Adds bytes None old new (Ok u) = new ≡ old
Adds bytes None old new (Err f) = ⊥
Adds bytes (Some n) old new result = Reads bytes n old new result
