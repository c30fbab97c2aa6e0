-- The notes of a text, and their annotations.
--
-- notes_of      what stands in each note, in order
-- AreAnnots     the annotations of notes, one for one
-- IsFirstFault  what is answered for notes that aren't all annotations
use Rattle.std.specs.Prelude.{◌≡◌, ◌⊎◌, ◌∷◌, [], ℕ, List, Bool, true, false, if◌then◌else◌, Option, Some, None, Result, Ok, Err}
use Rattle.std.specs.Option.{option_map}
use Rattle.c_lex.specs.declared.token.Token.{Token}
use Rattle.c_lex.specs.declared.token.TokenKind.{TokenKind}
use Rattle.c_lex.specs.declared.token.TokenKind.TheVariants as K
use Rattle.c_ast.specs.declared.annot.Annot.{Annot}
use Rattle.acsl_read.specs.declared.text.AcslFault.{AcslFault}
use Rattle.acsl_read.specs.declared.text.AcslFault.TheVariants as F
use Rattle.acsl_read.specs.Program as note

-- the tokens between those that open and close a note, and the place of the one that closes it
pub record Between : Type 0 where
  pub tokens : List Token
  pub end : ℕ

-- the note goes on with this token
abbrev pub with_token : Token → Between → Between
with_token t n = record { tokens = t ∷ n.tokens; end = n.end }

-- the token closes a note
abbrev pub closes : TokenKind → Bool
closes K.NoteTo = true
closes k = false

-- the tokens before the first that closes a note; none where no token closes one
abbrev pub closed : List Token → Option Between
closed [] = None
closed (t ∷ ts) =
    if closes t.kind then Some (record { tokens = []; end = t.span.from }) else option_map (with_token t) (closed ts)

-- the note that a token opens, before these tokens
abbrev pub opened : TokenKind → List Token → Option Between
opened K.NoteFrom behind = closed behind
opened k behind = None

-- what stands in each note of the text, in order
abbrev pub with_note : Option Between → List Between → List Between
with_note None ns = ns
with_note (Some n) ns = n ∷ ns

abbrev pub notes_of : List Token → List Between
notes_of [] = []
notes_of (t ∷ ts) = with_note (opened t.kind ts) (notes_of ts)

-- the annotations are those of the notes, one for one and in order
abbrev pub AreAnnots : List ℕ → List Annot → List Between → Type 0
AreAnnots bytes [] [] = Unit {0}
AreAnnots bytes [] (n ∷ ns) = ⊥
AreAnnots bytes (a ∷ xs) [] = ⊥
AreAnnots bytes (a ∷ xs) (n ∷ ns) = note.IsAnnot bytes a n.tokens × AreAnnots bytes xs ns

-- where all notes have annotations, the answer is these, or there is no memory
abbrev pub IsOnly : List Annot → Result (List Annot) AcslFault → Type 0
IsOnly xs (Ok ys) = xs ≡ ys
IsOnly xs (Err (F.NotAcsl at)) = ⊥
IsOnly xs (Err (F.Unsupported word at)) = ⊥
IsOnly xs (Err (F.TooDeep at)) = ⊥
IsOnly xs (Err F.Memory) = Unit {0}

-- The first note has this fault; or it has an annotation, and of the others the first that has none has this fault.
abbrev pub IsFirstFault : List ℕ → List Between → AcslFault → Type 0
IsFirstFault bytes [] f = ⊥
IsFirstFault bytes (n ∷ ns) f =
    note.IsFault bytes n.tokens n.end f ⊎ ((a : Annot) × note.IsAnnot bytes a n.tokens × IsFirstFault bytes ns f)
