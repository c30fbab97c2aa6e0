-- Which tokens are a note, and where the reading of others stops.
--
-- IsAnnot    the tokens are a whole note with this tree
-- IsFault    what is answered for other tokens: the place at which the reading stops, and its token's word
--            where that word is of the part of ACSL that is left out
use Rattle.std.specs.Prelude.{◌≡◌, ◌⊎◌, ◌<◌, ◌-◌, ◌&&◌, ◌||◌, [], ◌∷◌, ℕ, List, Bool, true, false, length, take, drop, Result, Ok, Err, codes, bytes_eq}
use Rattle.std.specs.List.{list_any}
use Rattle.c_lex.specs.declared.token.Token.{Token}
use Rattle.c_lex.specs.declared.token.TokenKind.{TokenKind}
use Rattle.c_lex.specs.declared.token.TokenKind.TheVariants as T
use Rattle.c_ast.specs.declared.annot.Annot.{Annot}
use Rattle.acsl_read.specs.declared.class.Class.TheVariants as C
use Rattle.acsl_read.specs.declared.text.AcslFault.{AcslFault}
use Rattle.acsl_read.specs.declared.text.AcslFault.TheVariants as F
use Rattle.grammar_forms.specs.Forms.{Made}
use Rattle.grammar_forms.specs.Derives.{Unexpected, TooDeep, IsText, StopsAt}
use Rattle.c_parse.specs.Places.{text_of}
use Rattle.c_parse.specs.Program.{word_at}
use Rattle.acsl_read.specs.Classes.{same_class, class_of}
use Rattle.acsl_read.specs.Table.{Note}
use Rattle.acsl_read.specs.Trees.{Found, OfAnnot}
use Rattle.acsl_read.specs.Grammar.{grammar}

-- a whole note, up to the last token
abbrev pub IsAnnot : List ℕ → Annot → List Token → Type 0
IsAnnot bytes a ts = IsText (grammar bytes) 0 Note ts (Made (OfAnnot a)) []

-- words of ACSL that this grammar leaves out
unfoldable pub unsupported_words : List (List ℕ)
unsupported_words =
    codes "\\exists" ∷ codes "\\valid" ∷ codes "\\at" ∷ codes "variant" ∷ codes "decreases" ∷ codes "logic" ∷
    codes "axiomatic" ∷ codes "predicate" ∷ codes "lemma" ∷ codes "ghost" ∷ codes "type" ∷ codes "behavior" ∷
    codes "assumes" ∷ codes "complete" ∷ codes "disjoint" ∷ []

abbrev pub is_word : TokenKind → Bool
is_word (T.Word w) = true
is_word k = false

abbrev pub ends_with_forall : List ℕ → List Token → Bool
ends_with_forall bytes [] = false
ends_with_forall bytes (t ∷ []) = same_class (class_of bytes t) C.Forall
ends_with_forall bytes (t ∷ u ∷ ts) = ends_with_forall bytes (u ∷ ts)

-- The first of these tokens, after those before it, is such a word; or a word that stands for a type in a
-- quantifier, where only `integer` may stand.
abbrev pub is_unsupported : List ℕ → List Token → List Token → Bool
is_unsupported bytes before [] = false
is_unsupported bytes before (t ∷ ts) =
    is_word t.kind && (list_any (λ w. bytes_eq (text_of bytes t.span) w) unsupported_words || ends_with_forall bytes before)

-- the place of the first of these tokens, or of the note's end
abbrev pub place_at : ℕ → List Token → ℕ
place_at end [] = end
place_at end (t ∷ ts) = t.span.from

-- A reading needs another token than the first of `left`: inside a clause, or after the last.
abbrev pub StopsBefore : List ℕ → List Token → List Token → Type 0
StopsBefore bytes ts left =
    ((n : ℕ) × StopsAt (grammar bytes) 0 Note ts Unexpected n × (left ≡ drop (length ts - n) ts))
    ⊎ ((v : Found) × IsText (grammar bytes) 0 Note ts v left × (0 < length left))

-- the tokens before the last ones
abbrev pub before : List Token → List Token → List Token
before ts left = take (length ts - length left) ts

-- what is answered for a token that isn't needed
abbrev pub Refuses : List ℕ → ℕ → List Token → List Token → AcslFault → Type 0
Refuses bytes end front left (F.NotAcsl at) = (is_unsupported bytes front left ≡ false) × (at ≡ place_at end left)
Refuses bytes end front left (F.Unsupported word at) =
    (is_unsupported bytes front left ≡ true) × (word ≡ word_at bytes left) × (at ≡ place_at end left)
Refuses bytes end front left (F.TooDeep at) = ⊥
Refuses bytes end front left F.Memory = Unit {0}

-- a reading stops at a token that opens the 201st nesting
abbrev pub OpensTooMany : List ℕ → ℕ → List Token → ℕ → Type 0
OpensTooMany bytes end ts at =
    (n : ℕ) × StopsAt (grammar bytes) 0 Note ts TooDeep n × (at ≡ place_at end (drop (length ts - n) ts))

abbrev pub IsFault : List ℕ → List Token → ℕ → AcslFault → Type 0
IsFault bytes ts end (F.NotAcsl at) =
    (left : List Token) × StopsBefore bytes ts left × Refuses bytes end (before ts left) left (F.NotAcsl at)
IsFault bytes ts end (F.Unsupported word at) =
    (left : List Token) × StopsBefore bytes ts left × Refuses bytes end (before ts left) left (F.Unsupported word at)
IsFault bytes ts end (F.TooDeep at) = OpensTooMany bytes end ts at
IsFault bytes ts end F.Memory = Unit {0}

-- where the tokens are a note, the answer is its tree, or there is no memory
abbrev pub IsOnly : Annot → Result Annot AcslFault → Type 0
IsOnly a (Ok b) = a ≡ b
IsOnly a (Err (F.NotAcsl at)) = ⊥
IsOnly a (Err (F.Unsupported word at)) = ⊥
IsOnly a (Err (F.TooDeep at)) = ⊥
IsOnly a (Err F.Memory) = Unit {0}
