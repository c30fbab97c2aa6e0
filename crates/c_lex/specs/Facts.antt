-- What holds of the tokens of a text, each by itself and in order; it follows from `Lexes`.
--
-- Main definitions: `AreTokensOf bytes 0 tokens`, the tokens stand in the text one after the other, each with
-- its line and a text of its kind; `are_noted false kinds`, each note that is opened is closed.
use Rattle.std.specs.Prelude.{◌≡◌, ◌⊎◌, ◌+◌, ◌<◌, ◌≤◌, ◌^◌, ◌&&◌, ◌∷◌, [], ℕ, List, Bool, true, false, codes, not, length, take, slice_range}
use Rattle.c_lex.specs.declared.token.Token.{Token}
use Rattle.c_lex.specs.declared.token.TokenKind.{TokenKind}
use Rattle.c_lex.specs.declared.token.TokenKind.TheVariants as K
use Rattle.c_lex.specs.Bytes.{line_ends}
use Rattle.c_lex.specs.Spellings.{Has, puncts, is_word, word_of, IsNumber, IsChar, IsText}

-- the bytes of a token
abbrev pub text_of : List ℕ → Token → List ℕ
text_of bytes t = slice_range bytes t.span.from t.span.to

-- the text is one of a token of this kind, in a note or outside
abbrev pub IsTextOf : TokenKind → List ℕ → Type 0
IsTextOf (K.Word w) text = (rest : List ℕ) × (is_word true text rest ≡ true) × (length text ≤ 256) × (w ≡ word_of text)
IsTextOf (K.Number n) text = (rest : List ℕ) × IsNumber n text rest × (n.value < 2 ^ 127)
IsTextOf (K.Char c) text = IsChar c text
IsTextOf K.Text text = IsText text
IsTextOf (K.Punct p) text = Has true puncts text p
IsTextOf K.NoteFrom text = (text ≡ codes "/*@") ⊎ (text ≡ codes "//@")
IsTextOf K.NoteTo text = (text ≡ codes "*/") ⊎ (text ≡ [])

pub record IsTokenOf (bytes : List ℕ) (t : Token) : Type 0 where
  pub in_order : t.span.from ≤ t.span.to
  pub within : t.span.to ≤ length bytes
  pub some : (t.span.from < t.span.to) ⊎ (t.kind ≡ K.NoteTo)
  pub line : t.line.0 ≡ 1 + line_ends (take t.span.from bytes)
  pub text : IsTextOf t.kind (text_of bytes t)

-- from this offset on, each token begins where the one before it ends, or after that
abbrev pub AreTokensOf : List ℕ → ℕ → List Token → Type 0
AreTokensOf bytes from [] = Unit {0}
AreTokensOf bytes from (t ∷ ts) = IsTokenOf bytes t × (from ≤ t.span.from) × AreTokensOf bytes t.span.to ts

-- notes are opened outside notes and closed in them, and none is open at the end
abbrev pub are_noted_after : Bool → TokenKind → (Bool → Bool) → Bool
are_noted_after note K.NoteFrom f = not note && f true
are_noted_after note K.NoteTo f = note && f false
are_noted_after note k f = f note

abbrev pub are_noted : Bool → List Token → Bool
are_noted note [] = not note
are_noted note (t ∷ ts) = are_noted_after note t.kind (λ n. are_noted n ts)
