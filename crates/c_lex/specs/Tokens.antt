-- The tokens of a text, and why a text has none (C11 6.4; ACSL manual, lexical rules).
--
-- Main definitions: `Lexes bytes tokens`, the bytes have these tokens; `Stuck bytes fault`, they have none,
-- and this is why.
--
-- note    a comment that begins with `@`, an annotation; its bytes are read for tokens too
-- gap     what stands between tokens: a blank byte, a comment that is no note, a line marker
-- piece   a gap (None) or a token (Some); a text is read from left to right, piece by piece
-- spot    a place between two pieces
-- fresh   only gaps stand before the spot on its line
use Rattle.std.specs.Prelude.{◌≡◌, ◌⊎◌, ◌+◌, ◌<◌, ◌≤◌, ◌≢◌, ◌^◌, ◌==◌, ◌&&◌, ◌||◌, ◌∷◌, ◌++◌, [], ℕ, List, Bool, true, false, Option, Some, None, codes, not, nat_lt, length, drop, if◌then◌else◌}
use Rattle.std.specs.List.{list_all}
use Rattle.std.specs.Char.{is_ascii_digit}
use Rattle.c_lex.specs.declared.fault.LexFault.{LexFault}
use Rattle.c_lex.specs.declared.fault.LexFault.TheVariants as F
use Rattle.c_lex.specs.declared.token.Number.{Number}
use Rattle.c_lex.specs.declared.token.Token.{Token}
use Rattle.c_lex.specs.declared.token.TokenKind.{TokenKind}
use Rattle.c_lex.specs.declared.token.TokenKind.TheVariants as K
use Rattle.c_lex.specs.Bytes.{begins_with, begins, is_blank, is_in_line, line_ends}
use Rattle.c_lex.specs.Spellings.{puncts, IsLongest, is_word, word_of, IsNumber, spoils, IsChar, IsText}

-- a place in the text: its offset and line; whether only gaps stand before it on its line; whether it is
-- in a note; the bytes from there to the end of the note or of the text; those after the note
pub record Spot : Type 0 where
  pub at : ℕ
  pub line : ℕ
  pub fresh : Bool
  pub note : Bool
  pub bytes : List ℕ
  pub after : List ℕ

abbrev pub start : List ℕ → Spot
start bytes = record { at = 0; line = 1; fresh = true; note = false; bytes = bytes; after = [] }

-- the spot after `text`, with the `rest` before it
abbrev pub past : Spot → List ℕ → List ℕ → Bool → Spot
past s text rest fresh =
    record { at = s.at + length text; line = s.line + line_ends text; fresh = fresh; note = s.note; bytes = rest; after = s.after }

-- Blanks.

-- the bytes have no `*/`
abbrev pub has_no_close : List ℕ → Bool
has_no_close [] = true
has_no_close (b ∷ bs) = not (b == 42 && begins_with (λ c. c == 47) bs) && has_no_close bs

-- the line ends here, or the text
abbrev pub is_line_end : List ℕ → Bool
is_line_end rest = not (begins_with is_in_line rest)

-- after a `#`: blanks and a digit, on one line
abbrev pub is_marker : Bool → List ℕ → Bool
is_marker note [] = false
is_marker note (b ∷ bs) = is_ascii_digit b || is_in_line b && is_blank note b && is_marker note bs

-- what stands between tokens: a blank byte, a comment, which is no note, or the line of a `#` that stands
-- first on its line and begins a line marker
pub data IsGap (note fresh : Bool) (text rest : List ℕ) : Type 0 where
  Byte : (b : ℕ) → text ≡ b ∷ [] → is_blank note b ≡ true → IsGap note fresh text rest
  Block : (body : List ℕ) → note ≡ false → text ≡ 47 ∷ 42 ∷ (body ++ 42 ∷ 47 ∷ [])
      → begins_with (λ b. b == 64) body ≡ false → has_no_close (body ++ 42 ∷ []) ≡ true → IsGap note fresh text rest
  Line : (body : List ℕ) → note ≡ false → text ≡ 47 ∷ 47 ∷ body
      → begins_with (λ b. b == 64) (body ++ rest) ≡ false → list_all is_in_line body ≡ true → is_line_end rest ≡ true → IsGap note fresh text rest
  Marker : (body : List ℕ) → fresh ≡ true → text ≡ 35 ∷ body
      → is_marker note (body ++ rest) ≡ true → list_all is_in_line body ≡ true → is_line_end rest ≡ true → IsGap note fresh text rest

-- the bytes begin a comment or a note, or `#` stands first on its line
abbrev pub begins_other : Bool → Bool → List ℕ → Bool
begins_other note fresh bytes =
    not note && (begins (codes "/*") bytes || begins (codes "//") bytes) || fresh && begins (codes "#") bytes

-- Tokens.

-- the text is a token of this kind, before this rest
abbrev pub Spells : Bool → Bool → TokenKind → List ℕ → List ℕ → Type 0
Spells note fresh (K.Word w) text rest = (is_word note text rest ≡ true) × (length text ≤ 256) × (w ≡ word_of text)
Spells note fresh (K.Number n) text rest = IsNumber n text rest × (spoils note rest ≡ false) × (n.value < 2 ^ 127)
Spells note fresh (K.Char c) text rest = IsChar c text
Spells note fresh K.Text text rest = IsText text
Spells note fresh (K.Punct p) text rest = IsLongest note puncts text p (text ++ rest) × (begins_other note fresh (text ++ rest) ≡ false)
Spells note fresh K.NoteFrom text rest = ⊥
Spells note fresh K.NoteTo text rest = ⊥

-- a note begins, with `inside` in it and `after` from its end on: `/*@` up to the first `*/`, and `//@` up
-- to the end of its line
abbrev pub IsNote : List ℕ → List ℕ → List ℕ → Type 0
IsNote bytes inside after =
    ((rest : List ℕ) × (bytes ≡ 47 ∷ 42 ∷ 64 ∷ (inside ++ after)) × (after ≡ 42 ∷ 47 ∷ rest) × (has_no_close (inside ++ 42 ∷ []) ≡ true))
    ⊎ ((bytes ≡ 47 ∷ 47 ∷ 64 ∷ (inside ++ after)) × (list_all is_in_line inside ≡ true) × (is_line_end after ≡ true))

-- a token that begins at this spot and has so many bytes
abbrev pub token_at : Spot → TokenKind → ℕ → Token
token_at s kind n = record { kind = kind; span = record { from = s.at; to = s.at + n }; line = record { 0 = s.line } }

-- how many bytes close a note
abbrev pub close_len : List ℕ → ℕ
close_len after = if begins (codes "*/") after then 2 else 0

abbrev pub in_note : Spot → List ℕ → List ℕ → Spot
in_note s inside after =
    record { at = s.at + 3; line = s.line; fresh = false; note = true; bytes = inside; after = after }

abbrev pub past_note : Spot → Spot
past_note s =
    record { at = s.at + close_len s.after; line = s.line; fresh = false; note = false; bytes = drop (close_len s.after) s.after; after = [] }

-- from spot s a piece leads to spot e: nothing that is a token, or a token
pub data Goes (s : Spot) (piece : Option Token) (e : Spot) : Type 0 where
  OfGap : (text rest : List ℕ) → s.bytes ≡ text ++ rest → IsGap s.note s.fresh text rest
      → piece ≡ None → e ≡ past s text rest (s.fresh || nat_lt 0 (line_ends text)) → Goes s piece e
  OfToken : (kind : TokenKind) (text rest : List ℕ) → s.bytes ≡ text ++ rest → Spells s.note s.fresh kind text rest
      → piece ≡ Some (token_at s kind (length text)) → e ≡ past s text rest false → Goes s piece e
  Opens : (inside after : List ℕ) → s.note ≡ false → IsNote s.bytes inside after
      → piece ≡ Some (token_at s K.NoteFrom 3) → e ≡ in_note s inside after → Goes s piece e
  Closes : s.note ≡ true → s.bytes ≡ []
      → piece ≡ Some (token_at s K.NoteTo (close_len s.after)) → e ≡ past_note s → Goes s piece e

-- the end of the text
abbrev pub IsEnd : Spot → Type 0
IsEnd s = (s.note ≡ false) × (s.bytes ≡ [])

-- Texts.

-- piece by piece from spot s to spot e
abbrev pub Reaches : Spot → List (Option Token) → Spot → Type 0
Reaches s [] e = s ≡ e
Reaches s (p ∷ ps) e = (m : Spot) × Goes s p m × Reaches m ps e

-- those pieces that are tokens
abbrev pub tokens_of : List (Option Token) → List Token
tokens_of [] = []
tokens_of (None ∷ ps) = tokens_of ps
tokens_of (Some t ∷ ps) = t ∷ tokens_of ps

-- the tokens of a text
unfoldable pub Lexes : List ℕ → List Token → Type 0
Lexes bytes ts =
    (ps : List (Option Token)) × (e : Spot) × Reaches (start bytes) ps e × IsEnd e × (tokens_of ps ≡ ts)

-- Faults.

-- a word or a number, of any size, stands first
abbrev pub BeginsLonger : Bool → List ℕ → Type 0
BeginsLonger note bytes =
    (text : List ℕ) × (rest : List ℕ) × (bytes ≡ text ++ rest)
    × ((is_word note text rest ≡ true) ⊎ ((n : Number) × IsNumber n text rest))

-- the first byte begins nothing
pub record BeginsNothing (s : Spot) : Type 0 where
  pub some : s.bytes ≢ []
  pub no_piece : (p : Option Token) (e : Spot) → Goes s p e → ⊥
  pub no_longer : BeginsLonger s.note s.bytes → ⊥
  pub no_other : begins_other s.note s.fresh s.bytes ≡ false

-- there is no piece at the spot, and this is why
pub data Stops (s : Spot) (f : LexFault) : Type 0 where
  Nothing : BeginsNothing s → f ≡ F.BadByte s.at → Stops s f
  Spoiled : (n : Number) (text rest : List ℕ) → s.bytes ≡ text ++ rest → IsNumber n text rest
      → spoils s.note rest ≡ true → f ≡ F.BadByte (s.at + length text) → Stops s f
  Wide : (n : Number) (text rest : List ℕ) → s.bytes ≡ text ++ rest → IsNumber n text rest
      → spoils s.note rest ≡ false → 2 ^ 127 ≤ n.value → f ≡ F.LiteralTooWide s.at → Stops s f
  Long : (text rest : List ℕ) → s.bytes ≡ text ++ rest → is_word s.note text rest ≡ true
      → 256 < length text → f ≡ F.NameTooLong s.at → Stops s f
  Open : (body : List ℕ) → s.note ≡ false → s.bytes ≡ 47 ∷ 42 ∷ body → has_no_close body ≡ true
      → f ≡ F.OpenComment s.at → Stops s f
  Directive : (body : List ℕ) → s.fresh ≡ true → s.bytes ≡ 35 ∷ body → is_marker s.note body ≡ false
      → f ≡ F.Directive (record { 0 = s.line }) → Stops s f

-- pieces lead to a spot from which none goes on, and this is why
unfoldable pub Stuck : List ℕ → LexFault → Type 0
Stuck bytes f = (ps : List (Option Token)) × (e : Spot) × Reaches (start bytes) ps e × Stops e f

-- these are the tokens: the text has no others, and no fault
abbrev pub AreOnly : List ℕ → List Token → Type 0
AreOnly bytes ts = ((us : List Token) → Lexes bytes us → us ≡ ts) × ((f : LexFault) → Stuck bytes f → ⊥)

-- this is the fault: the text has no other, and no tokens
abbrev pub IsOnlyFault : List ℕ → LexFault → Type 0
IsOnlyFault bytes f = ((g : LexFault) → Stuck bytes g → g ≡ f) × ((ts : List Token) → Lexes bytes ts → ⊥)

-- what is said of a fault; want of memory says nothing
abbrev pub UnlessMemory : (LexFault → Type 0) → LexFault → Type 0
UnlessMemory P F.Memory = Unit {0}
UnlessMemory P f = P f
