-- The code's side: how the piece that stands first is found, in the order in which the code looks.
use Rattle.std.specs.Prelude.{◌≡◌, ◌+◌, ◌≤◌, ◌^◌, ◌==◌, ◌&&◌, ◌||◌, ◌∷◌, [], ℕ, List, Bool, Option, Some, None, false, not, nat_le, nat_lt, length, take, drop, if◌then◌else◌}
use Rattle.std.specs.Option.{option_map}
use Rattle.std.specs.List.{prefix_len}
use Rattle.std.specs.Borrow.{Bor}
use Rattle.std.specs.Char.{is_ascii_digit}
use Rattle.fc_base.specs.declared.syntax.LiteralForm.{LiteralForm}
use Rattle.c_lex.specs.declared.piece.Piece.{Piece}
use Rattle.c_lex.specs.declared.piece.Piece.TheVariants as Q
use Rattle.c_lex.specs.declared.piece.Shape.{Shape}
use Rattle.c_lex.specs.declared.token.Number.{Number}
use Rattle.c_lex.specs.declared.token.Keyword.{Keyword}
use Rattle.c_lex.specs.declared.token.TokenKind.TheVariants as K
use Rattle.c_lex.specs.declared.fault.LexFault.{LexFault}
use Rattle.c_lex.specs.declared.fault.LexFault.TheVariants as F
use Rattle.c_lex.specs.declared.lex.Place.{Place}
use Rattle.c_lex.specs.declared.lex.Step.{Step}
use Rattle.c_lex.specs.declared.lex.Step.TheVariants as S
use Rattle.c_lex.specs.declared.token.Token.{Token}
use Rattle.c_lex.specs.Bytes.{begins_with, begins, is_blank, is_in_line, line_ends}
use Rattle.c_lex.specs.Spellings.{Row, puncts, suffixes, begins_word, goes_on, word_of, form_of, prefix_of, is_digit, with_digit, spoils, escape, is_plain}
use Rattle.c_lex.specs.Tokens.{Spot, is_marker, token_at, past, in_note, past_note, close_len}

infixl 10 ◌>>=◌
-- what is read first, and then the rest
abbrev pub ◌>>=◌ : {A B : Type 0} → Option A → (A → Option B) → Option B
None >>= f = None
(Some a) >>= f = f a

-- a choice by whether there is something
abbrev pub either : {A C : Type 0} → Option A → (A → C) → C → C
either None f other = other
either (Some a) f other = f a

-- the rows of a table of the code
abbrev pub rows_of : {A : Type 0} → List (Bor (List ℕ) × A × Bool) → List (Row A)
rows_of [] = []
rows_of (r ∷ rows) = (r.0.now, r.1, r.2) ∷ rows_of rows

abbrev pub words_of : List (Bor (List ℕ) × Keyword) → List (List ℕ × Keyword)
words_of [] = []
words_of (r ∷ rows) = (r.0.now, r.1) ∷ words_of rows

-- the first row that the bytes begin with, and its length
abbrev pub first_row : {A : Type 0} → Bool → List (Row A) → List ℕ → Option (A × ℕ)
first_row note [] bytes = None
first_row note (r ∷ rows) bytes =
    if (note || not r.2) && begins r.0 bytes then Some (r.1, length r.0) else first_row note rows bytes

-- the piece isn't longer than this many bytes; a note has its opening before what is in it
abbrev pub IsWithin : ℕ → Piece → Type 0
IsWithin n (Q.Gap k) = k ≤ n
IsWithin n (Q.Token kind k) = k ≤ n
IsWithin n (Q.Note k) = k + 3 ≤ n
IsWithin n (Q.Bad k) = k ≤ n
IsWithin n piece = Unit {0}

unfoldable pub punct_at : Bool → List ℕ → Piece
punct_at note bytes = either (first_row note puncts bytes) (λ r. Q.Token (K.Punct r.0) r.1) (Q.Bad 0)

-- the first byte of the word, and what follows it
unfoldable pub word_at : ℕ → List ℕ → Piece
word_at b more =
    if b == 92 && prefix_len (goes_on b) more == 0 then Q.Bad 0 else (
    if nat_le 256 (prefix_len (goes_on b) more) then Q.Long else
    Q.Token (K.Word (word_of (take (prefix_len (goes_on b) more + 1) (b ∷ more)))) (prefix_len (goes_on b) more + 1))

-- how many digits stand first
unfoldable pub digits_len : LiteralForm → List ℕ → ℕ
digits_len form bytes = prefix_len (is_digit form) bytes

unfoldable pub shape_of : List ℕ → Option Shape
shape_of bytes = do
  let form = form_of bytes
  let digits = digits_len form (drop (prefix_of form) bytes)
  row ← first_row false suffixes (drop (prefix_of form + digits) bytes)
  Some (record { form = form; digits = digits; unsigned = row.0.0; longs = row.0.1; len = prefix_of form + digits + row.1 })

-- the number with one more digit, if it is below 2 ^ 127
abbrev pub fitting_digit : LiteralForm → ℕ → ℕ → Option ℕ
fitting_digit form n b = if nat_lt (with_digit form n b) (2 ^ 127) then Some (with_digit form n b) else None

-- the value of digits that stand after those of n, if it is below 2 ^ 127
abbrev pub fitting : LiteralForm → ℕ → List ℕ → Option ℕ
fitting form n [] = Some n
fitting form n (b ∷ bs) = either (fitting_digit form n b) (λ m. fitting form m bs) None

abbrev pub IsShapeWithin : ℕ → Shape → Type 0
IsShapeWithin n s = (prefix_of s.form + s.digits ≤ s.len) × (s.len ≤ n)

abbrev pub number_with : Shape → ℕ → Number
number_with shape value = record { value = value; form = shape.form; unsigned = shape.unsigned; longs = shape.longs }

unfoldable pub number_of : Bool → List ℕ → Shape → Piece
number_of note bytes shape =
    if spoils note (drop shape.len bytes) then Q.Bad shape.len else
    either (fitting shape.form 0 (take shape.digits (drop (prefix_of shape.form) bytes)))
    (λ value. Q.Token (K.Number (number_with shape value)) shape.len) Q.Wide

unfoldable pub number_at : Bool → List ℕ → Piece
number_at note bytes = either (shape_of bytes) (number_of note bytes) (Q.Bad 0)

-- the byte and what follows it
abbrev pub split : List ℕ → Option (ℕ × List ℕ)
split [] = None
split (b ∷ bs) = Some (b, bs)

-- the value of the constant after its opening quote, and how many bytes it has with both quotes
unfoldable pub escaped_at : List ℕ → Option (ℕ × ℕ)
escaped_at more = do
  second ← split more
  value ← escape second.0
  if begins_with (λ b. b == 39) second.1 then Some (value, 4) else None

unfoldable pub char_value : List ℕ → Option (ℕ × ℕ)
char_value more = do
  first ← split more
  if first.0 == 92 then escaped_at first.1 else (if is_plain first.0 && begins_with (λ b. b == 39) first.1 then Some (first.0, 3) else None)

unfoldable pub char_at : List ℕ → Piece
char_at more = either (char_value more) (λ c. Q.Token (K.Char c.0) c.1) (Q.Bad 0)

-- how many bytes stand before the closing quote
abbrev pub text_len : Bool → List ℕ → Option ℕ
text_len escaped [] = None
text_len escaped (b ∷ bs) =
    if b == 10 then None else (
    if escaped then option_map (λ n. 1 + n) (text_len false bs) else (
    if b == 34 then Some 0 else option_map (λ n. 1 + n) (text_len (b == 92) bs)))

unfoldable pub text_at : List ℕ → Piece
text_at more = either (text_len false more) (λ n. Q.Token K.Text (n + 2)) (Q.Bad 0)

-- how many bytes stand before the first `*/`
abbrev pub inside_len : List ℕ → Option ℕ
inside_len [] = None
inside_len (b ∷ bs) = if b == 42 && begins_with (λ c. c == 47) bs then Some 0 else option_map (λ n. 1 + n) (inside_len bs)

-- how many bytes stand before the end of the line
abbrev pub line_len : List ℕ → ℕ
line_len bytes = prefix_len is_in_line bytes

-- what begins with `/*`, which the rest follows
unfoldable pub block_at : List ℕ → Piece
block_at rest =
    if begins_with (λ b. b == 64) rest then either (inside_len (drop 1 rest)) Q.Note Q.Open else
    either (inside_len rest) (λ n. Q.Gap (n + 4)) Q.Open

-- what begins with `//`
unfoldable pub line_at : List ℕ → Piece
line_at rest =
    if begins_with (λ b. b == 64) rest then Q.Note (line_len (drop 1 rest)) else Q.Gap (line_len rest + 2)

-- what begins with `/` outside notes
unfoldable pub slash_at : List ℕ → List ℕ → Piece
slash_at bytes more =
    if begins_with (λ b. b == 42) more then block_at (drop 1 more) else (
    if begins_with (λ b. b == 47) more then line_at (drop 1 more) else punct_at false bytes)

-- what begins with a `#` that stands first on its line
unfoldable pub marker_at : Bool → List ℕ → Piece
marker_at note more = if is_marker note more then Q.Gap (line_len more + 1) else Q.Directive

unfoldable pub symbol_at : Bool → Bool → ℕ → List ℕ → Piece
symbol_at note fresh b more =
    if b == 39 then char_at more else (if b == 34 then text_at more else (
    if b == 47 && not note then slash_at (b ∷ more) more else (
    if b == 35 && fresh then marker_at note more else punct_at note (b ∷ more))))

unfoldable pub piece_at : Bool → Bool → ℕ → List ℕ → Piece
piece_at note fresh b more =
    if is_blank note b then Q.Gap 1 else (if begins_word note b then word_at b more else (
    if is_ascii_digit b then number_at note (b ∷ more) else symbol_at note fresh b more))

-- A place of the code, and the steps from place to place.

abbrev pub spot_of : Place → Spot
spot_of p =
    record { at = p.at; line = p.line; fresh = p.is_fresh; note = p.in_note; bytes = p.bytes.now; after = p.after.now }

pub data Move : Type 0 where
  AtEnd : Move
  To : Option Token → Spot → Move
  Fault : LexFault → Move

abbrev pub move_of : Spot → Piece → Move
move_of s (Q.Gap n) = To None (past s (take n s.bytes) (drop n s.bytes) (s.fresh || nat_lt 0 (line_ends (take n s.bytes))))
move_of s (Q.Token kind n) = To (Some (token_at s kind n)) (past s (take n s.bytes) (drop n s.bytes) false)
move_of s (Q.Note n) = To (Some (token_at s K.NoteFrom 3)) (in_note s (take n (drop 3 s.bytes)) (drop n (drop 3 s.bytes)))
move_of s (Q.Bad n) = Fault (F.BadByte (s.at + n))
move_of s Q.Open = Fault (F.OpenComment s.at)
move_of s Q.Wide = Fault (F.LiteralTooWide s.at)
move_of s Q.Directive = Fault (F.Directive (record { 0 = s.line }))
move_of s Q.Long = Fault (F.NameTooLong s.at)

-- at the end of a note or of the text
unfoldable pub end_of : Spot → Move
end_of s = if s.note then To (Some (token_at s K.NoteTo (close_len s.after))) (past_note s) else AtEnd

abbrev pub next_of : Spot → List ℕ → Move
next_of s [] = end_of s
next_of s (b ∷ more) = move_of s (piece_at s.note s.fresh b more)

unfoldable pub step_of : Spot → Move
step_of s = next_of s s.bytes

abbrev pub seen : Step → Move
seen S.End = AtEnd
seen (S.Gap p) = To None (spot_of p)
seen (S.Token t p) = To (Some t) (spot_of p)
seen (S.Stuck f) = Fault f

-- offsets and lines fit
pub record IsRoomy (p : Place) : Type 0 where
  pub within : p.at + length p.bytes.now + length p.after.now ≤ 4194304
  pub lines : p.line ≤ p.at + 1

abbrev pub IsFreshPast : Place → ℕ → Bool → Type 0
IsFreshPast p n fresh = fresh ≡ (p.is_fresh || nat_lt 0 (line_ends (take n p.bytes.now)))

abbrev pub IsNotePlace : Place → ℕ → Spot → Type 0
IsNotePlace p n s = s ≡ in_note (spot_of p) (take n (drop 3 p.bytes.now)) (drop n (drop 3 p.bytes.now))

abbrev pub IsPast : Place → ℕ → Bool → Spot → Type 0
IsPast p n fresh s = s ≡ past (spot_of p) (take n p.bytes.now) (drop n p.bytes.now) fresh

-- the next place is roomy too
abbrev pub GoesOn : Step → Type 0
GoesOn S.End = Unit {0}
GoesOn (S.Gap p) = IsRoomy p
GoesOn (S.Token t p) = IsRoomy p
GoesOn (S.Stuck f) = Unit {0}
