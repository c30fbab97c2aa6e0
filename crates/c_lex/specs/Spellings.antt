-- The spellings of tokens: tables of words and punctuators, and constants (C11 6.4.1 to 6.4.6; ACSL
-- manual, lexical rules).
use Rattle.std.specs.Prelude.{◌≡◌, ◌⊎◌, ◌≤◌, ◌+◌, ◌*◌, ◌-◌, ◌==◌, ◌&&◌, ◌||◌, ◌∷◌, ◌++◌, [], ℕ, List, Bool, true, false, Option, Some, None, codes, not, nat_le, length, bytes_eq, if◌then◌else◌}
use Rattle.std.specs.List.{list_all}
use Rattle.std.specs.Char.{is_ascii_alphabetic, is_ascii_digit}
use Rattle.fc_base.specs.declared.syntax.LiteralForm.{LiteralForm}
use Rattle.fc_base.specs.declared.syntax.LiteralForm.TheVariants as L
use Rattle.c_lex.specs.declared.token.Keyword.{Keyword}
use Rattle.c_lex.specs.declared.token.Keyword.TheVariants as K
use Rattle.c_lex.specs.declared.token.Number.{Number}
use Rattle.c_lex.specs.declared.token.Punct.{Punct}
use Rattle.c_lex.specs.declared.token.Punct.TheVariants as P
use Rattle.c_lex.specs.declared.token.Word.{Word}
use Rattle.c_lex.specs.declared.token.Word.TheVariants as W
use Rattle.c_lex.specs.Bytes.{begins_with, begins, is_letter, is_word_byte, is_octal_digit, is_hexadecimal_digit, is_in_line}

-- Tables.

-- a row of a table: a spelling, what it spells, and whether it is one in notes alone
abbrev pub Row : Type 0 → Type 0
Row A = List ℕ × A × Bool

-- the table has this spelling, in a note or outside
abbrev pub Has : {A : Type 0} → Bool → List (Row A) → List ℕ → A → Type 0
Has note [] text v = ⊥
Has note (r ∷ rows) text v = (((note || not r.2) ≡ true) × (r.0 ≡ text) × (r.1 ≡ v)) ⊎ Has note rows text v

-- of the spellings that the bytes begin with, this is the longest (C11 6.4, paragraph 4)
pub record IsLongest {A : Type 0} (note : Bool) (rows : List (Row A)) (text : List ℕ) (v : A) (bytes : List ℕ) : Type 0 where
  pub row : Has note rows text v
  pub first : begins text bytes ≡ true
  pub longest : (other : List ℕ) (w : A) → Has note rows other w → begins other bytes ≡ true → length other ≤ length text

-- the punctuators of C11 6.4.6, and those of notes
unfoldable pub puncts : List (Row Punct)
puncts =
    (codes ";", P.Semicolon, false) ∷ (codes ",", P.Comma, false) ∷
    (codes "(", P.ParenOpen, false) ∷ (codes ")", P.ParenClose, false) ∷
    (codes "==>", P.Implies, true) ∷ (codes "==", P.EqEq, false) ∷ (codes "=", P.Equals, false) ∷
    (codes "[", P.BracketOpen, false) ∷ (codes "]", P.BracketClose, false) ∷
    (codes "{", P.BraceOpen, false) ∷ (codes "}", P.BraceClose, false) ∷
    (codes "++", P.PlusPlus, false) ∷ (codes "+=", P.PlusEq, false) ∷
    (codes "+", P.Plus, false) ∷ (codes "->", P.Arrow, false) ∷
    (codes "--", P.MinusMinus, false) ∷ (codes "-=", P.MinusEq, false) ∷
    (codes "-", P.Minus, false) ∷ (codes "*=", P.StarEq, false) ∷ (codes "*", P.Star, false) ∷
    (codes "<==>", P.Iff, true) ∷ (codes "<<=", P.ShlEq, false) ∷ (codes "<<", P.Shl, false) ∷
    (codes "<=", P.LessEq, false) ∷ (codes "<:", P.LessColon, false) ∷
    (codes "<%", P.LessPercent, false) ∷ (codes "<", P.Less, false) ∷
    (codes ">>=", P.ShrEq, false) ∷ (codes ">>", P.Shr, false) ∷
    (codes ">=", P.GreaterEq, false) ∷ (codes ">", P.Greater, false) ∷
    (codes "...", P.Ellipsis, false) ∷ (codes "..", P.DotDot, true) ∷ (codes ".", P.Dot, false) ∷
    (codes "&&", P.AmpAmp, false) ∷ (codes "&=", P.AmpEq, false) ∷ (codes "&", P.Amp, false) ∷
    (codes "||", P.BarBar, false) ∷ (codes "|=", P.BarEq, false) ∷ (codes "|", P.Bar, false) ∷
    (codes "!=", P.BangEq, false) ∷ (codes "!", P.Bang, false) ∷
    (codes ":>", P.ColonGreater, false) ∷ (codes ":", P.Colon, false) ∷
    (codes "?", P.Question, false) ∷ (codes "/=", P.SlashEq, false) ∷
    (codes "/", P.Slash, false) ∷ (codes "%:%:", P.PercentColonTwice, false) ∷
    (codes "%=", P.PercentEq, false) ∷ (codes "%>", P.PercentGreater, false) ∷
    (codes "%:", P.PercentColon, false) ∷ (codes "%", P.Percent, false) ∷
    (codes "^=", P.CaretEq, false) ∷ (codes "^", P.Caret, false) ∷ (codes "~", P.Tilde, false) ∷
    (codes "##", P.HashHash, false) ∷ (codes "#", P.Hash, false) ∷ []

-- the suffixes of C11 6.4.4.1: whether there is `u` or `U`, and how many `l` or `L`
unfoldable pub suffixes : List (Row (Bool × ℕ))
suffixes =
    (codes "ull", (true, 2), false) ∷ (codes "llu", (true, 2), false) ∷
    (codes "uLL", (true, 2), false) ∷ (codes "LLu", (true, 2), false) ∷
    (codes "Ull", (true, 2), false) ∷ (codes "llU", (true, 2), false) ∷
    (codes "ULL", (true, 2), false) ∷ (codes "LLU", (true, 2), false) ∷
    (codes "ul", (true, 1), false) ∷ (codes "lu", (true, 1), false) ∷
    (codes "uL", (true, 1), false) ∷ (codes "Lu", (true, 1), false) ∷
    (codes "Ul", (true, 1), false) ∷ (codes "lU", (true, 1), false) ∷
    (codes "UL", (true, 1), false) ∷ (codes "LU", (true, 1), false) ∷
    (codes "ll", (false, 2), false) ∷ (codes "LL", (false, 2), false) ∷
    (codes "u", (true, 0), false) ∷ (codes "U", (true, 0), false) ∷
    (codes "l", (false, 1), false) ∷ (codes "L", (false, 1), false) ∷ ([], (false, 0), false) ∷ []

-- the keywords of C11 6.4.1
unfoldable pub keywords : List (List ℕ × Keyword)
keywords =
    (codes "auto", K.Auto) ∷ (codes "break", K.Break) ∷ (codes "case", K.Case) ∷
    (codes "char", K.Char) ∷ (codes "const", K.Const) ∷ (codes "continue", K.Continue) ∷
    (codes "default", K.Default) ∷ (codes "do", K.Do) ∷ (codes "double", K.Double) ∷
    (codes "else", K.Else) ∷ (codes "enum", K.Enum) ∷ (codes "extern", K.Extern) ∷
    (codes "float", K.Float) ∷ (codes "for", K.For) ∷ (codes "goto", K.Goto) ∷
    (codes "if", K.If) ∷ (codes "inline", K.Inline) ∷ (codes "int", K.Int) ∷
    (codes "long", K.Long) ∷ (codes "register", K.Register) ∷ (codes "restrict", K.Restrict) ∷
    (codes "return", K.Return) ∷ (codes "short", K.Short) ∷ (codes "signed", K.Signed) ∷
    (codes "sizeof", K.Sizeof) ∷ (codes "static", K.Static) ∷ (codes "struct", K.Struct) ∷
    (codes "switch", K.Switch) ∷ (codes "typedef", K.Typedef) ∷ (codes "union", K.Union) ∷
    (codes "unsigned", K.Unsigned) ∷ (codes "void", K.Void) ∷ (codes "volatile", K.Volatile) ∷
    (codes "while", K.While) ∷ (codes "_Alignas", K.Alignas) ∷ (codes "_Alignof", K.Alignof) ∷
    (codes "_Atomic", K.Atomic) ∷ (codes "_Bool", K.Bool) ∷ (codes "_Complex", K.Complex) ∷
    (codes "_Generic", K.Generic) ∷ (codes "_Imaginary", K.Imaginary) ∷
    (codes "_Noreturn", K.Noreturn) ∷ (codes "_Static_assert", K.StaticAssert) ∷
    (codes "_Thread_local", K.ThreadLocal) ∷ []

-- Words.

-- a word begins with a letter or `_`, in a note also with `\` (92)
abbrev pub begins_word : Bool → ℕ → Bool
begins_word note b = is_letter b || note && b == 92

-- it goes on with letters, digits and `_`, after `\` with letters alone
abbrev pub goes_on : ℕ → ℕ → Bool
goes_on first b = if first == 92 then is_ascii_alphabetic b else is_word_byte b

-- the text is a word, which the rest doesn't go on with
abbrev pub is_word : Bool → List ℕ → List ℕ → Bool
is_word note [] rest = false
is_word note (b ∷ bs) rest =
    begins_word note b && list_all (goes_on b) bs && not (begins_with (goes_on b) rest)
    && (not (b == 92) || nat_le 1 (length bs))

-- the keyword of that spelling, else a name
abbrev pub word_in : List (List ℕ × Keyword) → List ℕ → Word
word_in [] text = W.Name
word_in (r ∷ rows) text = if bytes_eq text r.0 then W.Keyword r.1 else word_in rows text

unfoldable pub word_of : List ℕ → Word
word_of text = word_in keywords text

-- Integer constants.

-- `0x` or `0X` with a digit begins a hexadecimal constant, another `0` an octal one (C11 6.4.4.1)
abbrev pub is_hexadecimal : List ℕ → Bool
is_hexadecimal [] = false
is_hexadecimal (b ∷ []) = false
is_hexadecimal (b ∷ x ∷ rest) = b == 48 && (x == 120 || x == 88) && begins_with is_hexadecimal_digit rest

unfoldable pub form_of : List ℕ → LiteralForm
form_of bytes =
    if is_hexadecimal bytes then L.Hexadecimal else (
    if begins_with (λ b. b == 48) bytes then L.Octal else L.Decimal)

-- how many bytes stand before the digits
abbrev pub prefix_of : LiteralForm → ℕ
prefix_of L.Hexadecimal = 2
prefix_of f = 0

abbrev pub is_digit : LiteralForm → ℕ → Bool
is_digit L.Hexadecimal b = is_hexadecimal_digit b
is_digit L.Octal b = is_octal_digit b
is_digit f b = is_ascii_digit b

abbrev pub digit : ℕ → ℕ
digit b = if nat_le b 57 then b - 48 else (if nat_le b 70 then b - 55 else b - 87)

abbrev pub with_digit : LiteralForm → ℕ → ℕ → ℕ
with_digit L.Hexadecimal n b = n * 16 + digit b
with_digit L.Octal n b = n * 8 + digit b
with_digit f n b = n * 10 + digit b

-- the value of digits that stand after those of n
abbrev pub value_of : LiteralForm → ℕ → List ℕ → ℕ
value_of f n [] = n
value_of f n (b ∷ bs) = value_of f (with_digit f n b) bs

-- the text is this constant, of any size: as many digits as there are, and the longest suffix
pub record IsNumber (n : Number) (text rest : List ℕ) : Type 0 where
  pub prefix : List ℕ
  pub digits : List ℕ
  pub suffix : List ℕ
  pub begins_so : begins_with is_ascii_digit (text ++ rest) ≡ true
  pub spelled : text ≡ prefix ++ (digits ++ suffix)
  pub form : n.form ≡ form_of (text ++ rest)
  pub prefix_len : length prefix ≡ prefix_of n.form
  pub are_digits : list_all (is_digit n.form) digits ≡ true
  pub all_digits : begins_with (is_digit n.form) (suffix ++ rest) ≡ false
  pub value : n.value ≡ value_of n.form 0 digits
  pub suffix_is : IsLongest false suffixes suffix (n.unsigned, n.longs) (suffix ++ rest)

-- what may not follow a constant at once: a letter, a digit, `_` or `.`, but in a note `..`
abbrev pub spoils : Bool → List ℕ → Bool
spoils note rest = begins_with is_word_byte rest || begins (codes ".") rest && not (note && begins (codes "..") rest)

-- Character constants and string literals.

-- the value of an escape sequence, by the byte after `\` (C11 6.4.4.4)
unfoldable pub escape : ℕ → Option ℕ
escape b =
    if b == 110 then Some 10 else (if b == 116 then Some 9 else (if b == 114 then Some 13 else (
    if b == 48 then Some 0 else (if b == 92 then Some 92 else (if b == 39 then Some 39 else (
    if b == 34 then Some 34 else None))))))

-- a byte that stands for itself: 32 to 126 but for `'` and `\`
abbrev pub is_plain : ℕ → Bool
is_plain b = nat_le 32 b && nat_le b 126 && not (b == 39) && not (b == 92)

-- the text is the constant of this value
abbrev pub IsChar : ℕ → List ℕ → Type 0
IsChar c text =
    ((text ≡ 39 ∷ c ∷ 39 ∷ []) × (is_plain c ≡ true))
    ⊎ ((b : ℕ) × (text ≡ 39 ∷ 92 ∷ b ∷ 39 ∷ []) × (escape b ≡ Some c))

-- bytes on one line without an unescaped quote; `escaped` says whether a `\` stands before them
abbrev pub is_quotable : Bool → List ℕ → Bool
is_quotable escaped [] = not escaped
is_quotable escaped (b ∷ bs) =
    is_in_line b && (if escaped then is_quotable false bs else not (b == 34) && is_quotable (b == 92) bs)

-- C11 6.4.5
abbrev pub IsText : List ℕ → Type 0
IsText text = (body : List ℕ) × (text ≡ 34 ∷ (body ++ 34 ∷ [])) × (is_quotable false body ≡ true)
