-- Which tokens are a text of C, and where the reading of others stops.
--
-- IsUnit     the tokens are a whole text with these items
-- IsFault    what is answered for other tokens: the place at which the reading stops, and its token's word
--            where that token is of the part of C that is left out
use Rattle.std.specs.Prelude.{◌≡◌, ◌⊎◌, ◌<◌, ◌-◌, [], ◌∷◌, ℕ, List, Bool, true, false, length, drop, Result, Ok, Err}
use Rattle.c_lex.specs.declared.token.Token.{Token}
use Rattle.c_lex.specs.declared.token.TokenKind.{TokenKind}
use Rattle.c_lex.specs.declared.token.TokenKind.TheVariants as T
use Rattle.c_lex.specs.declared.token.Word.TheVariants as W
use Rattle.c_lex.specs.declared.token.Keyword.{Keyword}
use Rattle.c_lex.specs.declared.token.Keyword.TheVariants as K
use Rattle.c_lex.specs.declared.token.Punct.{Punct}
use Rattle.c_lex.specs.declared.token.Punct.TheVariants as P
use Rattle.c_ast.specs.declared.unit.Item.{Item}
use Rattle.c_ast.specs.declared.unit.Unit.{Unit as Tree}
use Rattle.c_parse.specs.declared.text.ParseFault.{ParseFault}
use Rattle.c_parse.specs.declared.text.ParseFault.TheVariants as F
use Rattle.grammar_forms.specs.Forms.{Made}
use Rattle.grammar_forms.specs.Derives.{Unexpected, TooDeep, IsText, StopsAt}
use Rattle.c_parse.specs.Places.{text_of}
use Rattle.c_parse.specs.Table.{UnitItems}
use Rattle.c_parse.specs.Trees.{Found, OfItems}
use Rattle.c_parse.specs.Grammar.{grammar}

-- a whole text: notes and external declarations up to the last token
abbrev pub IsUnit : List ℕ → List Item → List Token → Type 0
IsUnit bytes is ts = IsText (grammar bytes) 0 UnitItems ts (Made (OfItems is)) []

-- keywords of C11 that this grammar leaves out, and storage classes where none may stand
unfoldable pub unsupported_keyword : Keyword → Bool
unsupported_keyword K.Auto = true
unsupported_keyword K.Case = true
unsupported_keyword K.Default = true
unsupported_keyword K.Double = true
unsupported_keyword K.Enum = true
unsupported_keyword K.Extern = true
unsupported_keyword K.Float = true
unsupported_keyword K.Goto = true
unsupported_keyword K.Inline = true
unsupported_keyword K.Register = true
unsupported_keyword K.Restrict = true
unsupported_keyword K.Sizeof = true
unsupported_keyword K.Static = true
unsupported_keyword K.Struct = true
unsupported_keyword K.Switch = true
unsupported_keyword K.Typedef = true
unsupported_keyword K.Union = true
unsupported_keyword K.Volatile = true
unsupported_keyword K.Alignas = true
unsupported_keyword K.Alignof = true
unsupported_keyword K.Atomic = true
unsupported_keyword K.Complex = true
unsupported_keyword K.Generic = true
unsupported_keyword K.Imaginary = true
unsupported_keyword K.Noreturn = true
unsupported_keyword K.StaticAssert = true
unsupported_keyword K.ThreadLocal = true
unsupported_keyword k = false

-- punctuators of pointers, members, labels, lists and further dimensions
unfoldable pub unsupported_punct : Punct → Bool
unsupported_punct P.Star = true
unsupported_punct P.Amp = true
unsupported_punct P.Dot = true
unsupported_punct P.Arrow = true
unsupported_punct P.Ellipsis = true
unsupported_punct P.Comma = true
unsupported_punct P.Colon = true
unsupported_punct P.ParenOpen = true
unsupported_punct P.BracketOpen = true
unsupported_punct p = false

unfoldable pub unsupported_kind : TokenKind → Bool
unsupported_kind (T.Word (W.Keyword k)) = unsupported_keyword k
unsupported_kind T.Text = true
unsupported_kind (T.Punct p) = unsupported_punct p
unsupported_kind k = false

abbrev pub is_unsupported : List Token → Bool
is_unsupported [] = false
is_unsupported (t ∷ ts) = unsupported_kind t.kind

-- the place of the first of these tokens, or of the text's end
abbrev pub place_at : List ℕ → List Token → ℕ
place_at bytes [] = length bytes
place_at bytes (t ∷ ts) = t.span.from

abbrev pub word_at : List ℕ → List Token → List ℕ
word_at bytes [] = []
word_at bytes (t ∷ ts) = text_of bytes t.span

-- A reading needs another token than the first of `left`: inside the items, or after the last of them.
abbrev pub StopsBefore : List ℕ → List Token → List Token → Type 0
StopsBefore bytes ts left =
    ((n : ℕ) × StopsAt (grammar bytes) 0 UnitItems ts Unexpected n × (left ≡ drop (length ts - n) ts))
    ⊎ ((v : Found) × IsText (grammar bytes) 0 UnitItems ts v left × (0 < length left))

-- what is answered for a token that isn't needed
abbrev pub Refuses : List ℕ → List Token → ParseFault → Type 0
Refuses bytes left (F.NotC at) = (is_unsupported left ≡ false) × (at ≡ place_at bytes left)
Refuses bytes left (F.Unsupported word at) =
    (is_unsupported left ≡ true) × (word ≡ word_at bytes left) × (at ≡ place_at bytes left)
Refuses bytes left (F.TooDeep at) = ⊥
Refuses bytes left F.Memory = Unit {0}

-- a reading stops at a token that opens the 201st nesting
abbrev pub OpensTooMany : List ℕ → List Token → ℕ → Type 0
OpensTooMany bytes ts at =
    (n : ℕ) × StopsAt (grammar bytes) 0 UnitItems ts TooDeep n × (at ≡ place_at bytes (drop (length ts - n) ts))

abbrev pub IsFault : List ℕ → List Token → ParseFault → Type 0
IsFault bytes ts (F.NotC at) = (left : List Token) × StopsBefore bytes ts left × Refuses bytes left (F.NotC at)
IsFault bytes ts (F.Unsupported word at) =
    (left : List Token) × StopsBefore bytes ts left × Refuses bytes left (F.Unsupported word at)
IsFault bytes ts (F.TooDeep at) = OpensTooMany bytes ts at
IsFault bytes ts F.Memory = Unit {0}

-- where the tokens are a text, the answer is its tree, or there is no memory
abbrev pub IsOnly : List Item → Result Tree ParseFault → Type 0
IsOnly is (Ok u) = is ≡ u.items
IsOnly is (Err (F.NotC at)) = ⊥
IsOnly is (Err (F.Unsupported word at)) = ⊥
IsOnly is (Err (F.TooDeep at)) = ⊥
IsOnly is (Err F.Memory) = Unit {0}
