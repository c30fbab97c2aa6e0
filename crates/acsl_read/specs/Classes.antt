-- Classes of tokens, as the productions of annotations ask for them (ACSL manual, lexical rules).
--
-- class_of   of a token alone, whose word is taken from the bytes
-- class_at   of the first of some tokens, or of their end; a run of `!` before `\forall` has a class of its own
use Rattle.std.specs.Prelude.{[], ◌∷◌, ◌&&◌, ◌==◌, ℕ, List, take, Bool, true, false, codes, bytes_eq, if◌then◌else◌}
use Rattle.c_lex.specs.declared.token.Token.{Token}
use Rattle.c_lex.specs.declared.token.TokenKind.{TokenKind}
use Rattle.c_lex.specs.declared.token.TokenKind.TheVariants as T
use Rattle.c_lex.specs.declared.token.Word.TheVariants as W
use Rattle.c_lex.specs.declared.token.Punct.{Punct}
use Rattle.c_lex.specs.declared.token.Punct.TheVariants as P
use Rattle.c_lex.specs.Bytes.{begins_with}
use Rattle.c_parse.specs.Places.{text_of}
use Rattle.acsl_read.specs.declared.class.Class.{Class}
use Rattle.acsl_read.specs.declared.class.Class.TheVariants as C
use Rattle.acsl_read.specs.contracts.class.Class.{the_type}
use denote.Enum.Bare.{sameb}

unfoldable pub same_class : Class → Class → Bool
same_class = sameb the_type

-- the words of annotations
unfoldable pub words : List (List ℕ × Class)
words =
    (codes "requires", C.Requires) ∷ (codes "ensures", C.Ensures) ∷ (codes "assigns", C.Assigns) ∷
    (codes "loop", C.Loop) ∷ (codes "invariant", C.Invariant) ∷ (codes "assert", C.Assert) ∷
    (codes "check", C.Check) ∷ (codes "admit", C.Admit) ∷ (codes "integer", C.Integer) ∷
    (codes "\\result", C.Result) ∷ (codes "\\old", C.Old) ∷ (codes "\\true", C.True) ∷
    (codes "\\false", C.False) ∷ (codes "\\forall", C.Forall) ∷ (codes "\\nothing", C.Nothing) ∷ []

-- of other words those that begin with `\` are no names
abbrev pub unlisted : List ℕ → Class
unlisted text = if begins_with (λ b. b == 92) text then C.Other else C.Name

abbrev pub class_in : List (List ℕ × Class) → List ℕ → Class
class_in [] text = unlisted text
class_in (r ∷ rows) text = if bytes_eq text r.0 then r.1 else class_in rows text

unfoldable pub word_class : List ℕ → Class
word_class text = class_in words text

unfoldable pub punct_class : Punct → Class
punct_class P.ParenOpen = C.ParenOpen
punct_class P.ParenClose = C.ParenClose
punct_class P.BracketOpen = C.BracketOpen
punct_class P.BracketClose = C.BracketClose
punct_class P.Semicolon = C.Semicolon
punct_class P.Colon = C.Colon
punct_class P.Comma = C.Comma
punct_class P.DotDot = C.DotDot
punct_class P.Iff = C.Iff
punct_class P.Implies = C.Implies
punct_class P.BarBar = C.Or
punct_class P.AmpAmp = C.And
punct_class P.EqEq = C.Equal
punct_class P.BangEq = C.Distinct
punct_class P.Less = C.Rising
punct_class P.LessEq = C.Rising
punct_class P.Greater = C.Falling
punct_class P.GreaterEq = C.Falling
punct_class P.Plus = C.Plus
punct_class P.Minus = C.Minus
punct_class P.Star = C.Multiplicative
punct_class P.Slash = C.Multiplicative
punct_class P.Percent = C.Multiplicative
punct_class P.Bang = C.Bang
punct_class p = C.Other

-- keywords of C are no names
unfoldable pub kind_class : List ℕ → TokenKind → Class
kind_class text (T.Word W.Name) = word_class text
kind_class text (T.Number n) = C.Constant
kind_class text (T.Char c) = C.Constant
kind_class text (T.Punct p) = punct_class p
kind_class text k = C.Other

unfoldable pub class_of : List ℕ → Token → Class
class_of bytes t = kind_class (text_of bytes t.span) t.kind

-- after a run of `!`, which may be empty, stands `\forall`
abbrev pub leads_to_forall : List ℕ → List Token → Bool
leads_to_forall bytes [] = false
leads_to_forall bytes (t ∷ ts) =
    if same_class (class_of bytes t) C.Bang then leads_to_forall bytes ts else same_class (class_of bytes t) C.Forall

-- the class of a token before others
abbrev pub looked : Class → Bool → Class
looked c leads = if same_class c C.Bang && leads then C.BangForall else c

-- As far as nestings may go is looked ahead: a longer run of `!` is nested too deep, whatever follows it.
unfoldable pub class_at : List ℕ → List Token → Class
class_at bytes [] = C.End
class_at bytes (t ∷ ts) = looked (class_of bytes t) (leads_to_forall bytes (take 200 ts))
