-- Places of nodes, and the words at them.
use Rattle.std.specs.Prelude.{◌-◌, [], ℕ, List, Option, Some, None, take, drop, length, nat_lt, if◌then◌else◌}
use Rattle.std.specs.Str.{is_utf8}
use Rattle.fc_base.specs.declared.ids.Span.{Span}
use Rattle.fc_base.specs.declared.syntax.Spot.{Spot}
use Rattle.c_lex.specs.declared.token.Token.{Token}
use Rattle.c_ast.specs.declared.expr.Ident.{Ident}

unfoldable pub spot_of : Token → Spot
spot_of t = record { span = t.span; line = t.line }

-- from the beginning of one place to the end of another, on the line of the first
unfoldable pub reach : Spot → Spot → Spot
reach a b = record { span = record { from = a.span.from; to = b.span.to }; line = a.line }

abbrev pub up_to : Spot → Option Spot → Spot
up_to a None = a
up_to a (Some b) = reach a b

-- the bytes at a place
unfoldable pub text_of : List ℕ → Span → List ℕ
text_of bytes span = take (span.to - span.from) (drop span.from bytes)

-- A text as a name. The words of C's tokens have at most 256 bytes, all of them letters, digits and `_`,
-- so each is its own name; other texts give the empty one.
unfoldable pub word_of : List ℕ → List ℕ
word_of text = if nat_lt 256 (length text) then [] else (if is_utf8 text then text else [])

unfoldable pub ident_of : List ℕ → Token → Ident
ident_of bytes t = record { at = spot_of t; name = word_of (text_of bytes t.span) }
