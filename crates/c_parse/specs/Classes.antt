-- Classes of tokens, as the productions of C ask for them.
--
-- class_of   of a token alone
-- class_at   of the first of some tokens, or of their end; three of them depend on the token after it:
--            `(` before a specifier, `void` before `)`, `,` before `}`
use Rattle.std.specs.Prelude.{[], ◌∷◌, List, Bool}
use Rattle.c_lex.specs.declared.token.Token.{Token}
use Rattle.c_lex.specs.declared.token.TokenKind.{TokenKind}
use Rattle.c_lex.specs.declared.token.TokenKind.TheVariants as T
use Rattle.c_lex.specs.declared.token.Word.TheVariants as W
use Rattle.c_lex.specs.declared.token.Keyword.{Keyword}
use Rattle.c_lex.specs.declared.token.Keyword.TheVariants as K
use Rattle.c_lex.specs.declared.token.Punct.{Punct}
use Rattle.c_lex.specs.declared.token.Punct.TheVariants as P
use Rattle.c_parse.specs.declared.class.Class.{Class}
use Rattle.c_parse.specs.declared.class.Class.TheVariants as C
use Rattle.c_parse.specs.contracts.class.Class.{the_type}
use denote.Enum.Bare.{sameb}

unfoldable pub same_class : Class → Class → Bool
same_class = sameb the_type

unfoldable pub keyword_class : Keyword → Class
keyword_class K.Static = C.Storage
keyword_class K.Extern = C.Storage
keyword_class K.Const = C.TypeWord
keyword_class K.Signed = C.TypeWord
keyword_class K.Unsigned = C.TypeWord
keyword_class K.Char = C.TypeWord
keyword_class K.Short = C.TypeWord
keyword_class K.Int = C.TypeWord
keyword_class K.Long = C.TypeWord
keyword_class K.Bool = C.TypeWord
keyword_class K.Void = C.Void
keyword_class K.If = C.If
keyword_class K.Else = C.Else
keyword_class K.While = C.While
keyword_class K.Do = C.Do
keyword_class K.For = C.For
keyword_class K.Break = C.Break
keyword_class K.Continue = C.Continue
keyword_class K.Return = C.Return
keyword_class k = C.Other

unfoldable pub punct_class : Punct → Class
punct_class P.ParenOpen = C.ParenOpen
punct_class P.ParenClose = C.ParenClose
punct_class P.BracketOpen = C.BracketOpen
punct_class P.BracketClose = C.BracketClose
punct_class P.BraceOpen = C.BraceOpen
punct_class P.BraceClose = C.BraceClose
punct_class P.Semicolon = C.Semicolon
punct_class P.Comma = C.Comma
punct_class P.Question = C.Question
punct_class P.Colon = C.Colon
punct_class P.BarBar = C.LogicOr
punct_class P.AmpAmp = C.LogicAnd
punct_class P.Bar = C.Or
punct_class P.Caret = C.Xor
punct_class P.Amp = C.And
punct_class P.EqEq = C.Equality
punct_class P.BangEq = C.Equality
punct_class P.Less = C.Relation
punct_class P.Greater = C.Relation
punct_class P.LessEq = C.Relation
punct_class P.GreaterEq = C.Relation
punct_class P.Shl = C.Shift
punct_class P.Shr = C.Shift
punct_class P.Plus = C.Additive
punct_class P.Minus = C.Additive
punct_class P.Star = C.Multiplicative
punct_class P.Slash = C.Multiplicative
punct_class P.Percent = C.Multiplicative
punct_class P.Bang = C.Complement
punct_class P.Tilde = C.Complement
punct_class P.PlusPlus = C.Step
punct_class P.MinusMinus = C.Step
punct_class P.Equals = C.Equals
punct_class P.PlusEq = C.AssignOp
punct_class P.MinusEq = C.AssignOp
punct_class P.StarEq = C.AssignOp
punct_class P.SlashEq = C.AssignOp
punct_class P.PercentEq = C.AssignOp
punct_class P.ShlEq = C.AssignOp
punct_class P.ShrEq = C.AssignOp
punct_class P.AmpEq = C.AssignOp
punct_class P.CaretEq = C.AssignOp
punct_class P.BarEq = C.AssignOp
punct_class p = C.Other

unfoldable pub class_of : TokenKind → Class
class_of (T.Word W.Name) = C.Name
class_of (T.Word (W.Keyword k)) = keyword_class k
class_of (T.Number n) = C.Constant
class_of (T.Char c) = C.Constant
class_of T.Text = C.Other
class_of (T.Punct p) = punct_class p
class_of T.NoteFrom = C.NoteFrom
class_of T.NoteTo = C.NoteTo

-- the class of a token before one of the class `next`
unfoldable pub looked : Class → Class → Class
looked C.ParenOpen C.TypeWord = C.ParenType
looked C.ParenOpen C.Void = C.ParenType
looked C.Void C.ParenClose = C.VoidLast
looked C.Comma C.BraceClose = C.CommaLast
looked c next = c

unfoldable pub class_at : List Token → Class
class_at [] = C.End
class_at (t ∷ []) = class_of t.kind
class_at (t ∷ u ∷ ts) = looked (class_of t.kind) (class_of u.kind)
