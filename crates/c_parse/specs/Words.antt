-- What words and punctuators mean in a tree (C11 6.4.4, 6.5, 6.7.1, 6.7.2). Each table is asked only of
-- tokens that its production has; of others it gives some value, which no tree holds.
use Rattle.std.specs.Prelude.{Bool, true, false, Option, Some, None}
use Rattle.fc_base.specs.declared.syntax.Spot.{Spot}
use Rattle.fc_base.specs.declared.syntax.BinaryOp.{BinaryOp}
use Rattle.fc_base.specs.declared.syntax.BinaryOp.TheVariants as B
use Rattle.fc_base.specs.declared.syntax.UnaryOp.TheVariants as U
use Rattle.fc_base.specs.declared.syntax.LiteralForm.TheVariants as L
use Rattle.c_lex.specs.declared.token.TokenKind.{TokenKind}
use Rattle.c_lex.specs.declared.token.TokenKind.TheVariants as T
use Rattle.c_lex.specs.declared.token.Word.TheVariants as W
use Rattle.c_lex.specs.declared.token.Keyword.TheVariants as K
use Rattle.c_lex.specs.declared.token.Punct.{Punct}
use Rattle.c_lex.specs.declared.token.Punct.TheVariants as P
use Rattle.c_ast.specs.declared.expr.Expr.{Expr}
use Rattle.c_ast.specs.declared.expr.Expr.TheVariants as E
use Rattle.c_ast.specs.declared.expr.SpecWord.{SpecWord}
use Rattle.c_ast.specs.declared.expr.SpecWord.TheVariants as S
use Rattle.c_ast.specs.declared.unit.Storage.{Storage}
use Rattle.c_ast.specs.declared.unit.Storage.TheVariants as G
use Rattle.c_parse.specs.declared.word.Prefix.{Prefix}
use Rattle.c_parse.specs.declared.word.Prefix.TheVariants as F

-- an operator alone or in an assignment
unfoldable pub punct_op : Punct → BinaryOp
punct_op P.BarBar = B.LogicOr
punct_op P.AmpAmp = B.LogicAnd
punct_op P.Bar = B.Or
punct_op P.BarEq = B.Or
punct_op P.Caret = B.Xor
punct_op P.CaretEq = B.Xor
punct_op P.Amp = B.And
punct_op P.AmpEq = B.And
punct_op P.EqEq = B.Equal
punct_op P.BangEq = B.NotEqual
punct_op P.Less = B.Less
punct_op P.Greater = B.Greater
punct_op P.LessEq = B.LessEq
punct_op P.GreaterEq = B.GreaterEq
punct_op P.Shl = B.Shl
punct_op P.ShlEq = B.Shl
punct_op P.Shr = B.Shr
punct_op P.ShrEq = B.Shr
punct_op P.Minus = B.Sub
punct_op P.MinusEq = B.Sub
punct_op P.Star = B.Mul
punct_op P.StarEq = B.Mul
punct_op P.Slash = B.Div
punct_op P.SlashEq = B.Div
punct_op P.Percent = B.Rem
punct_op P.PercentEq = B.Rem
punct_op p = B.Add

unfoldable pub binary_op : TokenKind → BinaryOp
binary_op (T.Punct p) = punct_op p
binary_op k = B.Add

unfoldable pub assign_op : TokenKind → Option BinaryOp
assign_op (T.Punct P.Equals) = None
assign_op k = Some (binary_op k)

unfoldable pub prefix_of : TokenKind → Prefix
prefix_of (T.Punct P.PlusPlus) = F.Step true
prefix_of (T.Punct P.MinusMinus) = F.Step false
prefix_of (T.Punct P.Minus) = F.Operator U.Minus
prefix_of (T.Punct P.Bang) = F.Operator U.Not
prefix_of (T.Punct P.Tilde) = F.Operator U.Invert
prefix_of k = F.Operator U.Plus

unfoldable pub prefixed : Prefix → Spot → Expr → Expr
prefixed (F.Step up) at e = E.Step at up true e
prefixed (F.Operator op) at e = E.Unary at op e

unfoldable pub is_up : TokenKind → Bool
is_up (T.Punct P.PlusPlus) = true
is_up k = false

unfoldable pub spec_word : TokenKind → SpecWord
spec_word (T.Word (W.Keyword K.Const)) = S.Const
spec_word (T.Word (W.Keyword K.Signed)) = S.Signed
spec_word (T.Word (W.Keyword K.Unsigned)) = S.Unsigned
spec_word (T.Word (W.Keyword K.Char)) = S.Char
spec_word (T.Word (W.Keyword K.Short)) = S.Short
spec_word (T.Word (W.Keyword K.Long)) = S.Long
spec_word (T.Word (W.Keyword K.Bool)) = S.Bool
spec_word (T.Word (W.Keyword K.Void)) = S.Void
spec_word k = S.Int

unfoldable pub storage : TokenKind → Storage
storage (T.Word (W.Keyword K.Extern)) = G.Extern
storage k = G.Static

unfoldable pub literal : TokenKind → Spot → Expr
literal (T.Number n) at = E.Literal at n.value n.form n.unsigned n.longs
literal (T.Char c) at = E.Literal at c L.Character false 0
literal k at = E.Literal at 0 L.Decimal false 0
