-- What words and punctuators mean in a tree (ACSL manual, terms and predicates). Each table is asked only of
-- tokens that its production has; of others it gives some value, which no tree holds.
use Rattle.fc_base.specs.declared.syntax.Spot.{Spot}
use Rattle.fc_base.specs.declared.syntax.NoteOp.{NoteOp}
use Rattle.fc_base.specs.declared.syntax.NoteOp.TheVariants as N
use Rattle.fc_base.specs.declared.relation.Relation.{Relation}
use Rattle.fc_base.specs.declared.relation.Relation.TheVariants as R
use Rattle.c_lex.specs.declared.token.TokenKind.{TokenKind}
use Rattle.c_lex.specs.declared.token.TokenKind.TheVariants as T
use Rattle.c_lex.specs.declared.token.Punct.{Punct}
use Rattle.c_lex.specs.declared.token.Punct.TheVariants as P
use Rattle.c_ast.specs.declared.annot.Formula.{Formula}
use Rattle.c_ast.specs.declared.annot.Formula.TheVariants as F
use Rattle.c_ast.specs.declared.annot.ClauseKind.{ClauseKind}
use Rattle.c_ast.specs.declared.annot.ClauseKind.TheVariants as K
use Rattle.acsl_read.specs.declared.class.Class.{Class}
use Rattle.acsl_read.specs.declared.class.Class.TheVariants as C

unfoldable pub punct_op : Punct → NoteOp
punct_op P.Iff = N.Iff
punct_op P.Implies = N.Implies
punct_op P.BarBar = N.Or
punct_op P.AmpAmp = N.And
punct_op P.Minus = N.Sub
punct_op P.Star = N.Mul
punct_op P.Slash = N.Div
punct_op P.Percent = N.Rem
punct_op p = N.Add

unfoldable pub note_op : TokenKind → NoteOp
note_op (T.Punct p) = punct_op p
note_op k = N.Add

unfoldable pub punct_relation : Punct → Relation
punct_relation P.Less = R.Less
punct_relation P.LessEq = R.LessEq
punct_relation P.Greater = R.Greater
punct_relation P.GreaterEq = R.GreaterEq
punct_relation P.BangEq = R.NotEqual
punct_relation p = R.Equal

unfoldable pub relation : TokenKind → Relation
relation (T.Punct p) = punct_relation p
relation k = R.Equal

-- an operand after `-` or `!`
unfoldable pub prefixed : TokenKind → Spot → Formula → Formula
prefixed (T.Punct P.Minus) at f = F.Neg at f
prefixed k at f = F.Not at f

unfoldable pub number : TokenKind → Spot → Formula
number (T.Number n) at = F.Number at n.value
number (T.Char c) at = F.Number at c
number k at = F.Number at 0

-- a term or a predicate that is one word
unfoldable pub word_formula : Class → Spot → Formula
word_formula C.Result at = F.Result at
word_formula C.True at = F.True at
word_formula c at = F.False at

-- the kind of a clause by its word; of one after `loop`, `loop_kind`
unfoldable pub clause_kind : Class → ClauseKind
clause_kind C.Requires = K.Requires
clause_kind C.Ensures = K.Ensures
clause_kind C.Assigns = K.Assigns
clause_kind C.Check = K.Check
clause_kind C.Admit = K.Admit
clause_kind c = K.Assert

unfoldable pub loop_kind : Class → ClauseKind
loop_kind C.Invariant = K.LoopInvariant
loop_kind c = K.LoopAssigns
