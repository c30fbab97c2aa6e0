-- What each production makes weighs at most its tokens.
use Rattle.std.proofs.Common.{◌≡◌, refl, false, true, ◌+◌, ◌-◌, ◌≤◌, ◌++◌, ◌∷◌, [], ℕ, List, Option, Some, None, length, length-append, arith}
use Rattle.fc_base.specs.declared.syntax.Spot.{Spot}
use Rattle.fc_base.specs.declared.syntax.LiteralForm.TheVariants as L
use Rattle.c_lex.specs.declared.token.Token.{Token}
use Rattle.c_lex.specs.declared.token.TokenKind.{TokenKind}
use Rattle.c_lex.specs.declared.token.TokenKind.TheVariants as T
use Rattle.c_ast.specs.declared.expr.Expr.{Expr}
use Rattle.c_ast.specs.declared.expr.SpecWord.{SpecWord}
use Rattle.c_ast.specs.declared.expr.Spec.{Spec}
use Rattle.c_ast.specs.declared.expr.Ident.{Ident}
use Rattle.c_ast.specs.declared.unit.Item.{Item}
use Rattle.c_ast.specs.Weight.{weight_of_expr, weight_of_exprs, weight_of_maybe, weight_of_spec, weight_of_name, weight_of_length, weight_of_init}
use Rattle.c_ast.specs.Weight.{weight_of_declr, weight_of_declrs, weight_of_first, weight_of_stmt, weight_of_stmts, weight_of_sub}
use Rattle.c_ast.specs.Weight.{weight_of_formal, weight_of_formals, weight_of_body, weight_of_item, weight_of_items}
use Rattle.c_ast.proofs.Weights.{literal_weighs, name_weighs, index_weighs, call_weighs, unary_weighs, binary_weighs, assign_weighs, step_weighs, cond_weighs, cast_weighs}
use Rattle.c_ast.proofs.Weights.{declare_weighs, expression_weighs, if_weighs, else_weighs, while_weighs, do_weighs, for_weighs, break_weighs, continue_weighs}
use Rattle.c_ast.proofs.Weights.{return_weighs, empty_weighs, block_weighs, note_weighs, sub_weighs}
use Rattle.grammar_forms.specs.Forms.{Made}
use Rattle.grammar_forms.specs.Weights.{IsLight}
use Rattle.grammar_forms.proofs.Light.{text_weighs}
use Rattle.c_parse.specs.declared.level.Level.{Level}
use Rattle.c_parse.specs.declared.level.Level.TheVariants as V
use Rattle.c_parse.specs.declared.part.Part.{Part}
use Rattle.c_parse.specs.declared.part.DeclrRest.{DeclrRest}
use Rattle.c_parse.specs.declared.part.Ending.{Ending}
use Rattle.c_parse.specs.declared.part.Ending.TheVariants as G
use Rattle.c_parse.specs.declared.part.Governed.{Governed}
use Rattle.c_parse.specs.declared.part.Head.{Head}
use Rattle.c_parse.specs.declared.part.Stored.{Stored}
use Rattle.c_parse.specs.declared.part.Named.{Named}
use Rattle.c_parse.specs.declared.part.Named.TheVariants as M
use Rattle.c_parse.specs.declared.word.Prefix.{Prefix}
use Rattle.c_parse.specs.declared.word.Prefix.TheVariants as F
use Rattle.c_parse.specs.Places.{spot_of, reach, ident_of}
use Rattle.c_parse.specs.Words.{binary_op, assign_op, prefix_of, prefixed, is_up, spec_word, literal}
use Rattle.c_parse.specs.Table as R
use Rattle.c_parse.specs.Trees.{Value, OfItems, part_in, joins_in, ends_in, exprs_in, maybe_in, spec_in, words_in, name_in, bracketed_in, started_in, rest_in}
use Rattle.c_parse.specs.Trees.{declr_in, declrs_in, spots_in, placed_in, governed_in, else_in, head_in, first_in, braced_in, stmt_in, stmts_in}
use Rattle.c_parse.specs.Trees.{formal_in, formals_in, ended_in, named_in, item_in, items_in}
use Rattle.c_parse.specs.Trees.{join, joined, end_expr, with_end, with_ends, assign_part, cond_part, prefix_part, spec_from, first_expr, if_part, formal_of, external, stored_of, note_in}
use Rattle.c_parse.specs.Grammar.{grammar}
use Rattle.c_parse.specs.Program.{IsUnit}

-- Weights of values that are no trees by themselves.

abbrev weight_of_joins : List (Token × Part) → ℕ
weight_of_joins [] = 0
weight_of_joins (j ∷ js) = 1 + weight_of_expr j.1.expr + weight_of_joins js

abbrev weight_of_end : Ending → ℕ
weight_of_end (G.At i) = weight_of_expr i + 2
weight_of_end (G.With es) = weight_of_exprs es + 2
weight_of_end G.Step = 1

abbrev weight_of_ends : List (Ending × Token) → ℕ
weight_of_ends [] = 0
weight_of_ends (x ∷ xs) = weight_of_end x.0 + weight_of_ends xs

abbrev weight_of_rest : DeclrRest → ℕ
weight_of_rest r = weight_of_length r.length + weight_of_init r.value

abbrev weight_of_else : Option Governed → ℕ
weight_of_else None = 0
weight_of_else (Some g) = 1 + weight_of_sub g.sub

abbrev weight_of_head : Head → ℕ
weight_of_head h = 3 + weight_of_first h.first + weight_of_maybe h.cond + weight_of_maybe h.update

abbrev weight_of_named : Named → ℕ
weight_of_named (M.Function fs e) = 2 + weight_of_formals fs + weight_of_body e.body
weight_of_named (M.Global r ds end) = 1 + weight_of_rest r + weight_of_declrs ds

-- what the values of a production weigh
abbrev weigh : R.Production → Value → ℕ
weigh R.Assign a = weight_of_expr (part_in (Made a)).expr
weigh R.Cond a = weight_of_expr (part_in (Made a)).expr
weigh (R.Binary l) a = weight_of_expr (part_in (Made a)).expr
weigh (R.More l) a = weight_of_joins (joins_in (Made a))
weigh R.Unary a = weight_of_expr (part_in (Made a)).expr
weigh R.Cast a = weight_of_expr (part_in (Made a)).expr
weigh R.Postfix a = weight_of_expr (part_in (Made a)).expr
weigh R.Suffixes a = weight_of_ends (ends_in (Made a))
weigh R.Primary a = weight_of_expr (part_in (Made a)).expr
weigh R.Args a = weight_of_exprs (exprs_in (Made a))
weigh R.MoreArgs a = weight_of_exprs (exprs_in (Made a))
weigh R.Parens a = weight_of_expr (part_in (Made a)).expr + 2
weigh R.MaybeExpr a = weight_of_maybe (maybe_in (Made a))
weigh R.Specs a = weight_of_spec (spec_in (Made a))
weigh R.FirstSpecs a = weight_of_spec (spec_in (Made a))
weigh R.MoreWords a = length (words_in (Made a))
weigh R.MaybeName a = weight_of_name (name_in (Made a))
weigh R.ArrayLength a = weight_of_length (bracketed_in (Made a)).length
weigh R.Initialiser a = weight_of_init (started_in (Made a)).value
weigh R.Braces a = weight_of_init (started_in (Made a)).value - 1
weigh R.Values a = weight_of_exprs (exprs_in (Made a))
weigh R.MoreValues a = weight_of_exprs (exprs_in (Made a))
weigh R.BraceEnd a = 1
weigh R.DeclrTail a = weight_of_rest (rest_in (Made a))
weigh R.Declr a = weight_of_declr (declr_in (Made a)) - 1
weigh R.MoreDeclrs a = weight_of_declrs (declrs_in (Made a))
weigh R.Declrs a = weight_of_declrs (declrs_in (Made a)) - 1
weigh R.Note a = 1
weigh R.Notes a = length (spots_in (Made a))
weigh R.Declaration a = weight_of_stmt (placed_in (Made a)).stmt
weigh R.ExprStatement a = weight_of_stmt (placed_in (Made a)).stmt
weigh R.Jump a = weight_of_stmt (placed_in (Made a)).stmt
weigh R.IfStatement a = weight_of_stmt (placed_in (Made a)).stmt
weigh R.ElsePart a = weight_of_else (else_in (Made a))
weigh R.WhileStatement a = weight_of_stmt (placed_in (Made a)).stmt
weigh R.DoStatement a = weight_of_stmt (placed_in (Made a)).stmt
weigh R.ForStatement a = weight_of_stmt (placed_in (Made a)).stmt
weigh R.ForHead a = weight_of_head (head_in (Made a))
weigh R.ForFirst a = weight_of_first (first_in (Made a))
weigh R.Block a = 2 + weight_of_stmts (braced_in (Made a)).stmts
weigh R.Statement a = weight_of_stmt (placed_in (Made a)).stmt
weigh R.BlockItem a = weight_of_stmt (stmt_in (Made a))
weigh R.BlockItems a = weight_of_stmts (stmts_in (Made a))
weigh R.Sub a = weight_of_sub (governed_in (Made a)).sub
weigh R.Formal a = weight_of_formal (formal_in (Made a)) - 1
weigh R.FirstFormal a = weight_of_formal (formal_in (Made a)) - 1
weigh R.MoreFormals a = weight_of_formals (formals_in (Made a))
weigh R.Formals a = weight_of_formals (formals_in (Made a)) - 1
weigh R.FormalParens a = 1 + weight_of_formals (formals_in (Made a))
weigh R.FunctionEnd a = 1 + weight_of_body (ended_in (Made a)).body
weigh R.FunctionTail a = weight_of_named (named_in (Made a))
weigh R.GlobalTail a = weight_of_named (named_in (Made a))
weigh R.ExternalTail a = weight_of_named (named_in (Made a))
weigh R.External a = weight_of_item (item_in (Made a))
weigh R.UnitItem a = weight_of_item (item_in (Made a))
weigh R.UnitItems a = weight_of_items (items_in (Made a))
weigh s a = 0

-- Expressions.

operand_weighs : (l : Level) (a : Value) → weigh (R.operand l) a ≡ weight_of_expr (part_in (Made a)).expr
operand_weighs V.LogicOr a = refl
operand_weighs V.LogicAnd a = refl
operand_weighs V.Or a = refl
operand_weighs V.Xor a = refl
operand_weighs V.And a = refl
operand_weighs V.Equality a = refl
operand_weighs V.Relation a = refl
operand_weighs V.Shift a = refl
operand_weighs V.Additive a = refl
operand_weighs V.Multiplicative a = refl

joined_weighs : (a : Part) (js : List (Token × Part)) → weight_of_expr (joined a js).expr ≡ weight_of_expr a.expr + weight_of_joins js
joined_weighs a [] = omega arith
joined_weighs a (j ∷ js) =
    omega (arith, joined_weighs (join a j.0 j.1) js, binary_weighs (reach a.place j.1.place) (binary_op j.0.kind) a.expr j.1.expr)

end_weighs : (at : Spot) (e : Expr) (x : Ending) (t : Token) → weight_of_expr (end_expr at e x t) ≡ weight_of_expr e + weight_of_end x
end_weighs at e (G.At i) t = omega (arith, index_weighs at e i)
end_weighs at e (G.With es) t = omega (arith, call_weighs at e es)
end_weighs at e G.Step t = step_weighs at (is_up t.kind) false e

with_ends_weighs : (a : Part) (xs : List (Ending × Token)) → weight_of_expr (with_ends a xs).expr ≡ weight_of_expr a.expr + weight_of_ends xs
with_ends_weighs a [] = omega arith
with_ends_weighs a (x ∷ xs) =
    omega (arith, with_ends_weighs (with_end a x.0 x.1) xs, end_weighs (reach a.place (spot_of x.1)) a.expr x.0 x.1)

prefixed_weighs : (p : Prefix) (at : Spot) (e : Expr) → weight_of_expr (prefixed p at e) ≡ weight_of_expr e + 1
unfolding prefixed
prefixed_weighs (F.Step up) at e = step_weighs at up true e
prefixed_weighs (F.Operator op) at e = unary_weighs at op e

constant_weighs : (k : TokenKind) (at : Spot) → weight_of_expr (literal k at) ≡ 1
unfolding literal
constant_weighs (T.Number n) at = literal_weighs at n.value n.form n.unsigned n.longs
constant_weighs (T.Char c) at = literal_weighs at c L.Character false 0
constant_weighs (T.Word w) at = literal_weighs at 0 L.Decimal false 0
constant_weighs T.Text at = literal_weighs at 0 L.Decimal false 0
constant_weighs (T.Punct p) at = literal_weighs at 0 L.Decimal false 0
constant_weighs T.NoteFrom at = literal_weighs at 0 L.Decimal false 0
constant_weighs T.NoteTo at = literal_weighs at 0 L.Decimal false 0

assigned : (a : Part) (op : Token) (b : Part) → weight_of_expr (assign_part a op b).expr ≡ weight_of_expr a.expr + weight_of_expr b.expr + 1
assigned a op b = assign_weighs (reach a.place b.place) (assign_op op.kind) a.expr b.expr

chosen : (a b c : Part) → weight_of_expr (cond_part a b c).expr ≡ weight_of_expr a.expr + weight_of_expr b.expr + weight_of_expr c.expr + 2
chosen a b c = cond_weighs (reach a.place c.place) a.expr b.expr c.expr

prefix_weighs : (t : Token) (a : Part) → weight_of_expr (prefix_part t a).expr ≡ weight_of_expr a.expr + 1
prefix_weighs t a = prefixed_weighs (prefix_of t.kind) (reach (spot_of t) a.place) a.expr

words_from : (at : Spot) (ws : List SpecWord) (ts : List Token) → length (spec_from at ws ts).words ≡ length ws + length ts
words_from at ws [] = omega arith
words_from at ws (t ∷ ts) =
    omega (arith, words_from (reach at (spot_of t)) (ws ++ spec_word t.kind ∷ []) ts, length-append ws (spec_word t.kind ∷ []))

words_of : (t : Token) (ts : List Token) → length (spec_from (spot_of t) (spec_word t.kind ∷ []) ts).words ≡ 1 + length ts
words_of t ts = words_from (spot_of t) (spec_word t.kind ∷ []) ts

-- Declarations, statements and external declarations.

first_weighs : (e : Option Expr) → weight_of_first (first_expr e) ≡ weight_of_maybe e + 1
first_weighs None = refl
first_weighs (Some e) = refl

if_part_weighs : (t : Token) (c : Part) (main : Governed) (other : Option Governed)
    → weight_of_stmt (if_part t c main other).stmt ≡ 3 + weight_of_expr c.expr + weight_of_sub main.sub + weight_of_else other
if_part_weighs t c main None = if_weighs (reach (spot_of t) main.end) c.expr main.sub
if_part_weighs t c main (Some o) = else_weighs (reach (spot_of t) o.end) c.expr main.sub o.sub

formal_weighs : (spec : Spec) (name : Option Ident) → weight_of_formal (formal_of spec name) ≡ 1 + weight_of_spec spec + weight_of_name name
formal_weighs spec None = refl
formal_weighs spec (Some i) = refl

external_weighs : (bytes : List ℕ) (st : Stored) (spec : Spec) (t : Token) (n : Named)
    → weight_of_item (external bytes st spec t n) ≡ weight_of_spec spec + 1 + weight_of_named n
external_weighs bytes st spec t (M.Function fs e) = omega arith
external_weighs bytes st spec t (M.Global r ds end) = omega arith

-- The productions, in the order of the table.

light : (bytes : List ℕ) → IsLight (grammar bytes) weigh
light bytes R.Assign = (
  λ a m h t b k i. omega (arith, h, i, assigned (part_in (Made a)) t (part_in (Made b))),
  λ a m h. omega (arith, h),
)
light bytes R.Cond = λ a m h. (
  λ t b k i u c l j. omega (arith, h, i, j, chosen (part_in (Made a)) (part_in (Made b)) (part_in (Made c))),
  omega (arith, h),
)
light bytes (R.Binary o) = λ a m h b k i.
    omega (arith, h, i, operand_weighs o a, joined_weighs (part_in (Made a)) (joins_in (Made b)))
light bytes (R.More o) = (λ t a m h b k i. omega (arith, h, i, operand_weighs o a), omega arith)
light bytes R.Unary = (
  λ t a m h. omega (arith, h, prefix_weighs t (part_in (Made a))),
  (
    λ a m h. omega (arith, h),
    λ a m h. omega (arith, h),
  ),
)
light bytes R.Cast = λ t a m h u b k i.
    omega (arith, h, i, cast_weighs (reach (spot_of t) (part_in (Made b)).place) (spec_in (Made a)) (part_in (Made b)).expr)
light bytes R.Postfix = λ a m h b k i. omega (arith, h, i, with_ends_weighs (part_in (Made a)) (ends_in (Made b)))
light bytes R.Suffixes = (
  λ t a m h u b k i. omega (arith, h, i),
  (
    λ t a m h u b k i. omega (arith, h, i),
    (
      λ t a m h. omega (arith, h),
      omega arith,
    ),
  ),
)
light bytes R.Primary = (
  λ t. omega (arith, name_weighs (ident_of bytes t)),
  (
    λ t. omega (arith, constant_weighs t.kind (spot_of t)),
    λ t a m h u. omega (arith, h),
  ),
)
light bytes R.Args = (λ a m h b k i. omega (arith, h, i), omega arith)
light bytes R.MoreArgs = (λ t a m h b k i. omega (arith, h, i), omega arith)
light bytes R.Parens = λ t a m h u. omega (arith, h)
light bytes R.MaybeExpr = (λ a m h. omega (arith, h), omega arith)
light bytes R.Specs = λ t a m h. omega (arith, h, words_of t (words_in (Made a)))
light bytes R.FirstSpecs = λ t a m h. omega (arith, h, words_of t (words_in (Made a)))
light bytes R.MoreWords = (λ t a m h. omega (arith, h), omega arith)
light bytes R.MaybeName = (λ t. omega arith, omega arith)
light bytes R.ArrayLength = (λ t. (λ a m h u. omega (arith, h), λ u. omega arith), omega arith)
light bytes R.Initialiser = (λ t. (λ a m h. omega (arith, h), λ a m h. omega (arith, h)), omega arith)
light bytes R.Braces = λ t a m h b k i. omega (arith, h, i)
light bytes R.Values = λ a m h b k i. omega (arith, h, i)
light bytes R.MoreValues = (λ t a m h b k i. omega (arith, h, i), omega arith)
light bytes R.BraceEnd = (λ t u. omega arith, λ u. omega arith)
light bytes R.DeclrTail = λ a m h b k i. omega (arith, h, i)
light bytes R.Declr = λ t a m h. omega (arith, h)
light bytes R.MoreDeclrs = (λ t a m h b k i. omega (arith, h, i), omega arith)
light bytes R.Declrs = λ a m h b k i. omega (arith, h, i)
light bytes R.Note = λ t a m h u. omega arith
light bytes R.InNote = (λ t a m h. omega arith, omega arith)
light bytes R.Notes = (λ a m h b k i. omega (arith, h, i), omega arith)
light bytes R.Declaration = λ a m h b k i t.
    let spec = spec_in (Made a) in omega (arith, h, i, declare_weighs (reach spec.at (spot_of t)) spec (declrs_in (Made b)))
light bytes R.ExprStatement = λ a m h t.
    let e = part_in (Made a) in omega (arith, h, expression_weighs (reach e.place (spot_of t)) e.expr)
light bytes R.Jump = (
  λ t. omega (arith, empty_weighs (spot_of t)),
  (
    λ t u. omega (arith, break_weighs (reach (spot_of t) (spot_of u))),
    (
      λ t u. omega (arith, continue_weighs (reach (spot_of t) (spot_of u))),
      λ t a m h u. omega (arith, h, return_weighs (reach (spot_of t) (spot_of u)) (maybe_in (Made a))),
    ),
  ),
)
light bytes R.IfStatement = λ t a m h b k i c l j.
    omega (arith, h, i, j, if_part_weighs t (part_in (Made a)) (governed_in (Made b)) (else_in (Made c)))
light bytes R.ElsePart = (λ t a m h. omega (arith, h), omega arith)
light bytes R.WhileStatement = λ t a m h b k i.
    let g = governed_in (Made b) in omega (arith, h, i, while_weighs (reach (spot_of t) g.end) (part_in (Made a)).expr g.sub)
light bytes R.DoStatement = λ t a m h u b k i v.
    omega (arith, h, i, do_weighs (reach (spot_of t) (spot_of v)) (governed_in (Made a)).sub (part_in (Made b)).expr)
light bytes R.ForStatement = λ t a m h b k i.
    let x = head_in (Made a) in
    let g = governed_in (Made b) in omega (arith, h, i, for_weighs (reach (spot_of t) g.end) x.first x.cond x.update g.sub)
light bytes R.ForHead = λ t a m h b k i u c l j v. omega (arith, h, i, j)
light bytes R.ForFirst = (λ a m h b k i t. omega (arith, h, i), λ a m h t. omega (arith, h, first_weighs (maybe_in (Made a))))
light bytes R.Block = λ t a m h u. omega (arith, h)
light bytes R.Statement = (
  λ a m h. omega (arith, h, block_weighs (braced_in (Made a)).at (braced_in (Made a)).stmts),
  (
    λ a m h. omega (arith, h),
    (
      λ a m h. omega (arith, h),
      (
        λ a m h. omega (arith, h),
        (
          λ a m h. omega (arith, h),
          (
            λ a m h. omega (arith, h),
            λ a m h. omega (arith, h),
          ),
        ),
      ),
    ),
  ),
)
light bytes R.BlockItem = (
  λ a m h. omega (arith, h),
  (
    λ a m h. omega (arith, h, note_weighs (note_in (Made a))),
    λ a m h. omega (arith, h),
  ),
)
light bytes R.BlockItems = (λ a m h b k i. omega (arith, h, i), omega arith)
light bytes R.Sub = λ a m h b k i. omega (arith, h, i, sub_weighs (spots_in (Made a)) (placed_in (Made b)).stmt)
light bytes R.Formal = λ a m h b k i. omega (arith, h, i, formal_weighs (spec_in (Made a)) (name_in (Made b)))
light bytes R.FirstFormal = λ a m h b k i. omega (arith, h, i, formal_weighs (spec_in (Made a)) (name_in (Made b)))
light bytes R.MoreFormals = (λ t a m h b k i. omega (arith, h, i), omega arith)
light bytes R.Formals = (λ t. omega arith, (λ a m h b k i. omega (arith, h, i), omega arith))
light bytes R.FormalParens = λ t a m h u. omega (arith, h)
light bytes R.FunctionEnd = (λ t. omega arith, λ a m h. omega (arith, h))
light bytes R.FunctionTail = λ a m h b k i. omega (arith, h, i)
light bytes R.GlobalTail = λ a m h b k i t. omega (arith, h, i)
light bytes R.ExternalTail = (λ a m h. omega (arith, h), λ a m h. omega (arith, h))
light bytes R.Storages = (λ t a m h. omega arith, omega arith)
light bytes R.External = λ a m h b k i t c l j.
    omega (arith, i, j, external_weighs bytes (stored_of (words_in (Made a))) (spec_in (Made b)) t (named_in (Made c)))
light bytes R.UnitItem = (λ a m h. omega (arith, h), λ a m h. omega (arith, h))
light bytes R.UnitItems = (λ a m h b k i. omega (arith, h, i), omega arith)

pub unit_weighs : (bytes : List ℕ) (is : List Item) (ts : List Token) → IsUnit bytes is ts → weight_of_items is ≤ length ts
unit_weighs bytes is ts h = omega (arith, text_weighs (grammar bytes) weigh (light bytes) R.UnitItems 0 ts (OfItems is) [] h)
