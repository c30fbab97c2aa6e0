-- The weight of each node, by its parts.
use Rattle.std.proofs.Common.{◌≡◌, ℕ, ◌+◌, Bool, List, Option, Some, None, length}
use Rattle.fc_base.specs.declared.syntax.Spot.{Spot}
use Rattle.fc_base.specs.declared.syntax.BinaryOp.{BinaryOp}
use Rattle.fc_base.specs.declared.syntax.UnaryOp.{UnaryOp}
use Rattle.fc_base.specs.declared.syntax.LiteralForm.{LiteralForm}
use Rattle.c_ast.specs.declared.expr.Ident.{Ident}
use Rattle.c_ast.specs.declared.expr.Spec.{Spec}
use Rattle.c_ast.specs.declared.expr.Expr.{Expr, fold-roll-Expr}
use Rattle.c_ast.specs.declared.expr.Expr.TheVariants as E
use Rattle.c_ast.specs.declared.expr.Expr.TheOpen.{Expr-F}
use Rattle.c_ast.specs.declared.stmt.Declr.{Declr}
use Rattle.c_ast.specs.declared.stmt.First.{First}
use Rattle.c_ast.specs.declared.stmt.Stmt.{Stmt, fold-roll-Stmt}
use Rattle.c_ast.specs.declared.stmt.Stmt.TheVariants as S
use Rattle.c_ast.specs.declared.stmt.Stmt.TheOpen.{Stmt-F}
use Rattle.c_ast.specs.declared.stmt.Sub.{Sub, fold-roll-Sub}
use Rattle.c_ast.specs.Subs.{sub_of}
use Rattle.c_ast.specs.Weight.{expr_step, stmt_step, sub_step, weight_of_expr, weight_of_exprs, weight_of_maybe, weight_of_spec, weight_of_declrs, weight_of_first}
use Rattle.c_ast.specs.Weight.{weight_of_stmt, weight_of_stmts, weight_of_sub}

-- Expressions.

pub literal_weighs : (at : Spot) (value : ℕ) (form : LiteralForm) (unsigned : Bool) (longs : ℕ) → weight_of_expr (E.Literal at value form unsigned longs) ≡ 1
unfolding Rattle.c_ast.specs.declared.expr.Expr.TheViews.roll-Expr denote.Hole.Carrier.roll
literal_weighs at value form unsigned longs = fold-roll-Expr ℕ expr_step (Expr-F.Literal at value form unsigned longs)

pub name_weighs : (x : Ident) → weight_of_expr (E.Name x) ≡ 1
unfolding Rattle.c_ast.specs.declared.expr.Expr.TheViews.roll-Expr denote.Hole.Carrier.roll
name_weighs x = fold-roll-Expr ℕ expr_step (Expr-F.Name x)

pub index_weighs : (at : Spot) (a b : Expr) → weight_of_expr (E.Index at a b) ≡ weight_of_expr a + weight_of_expr b + 2
unfolding Rattle.c_ast.specs.declared.expr.Expr.TheViews.roll-Expr denote.Hole.Carrier.roll
index_weighs at a b = fold-roll-Expr ℕ expr_step (Expr-F.Index at a b)

pub call_weighs : (at : Spot) (a : Expr) (es : List Expr) → weight_of_expr (E.Call at a es) ≡ weight_of_expr a + weight_of_exprs es + 2
unfolding Rattle.c_ast.specs.declared.expr.Expr.TheViews.roll-Expr denote.Hole.Carrier.roll
call_weighs at a es = fold-roll-Expr ℕ expr_step (Expr-F.Call at a es)

pub unary_weighs : (at : Spot) (op : UnaryOp) (a : Expr) → weight_of_expr (E.Unary at op a) ≡ weight_of_expr a + 1
unfolding Rattle.c_ast.specs.declared.expr.Expr.TheViews.roll-Expr denote.Hole.Carrier.roll
unary_weighs at op a = fold-roll-Expr ℕ expr_step (Expr-F.Unary at op a)

pub binary_weighs : (at : Spot) (op : BinaryOp) (a b : Expr) → weight_of_expr (E.Binary at op a b) ≡ weight_of_expr a + weight_of_expr b + 1
unfolding Rattle.c_ast.specs.declared.expr.Expr.TheViews.roll-Expr denote.Hole.Carrier.roll
binary_weighs at op a b = fold-roll-Expr ℕ expr_step (Expr-F.Binary at op a b)

pub assign_weighs : (at : Spot) (op : Option BinaryOp) (a b : Expr) → weight_of_expr (E.Assign at op a b) ≡ weight_of_expr a + weight_of_expr b + 1
unfolding Rattle.c_ast.specs.declared.expr.Expr.TheViews.roll-Expr denote.Hole.Carrier.roll
assign_weighs at op a b = fold-roll-Expr ℕ expr_step (Expr-F.Assign at op a b)

pub step_weighs : (at : Spot) (up before : Bool) (a : Expr) → weight_of_expr (E.Step at up before a) ≡ weight_of_expr a + 1
unfolding Rattle.c_ast.specs.declared.expr.Expr.TheViews.roll-Expr denote.Hole.Carrier.roll
step_weighs at up before a = fold-roll-Expr ℕ expr_step (Expr-F.Step at up before a)

pub cond_weighs : (at : Spot) (a b c : Expr) → weight_of_expr (E.Cond at a b c) ≡ weight_of_expr a + weight_of_expr b + weight_of_expr c + 2
unfolding Rattle.c_ast.specs.declared.expr.Expr.TheViews.roll-Expr denote.Hole.Carrier.roll
cond_weighs at a b c = fold-roll-Expr ℕ expr_step (Expr-F.Cond at a b c)

pub cast_weighs : (at : Spot) (spec : Spec) (a : Expr) → weight_of_expr (E.Cast at spec a) ≡ weight_of_spec spec + weight_of_expr a + 2
unfolding Rattle.c_ast.specs.declared.expr.Expr.TheViews.roll-Expr denote.Hole.Carrier.roll
cast_weighs at spec a = fold-roll-Expr ℕ expr_step (Expr-F.Cast at spec a)

-- Statements.

pub declare_weighs : (at : Spot) (spec : Spec) (ds : List Declr) → weight_of_stmt (S.Declare at spec ds) ≡ weight_of_spec spec + weight_of_declrs ds
unfolding Rattle.c_ast.specs.declared.stmt.Stmt.TheViews.roll-Stmt denote.Hole.Carrier.roll
declare_weighs at spec ds = fold-roll-Stmt ℕ ℕ stmt_step sub_step (Stmt-F.Declare at spec ds)

pub expression_weighs : (at : Spot) (e : Expr) → weight_of_stmt (S.Expression at e) ≡ weight_of_expr e + 1
unfolding Rattle.c_ast.specs.declared.stmt.Stmt.TheViews.roll-Stmt denote.Hole.Carrier.roll
expression_weighs at e = fold-roll-Stmt ℕ ℕ stmt_step sub_step (Stmt-F.Expression at e)

pub if_weighs : (at : Spot) (c : Expr) (s : Sub) → weight_of_stmt (S.If at c s None) ≡ 3 + weight_of_expr c + weight_of_sub s + 0
unfolding Rattle.c_ast.specs.declared.stmt.Stmt.TheViews.roll-Stmt denote.Hole.Carrier.roll
if_weighs at c s = fold-roll-Stmt ℕ ℕ stmt_step sub_step (Stmt-F.If at c s None)

pub else_weighs : (at : Spot) (c : Expr) (s t : Sub) → weight_of_stmt (S.If at c s (Some t)) ≡ 3 + weight_of_expr c + weight_of_sub s + (1 + weight_of_sub t)
unfolding Rattle.c_ast.specs.declared.stmt.Stmt.TheViews.roll-Stmt denote.Hole.Carrier.roll
else_weighs at c s t = fold-roll-Stmt ℕ ℕ stmt_step sub_step (Stmt-F.If at c s (Some t))

pub while_weighs : (at : Spot) (c : Expr) (s : Sub) → weight_of_stmt (S.While at c s) ≡ 3 + weight_of_expr c + weight_of_sub s
unfolding Rattle.c_ast.specs.declared.stmt.Stmt.TheViews.roll-Stmt denote.Hole.Carrier.roll
while_weighs at c s = fold-roll-Stmt ℕ ℕ stmt_step sub_step (Stmt-F.While at c s)

pub do_weighs : (at : Spot) (s : Sub) (c : Expr) → weight_of_stmt (S.DoWhile at s c) ≡ 5 + weight_of_sub s + weight_of_expr c
unfolding Rattle.c_ast.specs.declared.stmt.Stmt.TheViews.roll-Stmt denote.Hole.Carrier.roll
do_weighs at s c = fold-roll-Stmt ℕ ℕ stmt_step sub_step (Stmt-F.DoWhile at s c)

pub for_weighs : (at : Spot) (first : First) (c update : Option Expr) (s : Sub)
    → weight_of_stmt (S.For at first c update s) ≡ 4 + weight_of_first first + weight_of_maybe c + weight_of_maybe update + weight_of_sub s
unfolding Rattle.c_ast.specs.declared.stmt.Stmt.TheViews.roll-Stmt denote.Hole.Carrier.roll
for_weighs at first c update s = fold-roll-Stmt ℕ ℕ stmt_step sub_step (Stmt-F.For at first c update s)

pub break_weighs : (at : Spot) → weight_of_stmt (S.Break at) ≡ 2
unfolding Rattle.c_ast.specs.declared.stmt.Stmt.TheViews.roll-Stmt denote.Hole.Carrier.roll
break_weighs at = fold-roll-Stmt ℕ ℕ stmt_step sub_step (Stmt-F.Break at)

pub continue_weighs : (at : Spot) → weight_of_stmt (S.Continue at) ≡ 2
unfolding Rattle.c_ast.specs.declared.stmt.Stmt.TheViews.roll-Stmt denote.Hole.Carrier.roll
continue_weighs at = fold-roll-Stmt ℕ ℕ stmt_step sub_step (Stmt-F.Continue at)

pub return_weighs : (at : Spot) (value : Option Expr) → weight_of_stmt (S.Return at value) ≡ 2 + weight_of_maybe value
unfolding Rattle.c_ast.specs.declared.stmt.Stmt.TheViews.roll-Stmt denote.Hole.Carrier.roll
return_weighs at value = fold-roll-Stmt ℕ ℕ stmt_step sub_step (Stmt-F.Return at value)

pub empty_weighs : (at : Spot) → weight_of_stmt (S.Empty at) ≡ 1
unfolding Rattle.c_ast.specs.declared.stmt.Stmt.TheViews.roll-Stmt denote.Hole.Carrier.roll
empty_weighs at = fold-roll-Stmt ℕ ℕ stmt_step sub_step (Stmt-F.Empty at)

pub block_weighs : (at : Spot) (ss : List Stmt) → weight_of_stmt (S.Block at ss) ≡ 2 + weight_of_stmts ss
unfolding Rattle.c_ast.specs.declared.stmt.Stmt.TheViews.roll-Stmt denote.Hole.Carrier.roll
block_weighs at ss = fold-roll-Stmt ℕ ℕ stmt_step sub_step (Stmt-F.Block at ss)

pub note_weighs : (at : Spot) → weight_of_stmt (S.Note at) ≡ 1
unfolding Rattle.c_ast.specs.declared.stmt.Stmt.TheViews.roll-Stmt denote.Hole.Carrier.roll
note_weighs at = fold-roll-Stmt ℕ ℕ stmt_step sub_step (Stmt-F.Note at)

pub sub_weighs : (notes : List Spot) (s : Stmt) → weight_of_sub (sub_of notes s) ≡ length notes + weight_of_stmt s
sub_weighs notes s = fold-roll-Sub ℕ ℕ stmt_step sub_step (record { notes = notes; stmt = s })
