-- Which functions are called in a tree: by their numbers, in order of evaluation, and as often as they are called in
-- the text.
use Rattle.std.specs.Prelude.{ℕ, List, [], ◌∷◌, ◌++◌, map, Option, Some, None}
use Rattle.c_ir.specs.declared.tree.Node.{Node}
use Rattle.c_ir.specs.declared.tree.Node.TheVariants as N
use Rattle.c_ir.specs.declared.tree.Expr.{Expr, fold-Expr}
use Rattle.c_ir.specs.declared.tree.Expr.TheOpen.{Expr-F}
use Rattle.c_ir.specs.declared.tree.Init.{Init}
use Rattle.c_ir.specs.declared.tree.Init.TheVariants as I
use Rattle.c_ir.specs.declared.tree.Stmt.{Stmt, fold-Stmt}
use Rattle.c_ir.specs.declared.tree.Stmt.TheOpen.{Stmt-F}

abbrev pub all_calls : List (List ℕ) → List ℕ
all_calls [] = []
all_calls (x ∷ xs) = x ++ all_calls xs

-- a function is called after its arguments
abbrev pub node_calls : Node (List ℕ) (List (List ℕ)) → List ℕ
node_calls (N.Literal v) = []
node_calls (N.Cell c k) = []
node_calls (N.Element f n i k) = i
node_calls (N.Call g es) = all_calls es ++ g.0 ∷ []
node_calls (N.Unary op e) = e
node_calls (N.Binary op l r) = l ++ r
node_calls (N.Assign t e) = t ++ e
node_calls (N.Cond c l r) = c ++ (l ++ r)
node_calls (N.Cast e) = e

abbrev pub calls_step : Expr-F (List ℕ) → List ℕ
calls_step e = node_calls e.node

abbrev pub calls_of : Expr → List ℕ
calls_of = fold-Expr (List ℕ) calls_step

abbrev pub calls_of_all : List Expr → List ℕ
calls_of_all es = all_calls (map calls_of es)

abbrev pub calls_if : Option Expr → List ℕ
calls_if None = []
calls_if (Some e) = calls_of e

abbrev pub calls_of_init : Init → List ℕ
calls_of_init I.Nothing = []
calls_of_init (I.One e) = calls_of e
calls_of_init (I.Many es) = calls_of_all es

-- the head of a `for`, its body, and what stands last in its head; the condition of a `do` comes after its body
abbrev pub stmt_calls_step : Stmt-F (List ℕ) → List ℕ
stmt_calls_step (Stmt-F.Declare p f n value) = calls_of_init value
stmt_calls_step (Stmt-F.Expression p e) = calls_of e
stmt_calls_step (Stmt-F.If p c ys ns) = calls_of c ++ (all_calls ys ++ all_calls ns)
stmt_calls_step (Stmt-F.While p c bs) = calls_of c ++ all_calls bs
stmt_calls_step (Stmt-F.DoWhile p bs c) = all_calls bs ++ calls_of c
stmt_calls_step (Stmt-F.For hs p c bs us) = all_calls hs ++ (calls_if c ++ (all_calls bs ++ all_calls us))
stmt_calls_step (Stmt-F.Break p) = []
stmt_calls_step (Stmt-F.Continue p) = []
stmt_calls_step (Stmt-F.Return p value) = calls_if value
stmt_calls_step (Stmt-F.Empty p) = []
stmt_calls_step (Stmt-F.Block ss) = all_calls ss
stmt_calls_step (Stmt-F.Note at) = []
stmt_calls_step (Stmt-F.Clause p) = []

abbrev pub calls_of_stmt : Stmt → List ℕ
calls_of_stmt = fold-Stmt (List ℕ) stmt_calls_step

abbrev pub calls_of_stmts : List Stmt → List ℕ
calls_of_stmts ss = all_calls (map calls_of_stmt ss)
