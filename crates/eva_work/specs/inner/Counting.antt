-- What the code counts, and what falls where it recurses.
use Rattle.std.specs.Prelude.{◌≡◌, ℕ, zero, suc, ◌+◌, min, List, [], ◌∷◌, length, map, slice_get, get_or, Option, Some, None}
use Rattle.c_ir.specs.Calls.{calls_of, calls_of_all, calls_if, calls_of_init}
use Rattle.c_ir.specs.Programs.{Program}
use Rattle.c_ir.specs.declared.tree.Node.{Node}
use Rattle.c_ir.specs.declared.tree.Node.TheVariants as N
use Rattle.c_ir.specs.declared.tree.Expr.{Expr, fold-Expr}
use Rattle.c_ir.specs.declared.tree.Expr.TheOpen.{Expr-F}
use Rattle.c_ir.specs.declared.tree.Fun.{Fun}
use Rattle.c_ir.specs.declared.tree.Init.{Init}
use Rattle.c_ir.specs.declared.tree.Init.TheVariants as I
use Rattle.c_ir.specs.declared.tree.Stmt.{Stmt, fold-Stmt}
use Rattle.c_ir.specs.declared.tree.Stmt.TheOpen.{Stmt-F}
use Rattle.eva_work.specs.Work.{bodies_of, most_work, work_of_function, work_of_stmt, work_of_stmts, work_to}

-- ---- counts

-- a count as it stands
abbrev pub capped : ℕ → ℕ
capped n = min n most_work

-- a function, with calls as deep as there are functions
unfoldable pub whole : Program → ℕ → ℕ → ℕ
whole p unroll g = work_to p unroll (length p.fns) g

-- a place has 0, or 1 and the count
abbrev pub noted_at : ℕ → Option ℕ
noted_at zero = None
noted_at (suc n) = Some n

abbrev pub IsNoted : ℕ → ℕ → Type 0
IsNoted zero n = Unit {0}
IsNoted (suc k) n = k ≡ capped n

-- the place of each function
abbrev pub Noted : Program → ℕ → List ℕ → Type 0
Noted p unroll known = (g : ℕ) → IsNoted (get_or known g 0) (whole p unroll g)

-- ---- sizes of trees

abbrev pub size_all : List ℕ → ℕ
size_all [] = 1
size_all (n ∷ ns) = n + size_all ns

abbrev pub node_size : Node ℕ (List ℕ) → ℕ
node_size (N.Literal v) = 1
node_size (N.Cell c k) = 1
node_size (N.Element f n i k) = 1 + i
node_size (N.Call g es) = 1 + size_all es
node_size (N.Unary op e) = 1 + e
node_size (N.Binary op l r) = 1 + (l + r)
node_size (N.Assign t e) = 1 + (t + e)
node_size (N.Cond c l r) = 1 + (c + (l + r))
node_size (N.Cast e) = 1 + e

abbrev pub expr_size_step : Expr-F ℕ → ℕ
expr_size_step e = node_size e.node

abbrev pub expr_size : Expr → ℕ
expr_size = fold-Expr ℕ expr_size_step

abbrev pub exprs_size : List Expr → ℕ
exprs_size es = size_all (map expr_size es)

abbrev pub if_size : Option Expr → ℕ
if_size None = 1
if_size (Some e) = 1 + expr_size e

abbrev pub init_size : Init → ℕ
init_size I.Nothing = 1
init_size (I.One e) = 1 + expr_size e
init_size (I.Many es) = 1 + exprs_size es

abbrev pub stmt_size_step : Stmt-F ℕ → ℕ
stmt_size_step (Stmt-F.Declare p f n value) = 1 + init_size value
stmt_size_step (Stmt-F.Expression p e) = 1 + expr_size e
stmt_size_step (Stmt-F.If p c ys ns) = 1 + (size_all ys + size_all ns)
stmt_size_step (Stmt-F.While p c bs) = 1 + size_all bs
stmt_size_step (Stmt-F.DoWhile p bs c) = 1 + size_all bs
stmt_size_step (Stmt-F.For hs p c bs us) = 1 + (size_all hs + (size_all bs + size_all us))
stmt_size_step (Stmt-F.Break p) = 1
stmt_size_step (Stmt-F.Continue p) = 1
stmt_size_step (Stmt-F.Return p value) = 1 + if_size value
stmt_size_step (Stmt-F.Empty p) = 1
stmt_size_step (Stmt-F.Block ss) = 1 + size_all ss
stmt_size_step (Stmt-F.Note at) = 1
stmt_size_step (Stmt-F.Clause p) = 1

abbrev pub stmt_size : Stmt → ℕ
stmt_size = fold-Stmt ℕ stmt_size_step

abbrev pub stmts_size : List Stmt → ℕ
stmts_size ss = size_all (map stmt_size ss)

abbrev pub body_size : Option (List Stmt) → ℕ
body_size None = 0
body_size (Some ss) = stmts_size ss

abbrev pub function_size : Option Fun → ℕ
function_size None = 0
function_size (Some f) = body_size f.body

-- ---- what falls: the size, and what the bodies that are called have

-- the body of a function, where each call has so much
abbrev pub body_left : (ℕ → ℕ) → Option Fun → ℕ
body_left calls o = function_size o + work_of_function 0 calls o

abbrev pub left_to : Program → ℕ → ℕ → ℕ
left_to p zero g = 2
left_to p (suc depth) g = 2 + body_left (left_to p depth) (slice_get p.fns g)

unfoldable pub left : Program → ℕ → ℕ
left p g = left_to p (length p.fns) g

abbrev pub expr_left : Program → Expr → ℕ
expr_left p e = expr_size e + bodies_of (left p) (calls_of e)

abbrev pub exprs_left : Program → List Expr → ℕ
exprs_left p es = exprs_size es + bodies_of (left p) (calls_of_all es)

abbrev pub if_left : Program → Option Expr → ℕ
if_left p e = if_size e + bodies_of (left p) (calls_if e)

abbrev pub init_left : Program → Init → ℕ
init_left p value = init_size value + bodies_of (left p) (calls_of_init value)

abbrev pub stmt_left : Program → Stmt → ℕ
stmt_left p s = stmt_size s + work_of_stmt 0 (left p) s

abbrev pub stmts_left : Program → List Stmt → ℕ
stmts_left p ss = stmts_size ss + work_of_stmts 0 (left p) ss
