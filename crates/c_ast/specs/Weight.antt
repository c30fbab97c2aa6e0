-- The weight of a tree: a number of tokens that each text of it has at least.
--
-- Main definition: `weight_of_unit`. A declarator counts the comma or the semicolon after it,
-- and a formal the comma or the parenthesis.
use Rattle.std.specs.Prelude.{ℕ, ◌+◌, List, [], ◌∷◌, map, length, Option, Some, None}
use Rattle.c_ast.specs.declared.expr.Ident.{Ident}
use Rattle.c_ast.specs.declared.expr.Spec.{Spec}
use Rattle.c_ast.specs.declared.expr.Expr.{Expr, fold-Expr}
use Rattle.c_ast.specs.declared.expr.Expr.TheOpen.{Expr-F}
use Rattle.c_ast.specs.declared.stmt.Declr.{Declr}
use Rattle.c_ast.specs.declared.stmt.Length.{Length}
use Rattle.c_ast.specs.declared.stmt.Length.TheVariants as N
use Rattle.c_ast.specs.declared.stmt.Init.{Init}
use Rattle.c_ast.specs.declared.stmt.Init.TheVariants as I
use Rattle.c_ast.specs.declared.stmt.First.{First}
use Rattle.c_ast.specs.declared.stmt.First.TheVariants as F
use Rattle.c_ast.specs.declared.stmt.Stmt.{Stmt, fold-Stmt}
use Rattle.c_ast.specs.declared.stmt.Stmt.TheOpen.{Stmt-F}
use Rattle.c_ast.specs.declared.stmt.Sub.{Sub, Sub-F, fold-Sub}
use Rattle.c_ast.specs.declared.unit.Item.{Item}
use Rattle.c_ast.specs.declared.unit.Item.TheVariants as U
use Rattle.c_ast.specs.declared.unit.Formal.{Formal}
use Rattle.c_ast.specs.declared.unit.Unit.{Unit}

abbrev pub total : List ℕ → ℕ
total [] = 0
total (n ∷ ns) = n + total ns

-- Expressions (C11 6.5). Their parts stand as weights.

abbrev pub expr_step : Expr-F ℕ → ℕ
expr_step (Expr-F.Literal at value form unsigned longs) = 1
expr_step (Expr-F.Name x) = 1
expr_step (Expr-F.Index at of index) = of + index + 2
expr_step (Expr-F.Call at of args) = of + total args + 2
expr_step (Expr-F.Unary at op of) = of + 1
expr_step (Expr-F.Binary at op left right) = left + right + 1
expr_step (Expr-F.Assign at op to value) = to + value + 1
expr_step (Expr-F.Step at up before of) = of + 1
expr_step (Expr-F.Cond at c a b) = c + a + b + 2
expr_step (Expr-F.Cast at spec of) = length spec.words + of + 2

abbrev pub weight_of_expr : Expr → ℕ
weight_of_expr = fold-Expr ℕ expr_step

abbrev pub weight_of_maybe : Option Expr → ℕ
weight_of_maybe None = 0
weight_of_maybe (Some e) = weight_of_expr e

abbrev pub weight_of_exprs : List Expr → ℕ
weight_of_exprs es = total (map weight_of_expr es)

-- Declarations (C11 6.7).

abbrev pub weight_of_spec : Spec → ℕ
weight_of_spec spec = length spec.words

abbrev pub weight_of_length : Length → ℕ
weight_of_length N.Scalar = 0
weight_of_length N.Open = 2
weight_of_length (N.Of e) = 2 + weight_of_expr e

abbrev pub weight_of_init : Init → ℕ
weight_of_init I.Nothing = 0
weight_of_init (I.One e) = 1 + weight_of_expr e
weight_of_init (I.Many es) = 3 + weight_of_exprs es

abbrev pub weight_of_declr : Declr → ℕ
weight_of_declr d = 2 + weight_of_length d.length + weight_of_init d.value

abbrev pub weight_of_declrs : List Declr → ℕ
weight_of_declrs ds = total (map weight_of_declr ds)

-- Statements (C11 6.8).

abbrev pub weight_of_first : First → ℕ
weight_of_first F.Nothing = 1
weight_of_first (F.Expression e) = weight_of_expr e + 1
weight_of_first (F.Declare spec ds) = weight_of_spec spec + weight_of_declrs ds

-- of an `else`
abbrev pub else_step : Option ℕ → ℕ
else_step None = 0
else_step (Some n) = 1 + n

abbrev pub stmt_step : Stmt-F ℕ ℕ → ℕ
stmt_step (Stmt-F.Declare at spec ds) = weight_of_spec spec + weight_of_declrs ds
stmt_step (Stmt-F.Expression at e) = weight_of_expr e + 1
stmt_step (Stmt-F.If at c main other) = 3 + weight_of_expr c + main + else_step other
stmt_step (Stmt-F.While at c body) = 3 + weight_of_expr c + body
stmt_step (Stmt-F.DoWhile at body c) = 5 + body + weight_of_expr c
stmt_step (Stmt-F.For at first c update body) =
    4 + weight_of_first first + weight_of_maybe c + weight_of_maybe update + body
stmt_step (Stmt-F.Break at) = 2
stmt_step (Stmt-F.Continue at) = 2
stmt_step (Stmt-F.Return at value) = 2 + weight_of_maybe value
stmt_step (Stmt-F.Empty at) = 1
stmt_step (Stmt-F.Block at stmts) = 2 + total stmts
stmt_step (Stmt-F.Note at) = 1

abbrev pub sub_step : Sub-F ℕ ℕ → ℕ
sub_step s = length s.notes + s.stmt

abbrev pub weight_of_stmt : Stmt → ℕ
weight_of_stmt = fold-Stmt ℕ ℕ stmt_step sub_step

abbrev pub weight_of_sub : Sub → ℕ
weight_of_sub = fold-Sub ℕ ℕ stmt_step sub_step

abbrev pub weight_of_stmts : List Stmt → ℕ
weight_of_stmts ss = total (map weight_of_stmt ss)

-- External declarations (C11 6.9).

abbrev pub weight_of_name : Option Ident → ℕ
weight_of_name None = 0
weight_of_name (Some i) = 1

abbrev pub weight_of_formal : Formal → ℕ
weight_of_formal f = 1 + weight_of_spec f.spec + weight_of_name f.name

abbrev pub weight_of_formals : List Formal → ℕ
weight_of_formals fs = total (map weight_of_formal fs)

abbrev pub weight_of_body : Option (List Stmt) → ℕ
weight_of_body None = 0
weight_of_body (Some ss) = weight_of_stmts ss

abbrev pub weight_of_item : Item → ℕ
weight_of_item (U.Note at) = 1
weight_of_item (U.Global g) = weight_of_spec g.spec + weight_of_declrs g.declrs
weight_of_item (U.Function f) =
    3 + weight_of_spec f.spec + weight_of_formals f.formals + weight_of_body f.body

abbrev pub weight_of_items : List Item → ℕ
weight_of_items is = total (map weight_of_item is)

abbrev pub weight_of_unit : Unit → ℕ
weight_of_unit u = weight_of_items u.items
