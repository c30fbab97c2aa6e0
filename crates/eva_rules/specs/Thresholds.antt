-- The thresholds of a function (this project's own, after the Eva manual): -1, 0, 1, and each constant of its body and of
-- its annotations with its two neighbours.
use Rattle.std.specs.Prelude.{ℕ, zero, suc, ◌+◌, ◌-◌, ℤ, pos, negsuc, ◌+ℤ◌, ◌-ℤ◌, if◌then◌else◌, List, [], ◌∷◌, ◌++◌, map, Option, Some, None}
use Rattle.machine_ints.specs.Bound.{is_small}
use Rattle.c_ir.specs.Programs.{Program}
use Rattle.c_ir.specs.declared.tree.Node.{Node}
use Rattle.c_ir.specs.declared.tree.Node.TheVariants as N
use Rattle.c_ir.specs.declared.tree.Expr.{Expr, fold-Expr}
use Rattle.c_ir.specs.declared.tree.Expr.TheOpen.{Expr-F}
use Rattle.c_ir.specs.declared.tree.Fun.{Fun}
use Rattle.c_ir.specs.declared.tree.Init.{Init}
use Rattle.c_ir.specs.declared.tree.Init.TheVariants as I
use Rattle.c_ir.specs.declared.tree.PointClause.{PointClause}
use Rattle.c_ir.specs.declared.tree.Pred.{Pred, fold-Pred}
use Rattle.c_ir.specs.declared.tree.Pred.TheOpen.{Pred-F}
use Rattle.c_ir.specs.declared.tree.Stmt.{Stmt, fold-Stmt}
use Rattle.c_ir.specs.declared.tree.Stmt.TheOpen.{Stmt-F}
use Rattle.c_runs.specs.Statements.{clauses_at}

abbrev pub all_of : List (List ℤ) → List ℤ
all_of [] = []
all_of (x ∷ xs) = x ++ all_of xs

-- ---- constants of expressions, from left to right

abbrev pub node_constants : Node (List ℤ) (List (List ℤ)) → List ℤ
node_constants (N.Literal v) = v ∷ []
node_constants (N.Cell x checked) = []
node_constants (N.Element first n i checked) = i
node_constants (N.Call g es) = all_of es
node_constants (N.Unary op e) = e
node_constants (N.Binary op a b) = a ++ b
node_constants (N.Assign t e) = t ++ e
node_constants (N.Cond c a b) = c ++ (a ++ b)
node_constants (N.Cast e) = e

abbrev pub constants_step : Expr-F (List ℤ) → List ℤ
constants_step e = node_constants e.node

abbrev pub constants_of : Expr → List ℤ
constants_of = fold-Expr (List ℤ) constants_step

abbrev pub constants_if : Option Expr → List ℤ
constants_if None = []
constants_if (Some e) = constants_of e

abbrev pub constants_of_init : Init → List ℤ
constants_of_init I.Nothing = []
constants_of_init (I.One e) = constants_of e
constants_of_init (I.Many es) = all_of (map constants_of es)

-- ---- those of statements

abbrev pub stmt_constants : Stmt-F (List ℤ) → List ℤ
stmt_constants (Stmt-F.Declare p f n value) = constants_of_init value
stmt_constants (Stmt-F.Expression p e) = constants_of e
stmt_constants (Stmt-F.If p c ys ns) = constants_of c ++ (all_of ys ++ all_of ns)
stmt_constants (Stmt-F.While p c bs) = constants_of c ++ all_of bs
stmt_constants (Stmt-F.DoWhile p bs c) = all_of bs ++ constants_of c
stmt_constants (Stmt-F.For hs p c bs us) = all_of hs ++ (constants_if c ++ (all_of bs ++ all_of us))
stmt_constants (Stmt-F.Break p) = []
stmt_constants (Stmt-F.Continue p) = []
stmt_constants (Stmt-F.Return p value) = constants_if value
stmt_constants (Stmt-F.Empty p) = []
stmt_constants (Stmt-F.Block ss) = all_of ss
stmt_constants (Stmt-F.Note note) = []
stmt_constants (Stmt-F.Clause p) = []

abbrev pub constants_of_stmt : Stmt → List ℤ
constants_of_stmt = fold-Stmt (List ℤ) stmt_constants

abbrev pub constants_of_body : Option (List Stmt) → List ℤ
constants_of_body None = []
constants_of_body (Some ss) = all_of (map constants_of_stmt ss)

-- ---- those of annotations

abbrev pub pred_constants : Pred-F (List ℤ) → List ℤ
pred_constants (Pred-F.Number n) = n ∷ []
pred_constants (Pred-F.Cell c) = []
pred_constants (Pred-F.Element first n i) = i
pred_constants (Pred-F.Bound between) = []
pred_constants (Pred-F.Old e) = e
pred_constants Pred-F.True = []
pred_constants Pred-F.False = []
pred_constants (Pred-F.Neg e) = e
pred_constants (Pred-F.Not e) = e
pred_constants (Pred-F.Binary op a b) = a ++ b
pred_constants (Pred-F.Related r a b) = a ++ b
pred_constants (Pred-F.Forall low ls high hs body) = low ++ (high ++ body)

abbrev pub constants_of_pred : Pred → List ℤ
constants_of_pred = fold-Pred (List ℤ) pred_constants

abbrev pub constants_of_clauses : List PointClause → List ℤ
constants_of_clauses [] = []
constants_of_clauses (c ∷ cs) = constants_of_pred c.pred ++ constants_of_clauses cs

-- of the clauses at k points from point q on
abbrev pub constants_at : Program → ℕ → ℕ → List ℤ
constants_at p q zero = []
constants_at p q (suc k) = constants_of_clauses (clauses_at p q) ++ constants_at p (q + 1) k

-- ---- thresholds

-- a constant past 2^126 is past the ends of all types, and so are its neighbours
abbrev pub near : ℤ → List ℤ
near k = if is_small k then (k -ℤ pos 1) ∷ k ∷ (k +ℤ pos 1) ∷ [] else []

abbrev pub all_near : List ℤ → List ℤ
all_near [] = []
all_near (k ∷ ks) = near k ++ all_near ks

-- the points of a function follow each other from its entry to its exit
abbrev pub thresholds_of : Program → Fun → List ℤ
thresholds_of p f =
    negsuc 0 ∷ pos 0 ∷ pos 1
    ∷ (all_near (constants_of_body f.body) ++ all_near (constants_at p f.entry.0 (suc f.exit.0 - f.entry.0)))
