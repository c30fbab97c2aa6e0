-- The open checks of statements, part by part.
use Rattle.std.specs.Prelude.{List, [], ◌∷◌, ◌++◌, map, Option, Some, None}
use Rattle.by_key.specs.declared.lists.Keyed.{Keyed}
use Rattle.fc_base.specs.declared.ids.SiteId.{SiteId}
use Rattle.machine_ints.specs.declared.decided.Ends.{Ends}
use Rattle.c_ir.specs.declared.tree.Expr.{Expr}
use Rattle.c_ir.specs.declared.tree.Fun.{Fun}
use Rattle.c_ir.specs.declared.tree.Node.{Node}
use Rattle.c_ir.specs.declared.tree.Node.TheVariants as N
use Rattle.c_ir.specs.declared.tree.Init.{Init}
use Rattle.c_ir.specs.declared.tree.Init.TheVariants as I
use Rattle.c_ir.specs.declared.tree.Stmt.{Stmt, fold-Stmt}
use Rattle.c_ir.specs.declared.tree.Stmt.TheOpen.{Stmt-F}
use Rattle.rte_alarms.specs.Ranges.{all_open, open_index, open_read, ranged}

-- those of expressions
abbrev pub open_of : Expr → List Keyed
open_of e = (ranged e).opened

-- the own checks of an element whose index has this range; none of another expression
abbrev pub open_element : Option SiteId → Node Expr (List Expr) → Ends → List Keyed
open_element site (N.Element first n i checked) a = open_index site n a ++ open_read site checked
open_element site _ a = []

abbrev pub open_of_all : List Expr → List Keyed
open_of_all es = all_open (map ranged es)

abbrev pub open_of_any : Option Expr → List Keyed
open_of_any None = []
open_of_any (Some e) = open_of e

abbrev pub open_of_init : Init → List Keyed
open_of_init I.Nothing = []
open_of_init (I.One e) = open_of e
open_of_init (I.Many es) = open_of_all es

abbrev pub joined : List (List Keyed) → List Keyed
joined [] = []
joined (x ∷ xs) = x ++ joined xs

-- those of a statement, and of the statements that it governs
abbrev pub open_step : Stmt-F (List Keyed) → List Keyed
open_step (Stmt-F.Declare p f n value) = open_of_init value
open_step (Stmt-F.Expression p e) = open_of e
open_step (Stmt-F.If p c ys ns) = open_of c ++ (joined ys ++ joined ns)
open_step (Stmt-F.While p c bs) = open_of c ++ joined bs
open_step (Stmt-F.DoWhile p bs c) = open_of c ++ joined bs
open_step (Stmt-F.For hs p c bs us) = open_of_any c ++ (joined hs ++ (joined bs ++ joined us))
open_step (Stmt-F.Break p) = []
open_step (Stmt-F.Continue p) = []
open_step (Stmt-F.Return p value) = open_of_any value
open_step (Stmt-F.Empty p) = []
open_step (Stmt-F.Block ss) = joined ss
open_step (Stmt-F.Note note) = []
open_step (Stmt-F.Clause p) = []

abbrev pub open_stmt : Stmt → List Keyed
open_stmt = fold-Stmt (List Keyed) open_step

abbrev pub open_stmts : List Stmt → List Keyed
open_stmts ss = joined (map open_stmt ss)

abbrev pub open_body : Option (List Stmt) → List Keyed
open_body None = []
open_body (Some ss) = open_stmts ss

-- those of all functions
abbrev pub open_fns : List Fun → List Keyed
open_fns [] = []
open_fns (f ∷ fs) = open_body f.body ++ open_fns fs
