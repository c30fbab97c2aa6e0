-- The numbers of sites and of points in a tree, in the order in which they are given, and that they count on from a
-- number.
use Rattle.std.specs.Prelude.{◌==◌, ◌+◌, ℕ, List, [], ◌∷◌, map, Option, Some, None, if◌then◌else◌}
use Rattle.std.specs.Option.{option_and_then}
use Rattle.fc_base.specs.declared.ids.PointId.{PointId}
use Rattle.fc_base.specs.declared.ids.SiteId.{SiteId}
use Rattle.c_ir.specs.declared.tree.Node.{Node}
use Rattle.c_ir.specs.declared.tree.Node.TheVariants as N
use Rattle.c_ir.specs.declared.tree.Expr.{Expr, fold-Expr}
use Rattle.c_ir.specs.declared.tree.Expr.TheOpen.{Expr-F}
use Rattle.c_ir.specs.declared.tree.Init.{Init}
use Rattle.c_ir.specs.declared.tree.Init.TheVariants as I
use Rattle.c_ir.specs.declared.tree.Stmt.{Stmt, fold-Stmt}
use Rattle.c_ir.specs.declared.tree.Stmt.TheOpen.{Stmt-F}

-- numbers in order
pub data Numbers : Type 0 where
  none : Numbers
  just : ℕ → Numbers
  both : Numbers → Numbers → Numbers

-- the number after the last one, if they count on from `from`
abbrev pub count : ℕ → Numbers → Option ℕ
count from none = Some from
count from (just n) = if n == from then Some (from + 1) else None
count from (both x y) = option_and_then (λ m. count m y) (count from x)

abbrev pub all : List Numbers → Numbers
all [] = none
all (x ∷ xs) = both x (all xs)

abbrev pub own_site : Option SiteId → Numbers
own_site None = none
own_site (Some n) = just n.0

-- an operator's site comes after those of its operands
abbrev pub node_sites : Option SiteId → Node Numbers (List Numbers) → Numbers
node_sites s (N.Literal v) = own_site s
node_sites s (N.Cell c k) = own_site s
node_sites s (N.Element f n i k) = both i (own_site s)
node_sites s (N.Call g es) = all es
node_sites s (N.Unary op e) = both e (own_site s)
node_sites s (N.Binary op l r) = both (both l r) (own_site s)
node_sites s (N.Assign t e) = both t e
node_sites s (N.Cond c l r) = both (both c l) r
node_sites s (N.Cast e) = e

abbrev pub sites_step : Expr-F Numbers → Numbers
sites_step e = node_sites e.site e.node

abbrev pub sites : Expr → Numbers
sites = fold-Expr Numbers sites_step

-- ---- statements

abbrev pub own_point : PointId → Numbers
own_point p = just p.0

-- a point comes before those of what its statement governs; that of a `for` comes after those of what stands first in
-- the head
abbrev pub points_step : Stmt-F Numbers → Numbers
points_step (Stmt-F.Declare p f n value) = own_point p
points_step (Stmt-F.Expression p e) = own_point p
points_step (Stmt-F.If p c ys ns) = both (both (own_point p) (all ys)) (all ns)
points_step (Stmt-F.While p c bs) = both (own_point p) (all bs)
points_step (Stmt-F.DoWhile p bs c) = both (own_point p) (all bs)
points_step (Stmt-F.For hs p c bs us) = both (both (both (all hs) (own_point p)) (all bs)) (all us)
points_step (Stmt-F.Break p) = own_point p
points_step (Stmt-F.Continue p) = own_point p
points_step (Stmt-F.Return p value) = own_point p
points_step (Stmt-F.Empty p) = own_point p
points_step (Stmt-F.Block ss) = all ss
points_step (Stmt-F.Note at) = none
points_step (Stmt-F.Clause p) = own_point p

abbrev pub points_of : Stmt → Numbers
points_of = fold-Stmt Numbers points_step

abbrev pub points_of_all : List Stmt → Numbers
points_of_all ss = all (map points_of ss)

abbrev pub sites_of_all : List Expr → Numbers
sites_of_all es = all (map sites es)

abbrev pub sites_if : Option Expr → Numbers
sites_if None = none
sites_if (Some e) = sites e

abbrev pub init_sites : Init → Numbers
init_sites I.Nothing = none
init_sites (I.One e) = sites e
init_sites (I.Many es) = sites_of_all es

abbrev pub stmt_sites_step : Stmt-F Numbers → Numbers
stmt_sites_step (Stmt-F.Declare p f n value) = init_sites value
stmt_sites_step (Stmt-F.Expression p e) = sites e
stmt_sites_step (Stmt-F.If p c ys ns) = both (both (sites c) (all ys)) (all ns)
stmt_sites_step (Stmt-F.While p c bs) = both (sites c) (all bs)
stmt_sites_step (Stmt-F.DoWhile p bs c) = both (all bs) (sites c)
stmt_sites_step (Stmt-F.For hs p c bs us) = both (both (both (all hs) (sites_if c)) (all bs)) (all us)
stmt_sites_step (Stmt-F.Break p) = none
stmt_sites_step (Stmt-F.Continue p) = none
stmt_sites_step (Stmt-F.Return p value) = sites_if value
stmt_sites_step (Stmt-F.Empty p) = none
stmt_sites_step (Stmt-F.Block ss) = all ss
stmt_sites_step (Stmt-F.Note at) = none
stmt_sites_step (Stmt-F.Clause p) = none

abbrev pub stmt_sites : Stmt → Numbers
stmt_sites = fold-Stmt Numbers stmt_sites_step

abbrev pub stmt_sites_of_all : List Stmt → Numbers
stmt_sites_of_all ss = all (map stmt_sites ss)
