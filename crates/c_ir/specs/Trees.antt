-- Typed trees as values.
use Rattle.std.specs.Prelude.{ℤ, List, Option, None, pos}
use Rattle.fc_base.specs.declared.ids.SiteId.{SiteId}
use Rattle.c_ir.specs.declared.ty.IntType.{IntType}
use Rattle.c_ir.specs.declared.ty.IntType.TheVariants as T
use Rattle.c_ir.specs.declared.tree.Node.{Node}
use Rattle.c_ir.specs.declared.tree.Node.TheVariants as N
use Rattle.c_ir.specs.declared.tree.Expr.{Expr, roll-Expr, out-Expr}

-- the expression with this type, this site and this node
abbrev pub expr : IntType → Option SiteId → Node Expr (List Expr) → Expr
expr ty site node = roll-Expr (record { ty = ty; site = site; node = node })

abbrev pub ty_of : Expr → IntType
ty_of e = (out-Expr e).ty

abbrev pub constant : IntType → ℤ → Expr
constant ty v = expr ty None (N.Literal v)

-- the constant 0 of type `int`
abbrev pub zero_expr : Expr
zero_expr = constant T.Int (pos 0)

abbrev pub site_of : Expr → Option SiteId
site_of e = (out-Expr e).site
