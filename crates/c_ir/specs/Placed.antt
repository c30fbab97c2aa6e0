-- Where a typed tree may stand: calls and assignments are whole statements, and a call is also the value of an
-- initialiser, of a `return` or of an assignment (this project's own).
use Rattle.std.specs.Prelude.{Bool, ◌&&◌, ◌||◌}
use Rattle.c_ir.specs.Formed.{Layout, Form, form}
use Rattle.c_ir.specs.declared.place.Place.{Place}
use Rattle.c_ir.specs.declared.place.Place.TheVariants as P
use Rattle.c_ir.specs.declared.tree.Expr.{Expr}

-- part of another expression is no call and no assignment, a value may be a call, a statement may be any of them
abbrev pub is_placed : Place → Form → Bool
is_placed P.Inner f = f.plain
is_placed P.Value f = f.plain || f.call
is_placed P.Dropped f = f.plain || (f.call || f.assign)

-- the tree is well formed and may stand there
unfoldable pub is_formed : Layout → Place → Expr → Bool
is_formed l place e = (form l e).value && is_placed place (form l e)
