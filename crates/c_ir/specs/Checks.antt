-- Which operator has which checks, in their order (C11 6.5, paragraph 5; 6.5.5 to 6.5.7; 6.5.2.1; 6.3.2.1). T is the
-- type of the operands after their conversions, for a shift that of the left one.
use Rattle.std.specs.Prelude.{Bool, List, Option, Some, None, if◌then◌else◌}
use Rattle.fc_base.specs.declared.syntax.BinaryOp.{BinaryOp}
use Rattle.fc_base.specs.declared.syntax.BinaryOp.TheVariants as B
use Rattle.fc_base.specs.declared.syntax.UnaryOp.{UnaryOp}
use Rattle.fc_base.specs.declared.syntax.UnaryOp.TheVariants as U
use Rattle.c_ir.specs.declared.kind.AlarmKind.{AlarmKind}
use Rattle.c_ir.specs.declared.kind.AlarmKind.TheVariants as A
use Rattle.c_ir.specs.declared.ty.IntType.{IntType}
use Rattle.c_ir.specs.declared.tree.Checks.{Checks}
use Rattle.c_ir.specs.declared.tree.Node.{Node}
use Rattle.c_ir.specs.declared.tree.Node.TheVariants as N
use Rattle.c_ir.specs.declared.tree.Expr.{Expr, out-Expr}
use Rattle.c_ir.specs.Trees.{ty_of}
use Rattle.c_ir.specs.Types.{is_signed}

abbrev pub no_checks : Checks
no_checks = record { first = None; second = None }

-- signed arithmetic may overflow, unsigned arithmetic wraps (6.2.5, paragraph 9)
abbrev pub overflow : IntType → Option AlarmKind
overflow ty = if is_signed ty then Some A.SignedOverflow else None

abbrev pub arithmetic : IntType → Checks
arithmetic ty = record { first = overflow ty; second = None }

abbrev pub division : IntType → Checks
division ty = record { first = Some A.DivisionByZero; second = overflow ty }

unfoldable pub binary_checks : BinaryOp → IntType → Checks
binary_checks B.Add ty = arithmetic ty
binary_checks B.Sub ty = arithmetic ty
binary_checks B.Mul ty = arithmetic ty
binary_checks B.Div ty = division ty
binary_checks B.Rem ty = division ty
binary_checks B.Shl ty = record { first = Some A.Shift; second = overflow ty }
binary_checks B.Shr ty = record { first = Some A.Shift; second = None }
binary_checks B.LogicOr ty = no_checks
binary_checks B.LogicAnd ty = no_checks
binary_checks B.Or ty = no_checks
binary_checks B.Xor ty = no_checks
binary_checks B.And ty = no_checks
binary_checks B.Equal ty = no_checks
binary_checks B.NotEqual ty = no_checks
binary_checks B.Less ty = no_checks
binary_checks B.Greater ty = no_checks
binary_checks B.LessEq ty = no_checks
binary_checks B.GreaterEq ty = no_checks

unfoldable pub unary_checks : UnaryOp → IntType → Checks
unary_checks U.Minus ty = arithmetic ty
unary_checks U.Plus ty = no_checks
unary_checks U.Not ty = no_checks
unary_checks U.Invert ty = no_checks

-- an object is read that may have no value
abbrev pub initialization : Bool → Option AlarmKind
initialization checked = if checked then Some A.Initialization else None

abbrev pub read_checks : Bool → Checks
read_checks checked = record { first = initialization checked; second = None }

abbrev pub element_checks : Bool → Checks
element_checks checked = record { first = Some A.IndexBound; second = initialization checked }

abbrev pub node_checks : IntType → Node Expr (List Expr) → Checks
node_checks ty (N.Literal v) = no_checks
node_checks ty (N.Cell c checked) = read_checks checked
node_checks ty (N.Element f n i checked) = element_checks checked
node_checks ty (N.Call g es) = no_checks
node_checks ty (N.Unary op e) = unary_checks op ty
node_checks ty (N.Binary op l r) = binary_checks op (ty_of l)
node_checks ty (N.Assign t e) = no_checks
node_checks ty (N.Cond c l r) = no_checks
node_checks ty (N.Cast e) = no_checks

-- the checks of the outermost operator
unfoldable pub checks_of : Expr → Checks
checks_of e = node_checks (out-Expr e).ty (out-Expr e).node
