-- The type ranges of expressions, and the checks that they leave open (this project's own). The range of a
-- constant is
-- its value; that of a conversion is its operand's, where this lies in the type, else that of the type; all
-- others have
-- that of their type.
use Rattle.std.specs.Prelude.{ℕ, ◌-ℤ◌, ℤ, pos, int_le, Bool, true, false, not, ◌&&◌, ◌||◌, if◌then◌else◌, List, [], ◌∷◌, ◌++◌, Option, Some, None}
use Rattle.by_key.specs.declared.lists.Keyed.{Keyed}
use Rattle.fc_base.specs.declared.ids.SiteId.{SiteId}
use Rattle.fc_base.specs.declared.syntax.UnaryOp.{UnaryOp}
use Rattle.fc_base.specs.declared.syntax.UnaryOp.TheVariants as U
use Rattle.machine_ints.specs.declared.decided.Ends.{Ends}
use Rattle.machine_ints.specs.declared.operators.Check.{Check as Test}
use Rattle.machine_ints.specs.declared.operators.Operator.{Operator}
use Rattle.machine_ints.specs.declared.operators.UnaryOperator.{UnaryOperator}
use Rattle.machine_ints.specs.declared.operators.UnaryOperator.TheVariants.{Negate, Complement}
use Rattle.machine_ints.specs.inner.Decided.{ends_pass, unary_ends_fit}
use Rattle.machine_ints.specs.Operators.{first_check, second_check, unary_check, is_visited}
use Rattle.c_ir.specs.Sited.{alarm_number}
use Rattle.c_ir.specs.Types.{least, greatest, width}
use Rattle.c_ir.specs.declared.kind.AlarmKind.{AlarmKind}
use Rattle.c_ir.specs.declared.kind.AlarmKind.TheVariants as A
use Rattle.c_ir.specs.declared.ty.IntType.{IntType}
use Rattle.c_ir.specs.declared.tree.Expr.{Expr, fold-Expr}
use Rattle.c_ir.specs.declared.tree.Expr.TheOpen.{Expr-F}
use Rattle.c_ir.specs.declared.tree.Node.{Node}
use Rattle.c_ir.specs.declared.tree.Node.TheVariants as N
use Rattle.c_ir.specs.Programs.{Program}
use Rattle.c_runs.specs.Evaluation.{alarm_of, operator_of}
use Rattle.c_runs.specs.Parts.{Placed, placed_in_fns}

-- ---- ranges

abbrev pub ends : ℤ → ℤ → Ends
ends lo hi = record { lo = lo; hi = hi }

abbrev pub type_ends : IntType → Ends
type_ends ty = ends (least ty) (pos (greatest ty))

abbrev pub is_inside : Ends → Ends → Bool
is_inside a b = int_le b.lo a.lo && int_le a.hi b.hi

abbrev pub converted_ends : IntType → Ends → Ends
converted_ends ty a = if is_inside a (type_ends ty) then a else type_ends ty

-- ---- checks

-- the check of this kind of the operator with this number
abbrev pub named : Option SiteId → AlarmKind → List Keyed
named None kind = []
named (Some n) kind = record { key = n.0; number = alarm_number kind } ∷ []

abbrev pub open_if : Bool → Option SiteId → AlarmKind → List Keyed
open_if true site kind = []
open_if false site kind = named site kind

-- whether the ranges of the operands decide a check: it isn't made in this type, or every choice of operands
-- from them passes it
abbrev pub ranges_decide : IntType → Operator → Ends → Ends → Test → Bool
ranges_decide ty op a b t = not (is_visited (least ty) true t) || ends_pass t op (type_ends ty) (width ty) a b

abbrev pub range_decides : IntType → UnaryOperator → Ends → Test → Bool
range_decides ty op a t = not (is_visited (least ty) true t) || unary_ends_fit op (type_ends ty) a

-- a check of an operator with two operands, if it has it
abbrev pub open_test : Option SiteId → IntType → Operator → Ends → Ends → Option Test → List Keyed
open_test site ty op a b None = []
open_test site ty op a b (Some t) = open_if (ranges_decide ty op a b t) site (alarm_of t)

abbrev pub open_operator : Option SiteId → IntType → Ends → Ends → Option Operator → List Keyed
open_operator site ty a b None = []
open_operator site ty a b (Some op) =
    open_test site ty op a b (first_check op) ++ open_test site ty op a b (second_check op)

abbrev pub open_unary_test : Option SiteId → IntType → UnaryOperator → Ends → Option Test → List Keyed
open_unary_test site ty op a None = []
open_unary_test site ty op a (Some t) = open_if (range_decides ty op a t) site (alarm_of t)

abbrev pub open_unary : Option SiteId → IntType → UnaryOp → Ends → List Keyed
open_unary site ty U.Plus a = []
open_unary site ty U.Minus a = open_unary_test site ty Negate a (unary_check Negate)
open_unary site ty U.Not a = []
open_unary site ty U.Invert a = open_unary_test site ty Complement a (unary_check Complement)

-- whether a cell has a number is never decided
abbrev pub open_read : Option SiteId → Bool → List Keyed
open_read site checked = open_if (not checked) site A.Initialization

abbrev pub open_index : Option SiteId → ℕ → Ends → List Keyed
open_index site n a = open_if (is_inside a (ends (pos 0) (pos n -ℤ pos 1))) site A.IndexBound

-- ---- expressions

-- an expression, as its parent sees it: its range, and the checks that stay open, in order of evaluation
pub record Ranged : Type 0 where
  pub ends : Ends
  pub opened : List Keyed

abbrev pub all_open : List Ranged → List Keyed
all_open [] = []
all_open (e ∷ es) = e.opened ++ all_open es

abbrev pub node_ends : IntType → Node Ranged (List Ranged) → Ends
node_ends ty (N.Literal v) = ends v v
node_ends ty (N.Cell c checked) = type_ends ty
node_ends ty (N.Element first n i checked) = type_ends ty
node_ends ty (N.Call g es) = type_ends ty
node_ends ty (N.Unary op e) = type_ends ty
node_ends ty (N.Binary op a b) = type_ends ty
node_ends ty (N.Assign t e) = type_ends ty
node_ends ty (N.Cond c a b) = type_ends ty
node_ends ty (N.Cast e) = converted_ends ty e.ends

abbrev pub node_open : IntType → Option SiteId → Node Ranged (List Ranged) → List Keyed
node_open ty site (N.Literal v) = []
node_open ty site (N.Cell c checked) = open_read site checked
node_open ty site (N.Element first n i checked) = i.opened
    ++ (open_index site n i.ends ++ open_read site checked)
node_open ty site (N.Call g es) = all_open es
node_open ty site (N.Unary op e) = e.opened ++ open_unary site ty op e.ends
node_open ty site (N.Binary op a b) = a.opened
    ++ (b.opened ++ open_operator site ty a.ends b.ends (operator_of op))
node_open ty site (N.Assign t e) = t.opened ++ e.opened
node_open ty site (N.Cond c a b) = c.opened ++ (a.opened ++ b.opened)
node_open ty site (N.Cast e) = e.opened

abbrev pub ranged_step : Expr-F Ranged → Ranged
ranged_step e = record { ends = node_ends e.ty e.node; opened = node_open e.ty e.site e.node }

abbrev pub ranged : Expr → Ranged
ranged = fold-Expr Ranged ranged_step

-- ---- programs

abbrev pub open_in : List Placed → List Keyed
open_in [] = []
open_in (x ∷ xs) = (ranged x.expr).opened ++ open_in xs

-- the open checks of a program
unfoldable pub open_checks : Program → List Keyed
open_checks p = open_in (placed_in_fns p.fns)
