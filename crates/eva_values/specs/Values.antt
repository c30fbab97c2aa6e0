-- What an expression comes to in cells that are known by their values (this project's own, after the abstract
-- interpretation of Cousot and Cousot): its value, the marks of its checks in order of evaluation, and the cells for
-- which, as a condition, it comes out true or false.
use Rattle.std.specs.Prelude.{ℕ, ℤ, pos, ◌-ℤ◌, Bool, true, false, not, ◌&&◌, ◌||◌, if◌then◌else◌, List, [], ◌∷◌, ◌++◌, Option, Some, None}
use Rattle.fc_base.specs.declared.ids.SiteId.{SiteId}
use Rattle.fc_base.specs.declared.relation.Relation.{Relation}
use Rattle.fc_base.specs.declared.relation.Relation.TheVariants as R
use Rattle.fc_base.specs.declared.syntax.BinaryOp.{BinaryOp}
use Rattle.fc_base.specs.declared.syntax.BinaryOp.TheVariants as B
use Rattle.fc_base.specs.declared.syntax.UnaryOp.{UnaryOp}
use Rattle.fc_base.specs.declared.syntax.UnaryOp.TheVariants as U
use Rattle.machine_ints.specs.declared.operators.Operator.{Operator}
use Rattle.machine_ints.specs.declared.operators.Operator.TheVariants as O
use Rattle.machine_ints.specs.declared.operators.UnaryOperator.{UnaryOperator}
use Rattle.machine_ints.specs.declared.operators.UnaryOperator.TheVariants.{Negate, Complement}
use Rattle.int_congr.specs.Rows.{unknown_of}
use Rattle.int_interval.specs.Rows.{included_row, is_empty, is_just}
use Rattle.int_interval.specs.declared.interval.Interval.TheVariants.{Within}
use Rattle.int_interval.specs.declared.said.Said.{Said}
use Rattle.int_interval.specs.declared.said.Said.TheVariants.{Yes, No, Maybe, Unreached}
use Rattle.int_interval.specs.declared.shape.Shape.{Shape}
use Rattle.int_value.specs.Checks.{equal_row, within_said}
use Rattle.int_value.specs.Rows.{contains_row, empty_of, join_row, number_row, one_of, type_range, value_of}
use Rattle.int_value.specs.declared.made.Made.{Made}
use Rattle.int_value.specs.declared.value.Value.{Value}
use Rattle.c_ir.specs.declared.kind.AlarmKind.TheVariants as A
use Rattle.c_ir.specs.declared.ty.IntType.{IntType}
use Rattle.c_ir.specs.declared.tree.Node.{Node}
use Rattle.c_ir.specs.declared.tree.Node.TheVariants as N
use Rattle.c_ir.specs.declared.tree.Expr.{Expr, fold-Expr}
use Rattle.c_ir.specs.declared.tree.Expr.TheOpen.{Expr-F}
use Rattle.abs_cells.specs.Cells.{Env, element_of, join_env, value_in}
use Rattle.abs_cells.specs.Relations.{narrow_both, on_env, opposite_of, relation_said}
use Rattle.abs_cells.specs.declared.narrowing.Side.{Side}
use Rattle.eva_values.specs.Marks.{made_by, made_by_unary, mark_at, mark_read, marks_made, marks_made_unary}
use Rattle.eva_values.specs.Shapes.{converted_row, shape_of}
use Rattle.eva_values.specs.declared.seen.SiteMark.{SiteMark}

-- ---- values

-- 0, 1, both or neither
abbrev pub bits : Bool → Bool → Value
bits false false = empty_of false
bits false true = one_of (pos 1) false
bits true false = one_of (pos 0) false
bits true true = value_of (Within (pos 0) (pos 1)) unknown_of false

-- what a relation gives (C11 6.5.8, 6.5.9)
abbrev pub said_value : Said → Value
said_value Yes = bits false true
said_value No = bits true false
said_value Maybe = bits true true
said_value Unreached = bits false false

-- the value has 0, and it has another number
abbrev pub has_zero : Value → Bool
has_zero v = contains_row v (pos 0)

abbrev pub has_other : Value → Bool
has_other v = not (is_empty v.range || is_just v.range (pos 0))

-- as a condition it may come out so
abbrev pub may_be : Bool → Value → Bool
may_be true v = has_other v
may_be false v = has_zero v

-- the numbers of a cell, where it has one
abbrev pub number_of : Value → Value
number_of v = value_of v.range v.congr false

-- where no run comes there is no number
abbrev pub constant_in : Env → ℤ → Value
constant_in None n = empty_of false
constant_in (Some cells) n = number_row n

-- ---- expressions

pub record Abstract : Type 0 where
  -- the value, and the cell whose number it is, if it is one's
  pub side : Env → Side
  pub marks : Env → List SiteMark
  -- the cells of those for which it comes out so
  pub narrowed : Bool → Env → Env

abbrev pub named_by : Option ℕ → Value → Side
named_by cell value = record { cell = cell; value = value }

abbrev pub unnamed : Value → Side
unnamed = named_by None

abbrev pub zero_side : Side
zero_side = unnamed (one_of (pos 0) false)

-- a condition whose value is surely the other one leaves no cells
abbrev pub env_if : Bool → Env → Env
env_if false e = None
env_if true e = e

abbrev pub abstract_of : (Env → Side) → (Env → List SiteMark) → (Bool → Env → Env) → Abstract
abstract_of side marks narrowed = record {
  side = side;
  marks = marks;
  narrowed = λ taken e. env_if (may_be taken (side e).value) (narrowed taken e);
}

-- a relation taken false narrows as its opposite does
abbrev pub taken_as : Bool → Relation → Relation
taken_as true r = r
taken_as false r = opposite_of r

abbrev pub tested : Relation → Side → Side → Bool → Env → Env
tested r a b taken = on_env (narrow_both (taken_as taken r) a b)

-- an expression that is no relation, `!`, `&&` or `||` is compared with 0 by `!=`
abbrev pub compared : (Env → Side) → (Env → List SiteMark) → Abstract
compared side marks = abstract_of side marks (λ taken e. tested R.NotEqual (side e) zero_side taken e)

-- ---- operators with one operand (6.5.3.3)

abbrev pub unary_by : Bool → Option SiteId → IntType → UnaryOperator → Abstract → Abstract
unary_by overflow site ty op a =
    compared (λ e. unnamed (made_by_unary op (shape_of ty) overflow (a.side e).value).value)
    (λ e. a.marks e ++ marks_made_unary site op (made_by_unary op (shape_of ty) overflow (a.side e).value))

abbrev pub negated : Abstract → Abstract
negated a = abstract_of
    (λ e. unnamed (said_value (equal_row (a.side e).value (one_of (pos 0) false))))
    a.marks
    (λ taken e. a.narrowed (not taken) e)

abbrev pub unary_abstract : Bool → Option SiteId → IntType → UnaryOp → Abstract → Abstract
unary_abstract overflow site ty U.Plus a = compared (λ e. unnamed (a.side e).value) a.marks
unary_abstract overflow site ty U.Minus a = unary_by overflow site ty Negate a
unary_abstract overflow site ty U.Not a = negated a
unary_abstract overflow site ty U.Invert a = unary_by overflow site ty Complement a

-- ---- operators with two operands (6.5.5 to 6.5.14)

abbrev pub binary_by : Bool → Option SiteId → IntType → Operator → Abstract → Abstract → Abstract
binary_by overflow site ty op a b =
    compared (λ e. unnamed (made_by op (shape_of ty) overflow (a.side e).value (b.side e).value).value)
    (λ e. a.marks e
    ++ (b.marks e ++ marks_made site op (made_by op (shape_of ty) overflow (a.side e).value (b.side e).value)))

abbrev pub related_by : Relation → Abstract → Abstract → Abstract
related_by r a b = abstract_of
    (λ e. unnamed (said_value (relation_said r (a.side e).value (b.side e).value)))
    (λ e. a.marks e ++ b.marks e)
    (λ taken e. tested r (a.side e) (b.side e) taken e)

-- the right operand is evaluated in the cells for which the left one came out true for `&&`, and false for `||`
abbrev pub either_joined : Bool → Abstract → Abstract → Env → Env
either_joined goes a b e =
    join_env (a.narrowed (not goes) e) (b.narrowed (not goes) (a.narrowed goes e))

abbrev pub logic_narrowed : Bool → Abstract → Abstract → Bool → Env → Env
logic_narrowed true a b true e = b.narrowed true (a.narrowed true e)
logic_narrowed true a b false e = either_joined true a b e
logic_narrowed false a b true e = either_joined false a b e
logic_narrowed false a b false e = b.narrowed false (a.narrowed false e)

-- 0 and 1 by the values reached
abbrev pub logic_value : Bool → Value → Value → Value
logic_value true a b = bits (has_zero a || has_zero b) (has_other b)
logic_value false a b = bits (has_zero b) (has_other a || has_other b)

-- `&&`, which goes on where the left operand is true, and `||`, which does where it is false
abbrev pub logic_by : Bool → Abstract → Abstract → Abstract
logic_by goes a b = abstract_of
    (λ e. unnamed (logic_value goes (a.side e).value (b.side (a.narrowed goes e)).value))
    (λ e. a.marks e ++ b.marks (a.narrowed goes e))
    (λ taken e. logic_narrowed goes a b taken e)

abbrev pub binary_abstract : Bool → Option SiteId → IntType → BinaryOp → Abstract → Abstract → Abstract
binary_abstract overflow site ty B.LogicOr a b = logic_by false a b
binary_abstract overflow site ty B.LogicAnd a b = logic_by true a b
binary_abstract overflow site ty B.Or a b = binary_by overflow site ty O.Or a b
binary_abstract overflow site ty B.Xor a b = binary_by overflow site ty O.Xor a b
binary_abstract overflow site ty B.And a b = binary_by overflow site ty O.And a b
binary_abstract overflow site ty B.Equal a b = related_by R.Equal a b
binary_abstract overflow site ty B.NotEqual a b = related_by R.NotEqual a b
binary_abstract overflow site ty B.Less a b = related_by R.Less a b
binary_abstract overflow site ty B.Greater a b = related_by R.Greater a b
binary_abstract overflow site ty B.LessEq a b = related_by R.LessEq a b
binary_abstract overflow site ty B.GreaterEq a b = related_by R.GreaterEq a b
binary_abstract overflow site ty B.Shl a b = binary_by overflow site ty O.Shl a b
binary_abstract overflow site ty B.Shr a b = binary_by overflow site ty O.Shr a b
binary_abstract overflow site ty B.Add a b = binary_by overflow site ty O.Add a b
binary_abstract overflow site ty B.Sub a b = binary_by overflow site ty O.Sub a b
binary_abstract overflow site ty B.Mul a b = binary_by overflow site ty O.Mul a b
binary_abstract overflow site ty B.Div a b = binary_by overflow site ty O.Div a b
binary_abstract overflow site ty B.Rem a b = binary_by overflow site ty O.Rem a b

-- ---- nodes

-- an element, checked by its index and then as what is read (6.5.2.1)
abbrev pub element_abstract : Option SiteId → ℕ → ℕ → Abstract → Bool → Abstract
element_abstract site first n i checked =
    compared (λ e. unnamed (number_of (element_of e first n (i.side e).value)))
    (λ e. i.marks e
    ++ (mark_at site A.IndexBound (within_said (pos 0) (pos n -ℤ pos 1) (i.side e).value.range)
    ++ mark_read site checked (element_of e first n (i.side e).value)))

-- a conversion that keeps all numbers of the value in these cells names the cell still
abbrev pub cast_cell : IntType → Side → Option ℕ
cast_cell ty s = if included_row s.value.range (type_range (shape_of ty)) then s.cell else None

abbrev pub node_abstract : Bool → IntType → Option SiteId → Node Abstract (List Abstract) → Abstract
node_abstract overflow ty site (N.Literal v) = compared (λ e. unnamed (constant_in e v)) (λ e. [])
node_abstract overflow ty site (N.Cell x checked) =
    compared (λ e. named_by (Some x) (number_of (value_in e x))) (λ e. mark_read site checked (value_in e x))
node_abstract overflow ty site (N.Element first n i checked) = element_abstract site first n i checked
node_abstract overflow ty site (N.Call g es) = compared (λ e. unnamed (empty_of false)) (λ e. [])
node_abstract overflow ty site (N.Unary op a) = unary_abstract overflow site ty op a
node_abstract overflow ty site (N.Binary op a b) = binary_abstract overflow site ty op a b
node_abstract overflow ty site (N.Assign t a) = compared (λ e. unnamed (empty_of false)) (λ e. [])
node_abstract overflow ty site (N.Cond c a b) =
    compared (λ e. unnamed (join_row (a.side (c.narrowed true e)).value (b.side (c.narrowed false e)).value))
    (λ e. c.marks e ++ (a.marks (c.narrowed true e) ++ b.marks (c.narrowed false e)))
node_abstract overflow ty site (N.Cast a) =
    compared (λ e. named_by (cast_cell ty (a.side e)) (converted_row ty (a.side e).value)) a.marks

abbrev pub abstract_step : Bool → Expr-F Abstract → Abstract
abstract_step overflow e = node_abstract overflow e.ty e.site e.node

-- what an expression comes to; whether overflow of signed numbers is checked is a parameter of the run
unfoldable pub abstracted : Bool → Expr → Abstract
abstracted overflow = fold-Expr Abstract (abstract_step overflow)
