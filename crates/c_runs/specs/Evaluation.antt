-- The evaluation of expressions (C11 6.5): operands from left to right, then the checks of the operator in their order,
-- then its value. Numbers are exact; what an operator gives is that of machine_ints, in the type of the expression.
use Rattle.std.specs.Prelude.{ℕ, ◌+◌, ℤ, pos, int_le, int_lt, unsigned_abs, Bool, true, false, not, ◌&&◌, ◌||◌, if◌then◌else◌, List, [], ◌∷◌, ◌++◌, map, Option, Some, None, is_some}
use Rattle.std.specs.Option.{option_map}
use Rattle.fc_base.specs.declared.ids.SiteId.{SiteId}
use Rattle.fc_base.specs.declared.syntax.BinaryOp.{BinaryOp}
use Rattle.fc_base.specs.declared.syntax.BinaryOp.TheVariants as B
use Rattle.fc_base.specs.declared.syntax.UnaryOp.{UnaryOp}
use Rattle.fc_base.specs.declared.syntax.UnaryOp.TheVariants as U
use Rattle.machine_ints.specs.declared.operators.Check.{Check as Test}
use Rattle.machine_ints.specs.declared.operators.Check.TheVariants.{Division, Overflow, Shift}
use Rattle.machine_ints.specs.declared.operators.Operator.{Operator}
use Rattle.machine_ints.specs.declared.operators.Operator.TheVariants as O
use Rattle.machine_ints.specs.declared.operators.UnaryOperator.{UnaryOperator}
use Rattle.machine_ints.specs.declared.operators.UnaryOperator.TheVariants.{Negate, Complement}
use Rattle.machine_ints.specs.Operators.{exact_unary, first_check, second_check, unary_check, is_visited, value_of, unary_value}
use Rattle.c_ir.specs.declared.kind.AlarmKind.{AlarmKind}
use Rattle.c_ir.specs.declared.kind.AlarmKind.TheVariants as A
use Rattle.c_ir.specs.declared.ty.IntType.{IntType}
use Rattle.c_ir.specs.declared.tree.Node.{Node}
use Rattle.c_ir.specs.declared.tree.Node.TheVariants as N
use Rattle.c_ir.specs.declared.tree.Expr.{Expr, fold-Expr}
use Rattle.c_ir.specs.declared.tree.Expr.TheOpen.{Expr-F}
use Rattle.c_ir.specs.Types.{least, greatest, width}
use Rattle.c_rules.specs.Constants.{is_number, is_zero, truth, converted, passes, decided, binary_result}
use Rattle.c_runs.specs.Visits.{Cells, Check, Visit, visit}

-- ---- courses

-- what an evaluation comes to: its visits, and a value; there is none where the run ends
pub record Course (A : Type 0) : Type 0 where
  pub visits : List Visit
  pub value : Option A

abbrev pub gives : {A : Type 0} → A → Course A
gives a = record { visits = []; value = Some a }

abbrev pub stops : {A : Type 0} → Course A
stops = record { visits = []; value = None }

abbrev pub on_value : {A B : Type 0} → Option A → (A → Course B) → Course B
on_value None f = stops
on_value (Some a) f = f a

abbrev pub after : {A : Type 0} → List Visit → Course A → Course A
after visits c = record { visits = visits ++ c.visits; value = c.value }

-- first the one, then by its value the other
abbrev pub and_then : {A B : Type 0} → Course A → (A → Course B) → Course B
and_then c f = after c.visits (on_value c.value f)

-- ---- checks

-- the behaviour after a failure of this check is undefined (6.5, paragraph 5), so the run ends
abbrev pub ends_run : AlarmKind → Bool
ends_run A.DivisionByZero = true
ends_run A.SignedOverflow = true
ends_run A.Shift = true
ends_run A.IndexBound = true
ends_run A.Initialization = true

abbrev pub going_on : {A : Type 0} → Bool → Course A → Course A
going_on true rest = rest
going_on false rest = stops

-- a check is visited with its truth, and then the rest follows
abbrev pub checked : {A : Type 0} → ℕ → AlarmKind → Bool → Course A → Course A
checked site kind passes rest = after (visit (Check site kind) passes ∷ []) (going_on (passes || not (ends_run kind)) rest)

-- an operator without a number has no checks
abbrev pub checked_at : {A : Type 0} → Option SiteId → AlarmKind → Bool → Course A → Course A
checked_at None kind passes rest = rest
checked_at (Some n) kind passes rest = checked n.0 kind passes rest

abbrev pub checked_if : {A : Type 0} → Bool → Option SiteId → AlarmKind → Bool → Course A → Course A
checked_if true site kind passes rest = checked_at site kind passes rest
checked_if false site kind passes rest = rest

-- ---- operators (6.5.3.3, 6.5.5 to 6.5.12)

abbrev pub alarm_of : Test → AlarmKind
alarm_of Division = A.DivisionByZero
alarm_of Overflow = A.SignedOverflow
alarm_of Shift = A.Shift

-- a check of an operator in a type, if it has it. Whether overflow is checked is a parameter of the run
abbrev pub tested : Bool → Option SiteId → IntType → Operator → ℤ → ℤ → Option Test → Course ℤ → Course ℤ
tested overflow site ty op x y None rest = rest
tested overflow site ty op x y (Some t) rest =
    checked_if (is_visited (least ty) overflow t) site (alarm_of t)
    (passes t op (least ty) (pos (greatest ty)) (width ty) x y) rest

abbrev pub operated : Bool → Option SiteId → IntType → Operator → ℤ → ℤ → Course ℤ
operated overflow site ty op x y =
    tested overflow site ty op x y (first_check op)
    (tested overflow site ty op x y (second_check op) (gives (value_of op (least ty) (width ty) x y)))

abbrev pub unary_tested : Bool → Option SiteId → IntType → UnaryOperator → ℤ → Option Test → Course ℤ → Course ℤ
unary_tested overflow site ty op x None rest = rest
unary_tested overflow site ty op x (Some t) rest =
    checked_if (is_visited (least ty) overflow t) site (alarm_of t) (is_number ty (exact_unary op x)) rest

abbrev pub unary_operated : Bool → Option SiteId → IntType → UnaryOperator → ℤ → Course ℤ
unary_operated overflow site ty op x =
    unary_tested overflow site ty op x (unary_check op) (gives (unary_value op (least ty) (width ty) x))

abbrev pub unary : Bool → Option SiteId → IntType → UnaryOp → ℤ → Course ℤ
unary overflow site ty U.Plus x = gives x
unary overflow site ty U.Minus x = unary_operated overflow site ty Negate x
unary overflow site ty U.Not x = gives (truth (is_zero x))
unary overflow site ty U.Invert x = unary_operated overflow site ty Complement x

-- the operators of machine_ints; relations, `&&` and `||` are none, and have no checks
abbrev pub operator_of : BinaryOp → Option Operator
operator_of B.LogicOr = None
operator_of B.LogicAnd = None
operator_of B.Or = Some O.Or
operator_of B.Xor = Some O.Xor
operator_of B.And = Some O.And
operator_of B.Equal = None
operator_of B.NotEqual = None
operator_of B.Less = None
operator_of B.Greater = None
operator_of B.LessEq = None
operator_of B.GreaterEq = None
operator_of B.Shl = Some O.Shl
operator_of B.Shr = Some O.Shr
operator_of B.Add = Some O.Add
operator_of B.Sub = Some O.Sub
operator_of B.Mul = Some O.Mul
operator_of B.Div = Some O.Div
operator_of B.Rem = Some O.Rem

abbrev pub binary_by : Option Operator → Bool → Option SiteId → IntType → BinaryOp → ℤ → ℤ → Course ℤ
binary_by None overflow site ty op x y = record { visits = []; value = binary_result op ty x y }
binary_by (Some o) overflow site ty op x y = operated overflow site ty o x y

abbrev pub binary : Bool → Option SiteId → IntType → BinaryOp → ℤ → ℤ → Course ℤ
binary overflow site ty op x y = binary_by (operator_of op) overflow site ty op x y

-- what the left operand decides alone is the value (6.5.13, 6.5.14)
abbrev pub unless : Option ℤ → Course ℤ → Course ℤ
unless None rest = rest
unless (Some v) rest = gives v

-- ---- objects (6.3.2.1, 6.5.2.1)

-- what a cell has; where that may be none it is checked
abbrev pub read : Option SiteId → Bool → Option ℤ → Course ℤ
read site checked has = checked_if checked site A.Initialization (is_some has) (record { visits = []; value = has })

abbrev pub is_index : ℕ → ℤ → Bool
is_index n k = int_le (pos 0) k && int_lt k (pos n)

-- the cell of element k of an array of n elements
abbrev pub element : Option SiteId → ℕ → ℕ → ℤ → Course ℕ
element site first n k = checked_at site A.IndexBound (is_index n k) (gives (first + unsigned_abs k))

-- ---- expressions

-- an evaluation in the cells that there are
abbrev pub Evaluation : Type 0 → Type 0
Evaluation A = Cells → Course A

-- a call: the function's number, the arguments, and the conversions of its result (6.5.2.2)
pub record Calling : Type 0 where
  pub function : ℕ
  pub args : List (Evaluation ℤ)
  pub convert : ℤ → ℤ

-- an assignment: which cell is written to, and with what, a value or a call's result (6.5.16)
pub record Assigning : Type 0 where
  pub target : Evaluation ℕ
  pub value : Evaluation ℤ
  pub call : Option Calling

-- an expression: its value, the cell that it names, and what it is as a statement if it is a call or an assignment.
-- Calls and assignments have no value here, since they stand where a statement evaluates them
pub record Meaning : Type 0 where
  pub value : Evaluation ℤ
  pub target : Evaluation ℕ
  pub call : Option Calling
  pub assign : Option Assigning

abbrev pub no_cell : Evaluation ℕ
no_cell cells = stops

abbrev pub valued : Evaluation ℤ → Meaning
valued e = record { value = e; target = no_cell; call = None; assign = None }

-- a conversion of a call's result
abbrev pub also_to : IntType → Calling → Calling
also_to ty c = record { function = c.function; args = c.args; convert = λ z. converted ty (c.convert z) }

abbrev pub value_of_meaning : Meaning → Evaluation ℤ
value_of_meaning m = m.value

abbrev pub node_meaning : Bool → IntType → Option SiteId → Node Meaning (List Meaning) → Meaning
node_meaning overflow ty site (N.Literal v) = valued (λ cells. gives v)
node_meaning overflow ty site (N.Cell c checked) = record {
  value = λ cells. read site checked (cells c);
  target = λ cells. gives c;
  call = None;
  assign = None;
}
node_meaning overflow ty site (N.Element first n i checked) = record {
  value = λ cells. and_then (i.value cells) (λ k. and_then (element site first n k) (λ c. read site checked (cells c)));
  target = λ cells. and_then (i.value cells) (element site first n);
  call = None;
  assign = None;
}
node_meaning overflow ty site (N.Call g es) = record {
  value = λ cells. stops;
  target = no_cell;
  call = Some (record { function = g.0; args = map value_of_meaning es; convert = λ z. z });
  assign = None;
}
node_meaning overflow ty site (N.Unary op e) = valued (λ cells. and_then (e.value cells) (unary overflow site ty op))
node_meaning overflow ty site (N.Binary op a b) = valued (λ cells.
    and_then (a.value cells) (λ x. unless (decided op x) (and_then (b.value cells) (binary overflow site ty op x))))
node_meaning overflow ty site (N.Assign t e) = record {
  value = λ cells. stops;
  target = no_cell;
  call = None;
  assign = Some (record { target = t.target; value = e.value; call = e.call });
}
node_meaning overflow ty site (N.Cond c a b) = valued (λ cells.
    and_then (c.value cells) (λ x. if is_zero x then b.value cells else a.value cells))
node_meaning overflow ty site (N.Cast e) = record {
  value = λ cells. and_then (e.value cells) (λ x. gives (converted ty x));
  target = no_cell;
  call = option_map (also_to ty) e.call;
  assign = None;
}

abbrev pub meaning_step : Bool → Expr-F Meaning → Meaning
meaning_step overflow e = node_meaning overflow e.ty e.site e.node

abbrev pub meaning : Bool → Expr → Meaning
meaning overflow = fold-Expr Meaning (meaning_step overflow)

-- the value of an expression
unfoldable pub value : Bool → Expr → Evaluation ℤ
value overflow e = (meaning overflow e).value
