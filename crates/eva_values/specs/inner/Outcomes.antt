-- What one pass over an expression gives: its side of a relation, and, where they are wanted, the cells for which it
-- comes out true and false.
use Rattle.std.specs.Prelude.{ℕ, ℤ, pos, ◌-ℤ◌, ◌++◌, Bool, true, false, List, [], Option, Some, None}
use Rattle.fc_base.specs.declared.ids.SiteId.{SiteId}
use Rattle.fc_base.specs.declared.relation.Relation as relations
use Rattle.fc_base.specs.declared.relation.Relation.TheVariants as R
use Rattle.fc_base.specs.declared.syntax.BinaryOp.{BinaryOp}
use Rattle.fc_base.specs.declared.syntax.BinaryOp.TheVariants as B
use Rattle.fc_base.specs.declared.syntax.UnaryOp.{UnaryOp}
use Rattle.fc_base.specs.declared.syntax.UnaryOp.TheVariants as U
use Rattle.machine_ints.specs.declared.operators.UnaryOperator.TheVariants.{Negate, Complement}
use Rattle.c_ir.specs.declared.ty.IntType.{IntType}
use Rattle.c_ir.specs.declared.kind.AlarmKind.TheVariants as A
use Rattle.int_value.specs.Checks.{equal_row, within_said}
use Rattle.int_value.specs.Rows.{empty_of, join_row, one_of}
use Rattle.int_value.specs.declared.made.Made.{Made}
use Rattle.int_value.specs.declared.value.Value.{Value}
use Rattle.abs_cells.specs.Cells.{Env, element_of, join_env, value_in}
use Rattle.abs_cells.specs.Relations.{narrow_both, on_env, opposite_of, relation_said}
use Rattle.abs_cells.specs.declared.narrowing.Side.{Side}
use Rattle.eva_values.specs.Values.{Abstract, cast_cell, env_if, has_other, has_zero, logic_value, named_by, number_of, said_value, unnamed, zero_side}
use Rattle.eva_values.specs.Marks.{made_by, made_by_unary, mark_at, mark_read, marks_made, marks_made_unary}
use Rattle.eva_values.specs.Shapes.{converted_row, shape_of}
use Rattle.eva_values.specs.declared.operators.Form.{Form}
use Rattle.eva_values.specs.declared.operators.Form.TheVariants.{Logic, Relation, Operator}
use Rattle.eva_values.specs.declared.outcome.Outcome.{Outcome}
use Rattle.eva_values.specs.declared.seen.SiteMark.{SiteMark}

abbrev pub outcome : Side → Env → Env → Outcome
outcome side holds fails = record { side = side; yes = holds; no = fails }

-- of an expression in these cells
unfoldable pub outcome_of : Abstract → Env → Bool → Outcome
outcome_of a e wanted = outcome (a.side e) (env_if wanted (a.narrowed true e)) (env_if wanted (a.narrowed false e))

-- of a value with a relation that says how it narrows
unfoldable pub tested_outcome : Env → Side → relations.Relation → Side → Side → Bool → Outcome
tested_outcome e side r a b wanted =
    outcome side (env_if wanted (env_if (has_other side.value) (on_env (narrow_both r a b) e)))
    (env_if wanted (env_if (has_zero side.value) (on_env (narrow_both (opposite_of r) a b) e)))

abbrev pub compared_outcome : Env → Side → Bool → Outcome
compared_outcome e side wanted = tested_outcome e side R.NotEqual side zero_side wanted

-- those of an operand the other way round
abbrev pub exchanged : Value → Outcome → Outcome
exchanged v a = outcome (unnamed v) (env_if (has_other v) a.no) (env_if (has_zero v) a.yes)

unfoldable pub negated_outcome : Outcome → Outcome
negated_outcome a = exchanged (said_value (equal_row a.side.value (one_of (pos 0) false))) a

-- of `&&` and `||`, with those of the left operand, and those of the right one where the left one goes on
abbrev pub logic_from : Bool → Value → Outcome → Outcome → Bool → Outcome
logic_from true v a b wanted =
    outcome (unnamed v) (env_if (has_other v) b.yes) (env_if wanted (env_if (has_zero v) (join_env a.no b.no)))
logic_from false v a b wanted =
    outcome (unnamed v) (env_if wanted (env_if (has_other v) (join_env a.yes b.yes))) (env_if (has_zero v) b.no)

unfoldable pub logic_outcome : Bool → Outcome → Outcome → Bool → Outcome
logic_outcome goes a b wanted = logic_from goes (logic_value goes a.side.value b.side.value) a b wanted

abbrev pub object_outcome : Env → ℕ → Bool → Outcome
object_outcome e x wanted = compared_outcome e (named_by (Some x) (number_of (value_in e x))) wanted

abbrev pub element_outcome : Env → ℕ → ℕ → Value → Bool → Outcome
element_outcome e first n index wanted =
    compared_outcome e (unnamed (number_of (element_of e first n index))) wanted

abbrev pub element_marks : Env → Option SiteId → ℕ → ℕ → Bool → Value → List SiteMark
element_marks e site first n checked index =
    mark_at site A.IndexBound (within_said (pos 0) (pos n -ℤ pos 1) index.range)
    ++ mark_read site checked (element_of e first n index)

abbrev pub cast_outcome : Env → IntType → Side → Bool → Outcome
cast_outcome e ty s wanted = compared_outcome e (named_by (cast_cell ty s) (converted_row ty s.value)) wanted

abbrev pub choice_outcome : Env → Value → Value → Bool → Outcome
choice_outcome e v w wanted = compared_outcome e (unnamed (join_row v w)) wanted

abbrev pub nothing_outcome : Env → Bool → Outcome
nothing_outcome e wanted = compared_outcome e (unnamed (empty_of false)) wanted

-- where `&&` and `||` go on to the right operand
abbrev pub goes_on : BinaryOp → Option Bool
goes_on B.LogicOr = Some false
goes_on B.LogicAnd = Some true
goes_on _ = None

-- the cells in which the right operand is evaluated
abbrev pub after : Option Bool → Outcome → Env → Env
after None a e = e
after (Some true) a e = a.yes
after (Some false) a e = a.no

-- of an operator that is computed
abbrev pub made_outcome : Env → Made → Bool → Outcome
made_outcome e made wanted = compared_outcome e (unnamed made.value) wanted

-- of an operator with one operand, of which this is the outcome
abbrev pub unary_outcome : Env → IntType → UnaryOp → Bool → Outcome → Bool → Outcome
unary_outcome e ty U.Plus overflow a wanted = compared_outcome e (unnamed a.side.value) wanted
unary_outcome e ty U.Minus overflow a wanted =
    made_outcome e (made_by_unary Negate (shape_of ty) overflow a.side.value) wanted
unary_outcome e ty U.Not overflow a wanted = negated_outcome a
unary_outcome e ty U.Invert overflow a wanted =
    made_outcome e (made_by_unary Complement (shape_of ty) overflow a.side.value) wanted

abbrev pub unary_marks : Option SiteId → IntType → UnaryOp → Bool → Value → List SiteMark
unary_marks site ty U.Plus overflow v = []
unary_marks site ty U.Minus overflow v = marks_made_unary site Negate (made_by_unary Negate (shape_of ty) overflow v)
unary_marks site ty U.Not overflow v = []
unary_marks site ty U.Invert overflow v =
    marks_made_unary site Complement (made_by_unary Complement (shape_of ty) overflow v)

-- of an operator with two operands
abbrev pub form_outcome : Form → Env → IntType → Bool → Outcome → Outcome → Bool → Outcome
form_outcome (Logic goes) e ty overflow a b wanted = logic_outcome goes a b wanted
form_outcome (Relation r) e ty overflow a b wanted =
    tested_outcome e (unnamed (said_value (relation_said r a.side.value b.side.value))) r a.side b.side wanted
form_outcome (Operator op) e ty overflow a b wanted =
    made_outcome e (made_by op (shape_of ty) overflow a.side.value b.side.value) wanted

abbrev pub form_marks : Form → Option SiteId → IntType → Bool → Value → Value → List SiteMark
form_marks (Logic goes) site ty overflow v w = []
form_marks (Relation r) site ty overflow v w = []
form_marks (Operator op) site ty overflow v w = marks_made site op (made_by op (shape_of ty) overflow v w)
