-- Values, truths and narrowing in a state: those of its cells (`eva_values` for C, `eva_terms` for annotations); what
-- the state used stays.
use Rattle.std.specs.Prelude.{ℤ, Bool, not, List}
use Rattle.param_book.specs.Table.{signed_overflow}
use Rattle.c_ir.specs.declared.tree.Expr.{Expr}
use Rattle.c_ir.specs.declared.tree.Pred.{Pred}
use Rattle.c_rules.specs.Constants.{is_zero}
use Rattle.abs_cells.specs.Cells.{Env}
use Rattle.abs_state.specs.declared.state.State.{State}
use Rattle.eva_terms.specs.Shown.{narrow_row, truth_row}
use Rattle.eva_terms.specs.declared.answer.Truth.{Truth}
use Rattle.eva_values.specs.Values.{abstracted}
use Rattle.eva_values.specs.declared.seen.Seen.{Seen}

-- overflow of signed numbers is checked, under these values of the parameters
abbrev pub checks_overflow : List ℤ → Bool
checks_overflow values = not (is_zero (signed_overflow values))

unfoldable pub value_seen : List ℤ → Expr → State → Seen
value_seen values e s = record {
  value = ((abstracted (checks_overflow values) e).side s.env).value;
  marks = (abstracted (checks_overflow values) e).marks s.env;
}

unfoldable pub truth_in : State → State → Pred → Truth
truth_in s entry p = truth_row s.env entry.env p

abbrev pub with_env : Env → State → State
with_env e s = record { env = e; used = s.used }

unfoldable pub narrowed_by_expr : List ℤ → Bool → Expr → State → State
narrowed_by_expr values taken e s = with_env ((abstracted (checks_overflow values) e).narrowed taken s.env) s

unfoldable pub narrowed_by_pred : Bool → State → Pred → State → State
narrowed_by_pred taken entry p s = with_env (narrow_row taken s.env entry.env p) s
