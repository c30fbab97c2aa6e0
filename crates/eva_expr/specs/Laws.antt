-- What is said in a state is right for the cells that it stands for.
use Rattle.std.specs.Prelude.{◌≡◌, ℤ, Bool, true, not, List, Some}
use Rattle.c_ir.specs.Formed.{form}
use Rattle.c_ir.specs.Keeps.{layout_of}
use Rattle.c_ir.specs.Programs.{Program}
use Rattle.c_ir.specs.declared.tree.Expr.{Expr}
use Rattle.c_ir.specs.declared.tree.Pred.{Pred}
use Rattle.c_rules.specs.Constants.{is_zero}
use Rattle.c_runs.specs.Evaluation.{value}
use Rattle.c_runs.specs.Parts.{Typed}
use Rattle.c_runs.specs.Truth.{holds}
use Rattle.c_runs.specs.Visits.{Cells}
use Rattle.int_value.specs.Standing.{Stands}
use Rattle.abs_cells.specs.Laws.{In}
use Rattle.abs_state.specs.declared.state.State.{State}
use Rattle.eva_terms.specs.Laws.{Fits}
use Rattle.eva_values.specs.Laws.{AllMarked}
use Rattle.eva_expr.specs.Conditions.{checks_overflow, narrowed_by_expr, narrowed_by_pred, truth_in, value_seen}

-- of an evaluation: each visit has its mark, which is right, and the value stands for the number
abbrev pub ValueIsRight : Type 0
ValueIsRight =
    (p : Program) (values : List ℤ) (e : Expr) (c : Cells) (s : State) → (form (layout_of p) e).value ≡ true → Typed p c
    → In s.env c
    → AllMarked (value_seen values e s).marks (value (checks_overflow values) e c).visits
    × ((z : ℤ) → (value (checks_overflow values) e c).value ≡ Some z → Stands (value_seen values e s).value (Some z))

abbrev pub TruthIsRight : Type 0
TruthIsRight =
    (p : Pred) (s entry : State) (c before : Cells) → In s.env c → In entry.env before
    → Fits (truth_in s entry p) (holds p c before)

-- of narrowing by an expression that came out so
abbrev pub ConditionsKeep : Type 0
ConditionsKeep =
    (p : Program) (values : List ℤ) (e : Expr) (c : Cells) (s : State) (z : ℤ) → (form (layout_of p) e).value ≡ true
    → Typed p c → In s.env c → (value (checks_overflow values) e c).value ≡ Some z
    → In (narrowed_by_expr values (not (is_zero z)) e s).env c

abbrev pub PredicatesKeep : Type 0
PredicatesKeep =
    (p : Pred) (taken : Bool) (s entry : State) (c before : Cells) → In s.env c → In entry.env before
    → holds p c before ≡ taken → In (narrowed_by_pred taken entry p s).env c
