-- Narrowing by a condition of either kind.
use Rattle.std.specs.Prelude.{◌≡◌, ℤ, Bool, List}
use Rattle.abs_state.specs.declared.state.State.{State}
use Rattle.eva_expr.specs.Conditions.{narrowed_by_expr, narrowed_by_pred}
use Rattle.eva_expr.specs.declared.cond.Cond.{Cond}
use Rattle.eva_expr.specs.declared.cond.Cond.TheVariants.{C, Acsl}

abbrev pub IsNarrowed : List ℤ → Bool → State → Cond → State → State → Type 0
IsNarrowed values taken entry (C e) before after = after ≡ narrowed_by_expr values taken e.now before
IsNarrowed values taken entry (Acsl p) before after = after ≡ narrowed_by_pred taken entry p.now before
