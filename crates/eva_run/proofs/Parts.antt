-- What the end of a body records, and what is no assignment.
use Rattle.std.proofs.Common.{◌≡◌, ◌∙◌, ℕ, Bool, true, false, List, [], Option, Some, None, refl, ap}
use Rattle.c_ir.specs.declared.tree.Expr.{Expr, map-Expr, out-Expr}
use Rattle.c_ir.specs.declared.tree.Node.{Node}
use Rattle.c_ir.specs.declared.tree.Node.TheVariants as N
use Rattle.abs_state.specs.declared.state.State.{State}
use Rattle.eva_rules.specs.Meant.{Meant, meant, meant_step}
use Rattle.eva_rules.specs.Statements.{at_end}
use Rattle.eva_run.proofs.Sames.{meant_at, with_node}

-- nothing is recorded at the end of a body
pub at_end_none : (main : Bool) (result : Option ℕ) (s : State) → (at_end main result s).records ≡ []
at_end_none main None s = refl
at_end_none true (Some r) s = refl
at_end_none false (Some r) s = refl

-- a node of another kind is no assignment
pub assign_none : (overflow : Bool) (e : Expr) → ((t v : Expr) → (out-Expr e).node ≡ N.Assign t v → ⊥)
    → (meant overflow e).assign ≡ None
assign_none overflow e other = by_node (out-Expr e).node refl
  where
    same : (n : Node Expr (List Expr)) → (out-Expr e).node ≡ n
        → (meant_step overflow (map-Expr Expr Meant (meant overflow) (with_node e n))).assign ≡ None
        → (meant overflow e).assign ≡ None
    same n is none = ap (λ (m : Meant). m.assign) (meant_at overflow e n is) ∙ none

    by_node : (n : Node Expr (List Expr)) → (out-Expr e).node ≡ n → (meant overflow e).assign ≡ None
    by_node (N.Literal v) is = same (N.Literal v) is refl
    by_node (N.Cell x checked) is = same (N.Cell x checked) is refl
    by_node (N.Element first n i checked) is = same (N.Element first n i checked) is refl
    by_node (N.Call g es) is = same (N.Call g es) is refl
    by_node (N.Unary op x) is = same (N.Unary op x) is refl
    by_node (N.Binary op a b) is = same (N.Binary op a b) is refl
    by_node (N.Assign t v) is = absurd (other t v is)
    by_node (N.Cond x a b) is = same (N.Cond x a b) is refl
    by_node (N.Cast x) is = same (N.Cast x) is refl
