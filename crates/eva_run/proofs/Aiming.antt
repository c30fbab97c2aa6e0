-- Where an assignment writes to, by the node of its target.
use Rattle.std.proofs.Common.{◌≡◌, ◌∙◌, ◌⊎◌, inl, inr, ℕ, ℤ, Bool, List, Result, refl, sym, ap, subst}
use Rattle.fc_base.specs.declared.ids.FnId.{FnId}
use Rattle.fc_base.specs.declared.syntax.BinaryOp.{BinaryOp}
use Rattle.fc_base.specs.declared.syntax.UnaryOp.{UnaryOp}
use Rattle.c_ir.specs.declared.tree.Expr.{Expr, map-Expr, out-Expr}
use Rattle.c_ir.specs.declared.tree.Node.{Node}
use Rattle.c_ir.specs.declared.tree.Node.TheVariants as N
use Rattle.c_runs.specs.Visits.{Named}
use Rattle.abs_state.specs.States.{unreached_state}
use Rattle.abs_state.specs.declared.state.State.{State}
use Rattle.eva_values.specs.Values.{Abstract, abstracted}
use Rattle.eva_rules.specs.Meant.{Meant, Target, cell_target, element_target, meant, meant_step, no_target}
use Rattle.eva_rules.specs.Writing.{nowhere_to, set_cell}
use Rattle.eva_rules.proofs.Meaning.{meant_value}
use Rattle.eva_run.specs.Code.{IsAimed}
use Rattle.eva_run.specs.declared.tallies.Tally.{Tally}
use Rattle.eva_run.specs.declared.values.Aimed.{Aimed}
use Rattle.eva_run.proofs.Sames.{Is, meant_at, with_node}
use Rattle.eva_run.proofs.Seeing.{Aims}
use Rattle.eva_run.proofs.Tallying.{noted_none}

target_at : (overflow : Bool) (e : Expr) (n : Node Expr (List Expr)) → Is e n
    → (meant overflow e).target ≡ (meant_step overflow
    (map-Expr Expr Meant (meant overflow) (with_node e n))).target
target_at overflow e n is = ap (λ (m : Meant). m.target) (meant_at overflow e n is)

pub cell_aimed : (f : Named → ℕ) (noting : Bool) (table : List Tally) (overflow : Bool) (e : Expr) (x : ℕ)
    (checked : Bool) (s : State) → Is e (N.Cell x checked)
    → Aims f noting table table (set_cell x) s (meant overflow e).target s
cell_aimed f noting table overflow e x checked s is =
    subst (λ (t : Target). Aims f noting table table (set_cell x) s t s)
    (sym (target_at overflow e (N.Cell x checked) is))
    (refl, refl, sym (noted_none f noting table))

pub element_known : (overflow : Bool) (e : Expr) (first n : ℕ) (i now : Expr) (checked : Bool)
    → Is e (N.Element first n i checked) → now ≡ i
    → element_target (out-Expr e).site first n (abstracted overflow now) ≡ (meant overflow e).target
element_known overflow e first n i now checked is same =
    ap (λ (x : Expr). element_target (out-Expr e).site first n (abstracted overflow x)) same
    ∙ ap (λ (a : Abstract). element_target (out-Expr e).site first n a) (sym (meant_value overflow i))
    ∙ sym (target_at overflow e (N.Element first n i checked) is)

pub element_aimed : {X : Type 0} (f : Named → ℕ) (noting : Bool) (old new : List Tally) (r : Result Aimed X)
    (overflow : Bool) (e : Expr) (first n : ℕ) (i now : Expr) (checked : Bool) (s : State)
    → Is e (N.Element first n i checked) → now ≡ i
    → IsAimed f r noting old new (element_target (out-Expr e).site first n (abstracted overflow now)) s
    → IsAimed f r noting old new (meant overflow e).target s
element_aimed f noting old new r overflow e first n i now checked s is same h =
    subst (λ (t : Target). IsAimed f r noting old new t s)
    (element_known overflow e first n i now checked is same) h

-- none of these names an object
abbrev pub NoPlace : Expr → Type 0
NoPlace e =
    ((v : ℤ) × Is e (N.Literal v))
    ⊎ (((g : FnId) × (es : List Expr) × Is e (N.Call g es))
    ⊎ (((op : UnaryOp) × (a : Expr) × Is e (N.Unary op a))
    ⊎ (((op : BinaryOp) × (a : Expr) × (b : Expr) × Is e (N.Binary op a b))
    ⊎ (((a : Expr) × (b : Expr) × Is e (N.Assign a b))
    ⊎ (((c : Expr) × (a : Expr) × (b : Expr) × Is e (N.Cond c a b))
    ⊎ ((of : Expr) × Is e (N.Cast of)))))))

no_place : (overflow : Bool) (e : Expr) → NoPlace e → (meant overflow e).target ≡ no_target
no_place overflow e (inl (v, is)) = target_at overflow e (N.Literal v) is
no_place overflow e (inr (inl (g, es, is))) = target_at overflow e (N.Call g es) is
no_place overflow e (inr (inr (inl (op, a, is)))) = target_at overflow e (N.Unary op a) is
no_place overflow e (inr (inr (inr (inl (op, a, b, is))))) = target_at overflow e (N.Binary op a b) is
no_place overflow e (inr (inr (inr (inr (inl (a, b, is)))))) = target_at overflow e (N.Assign a b) is
no_place overflow e (inr (inr (inr (inr (inr (inl (c, a, b, is))))))) = target_at overflow e (N.Cond c a b)
    is
no_place overflow e (inr (inr (inr (inr (inr (inr (of, is))))))) = target_at overflow e (N.Cast of) is

pub nowhere_aimed : (f : Named → ℕ) (noting : Bool) (table : List Tally) (overflow : Bool) (e : Expr)
    (s after : State)
    → NoPlace e → after ≡ unreached_state s.used
    → Aims f noting table table nowhere_to after (meant overflow e).target s
nowhere_aimed f noting table overflow e s after is h =
    subst (λ (t : Target). Aims f noting table table nowhere_to after t s) (sym (no_place overflow e is))
    (refl, h, sym (noted_none f noting table))
