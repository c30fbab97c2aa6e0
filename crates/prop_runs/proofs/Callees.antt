-- The call that an expression is, or whose result it assigns, is among its calls.
use Rattle.std.proofs.Common.{◌≡◌, inl, inr, ℕ, Bool, List, [], ◌∷◌, ◌++◌, map, Option, Some, None, refl, sym, subst}
use Rattle.std.specs.Option.{option_map}
use Rattle.fc_base.specs.declared.ids.SiteId.{SiteId}
use Rattle.c_ir.specs.Calls.{calls_step, calls_of, calls_of_all}
use Rattle.c_ir.specs.declared.ty.IntType.{IntType}
use Rattle.c_ir.specs.declared.tree.Expr.{Expr, map-Expr, roll-Expr}
use Rattle.c_ir.specs.declared.tree.Expr.TheFolds.{fold-roll-Expr, ind-Expr}
use Rattle.c_ir.specs.declared.tree.Expr.TheOpen.{Expr-F}
use Rattle.c_ir.specs.declared.tree.Node.{Node}
use Rattle.c_ir.specs.declared.tree.Node.TheVariants as N
use Rattle.c_runs.specs.Evaluation.{Calling, Assigning, Meaning, also_to, meaning, meaning_step}
use Rattle.c_runs.specs.Parts.{Has, Calls, call_assigned}
use Rattle.prop_runs.proofs.Standing.{has_right}

abbrev CallIn : List ℕ → Option Calling → Type 0
CallIn gs None = Unit {0}
CallIn gs (Some k) = Has gs k.function

abbrev AssignIn : List ℕ → Option Assigning → Type 0
AssignIn gs None = Unit {0}
AssignIn gs (Some a) = CallIn gs a.call

abbrev Among : List ℕ → Meaning → Type 0
Among gs m = CallIn gs m.call × AssignIn gs m.assign

call_right : (xs ys : List ℕ) (o : Option Calling) → CallIn ys o → CallIn (xs ++ ys) o
call_right xs ys None h = tt
call_right xs ys (Some k) h = has_right xs ys k.function h

also_in : (gs : List ℕ) (ty : IntType) (o : Option Calling) → CallIn gs o
    → CallIn gs (option_map (also_to ty) o)
also_in gs ty None h = tt
also_in gs ty (Some k) h = h

abbrev Claim : Bool → Expr → Type 0
Claim overflow e = Among (calls_of e) (meaning overflow e)

abbrev With : Bool → Type 0
With overflow = (e : Expr) × Claim overflow e

abbrev Top : Bool → Expr-F Expr → Type 0
Top overflow x =
    Among (calls_step (map-Expr Expr (List ℕ) calls_of x))
    (meaning_step overflow (map-Expr Expr Meaning (meaning overflow) x))

abbrev plain : (overflow : Bool) → IntType → Option SiteId → Node (With overflow) (List (With overflow))
    → Expr-F Expr
plain overflow ty site n =
    map-Expr (With overflow) Expr (λ e. e.0) (record { ty = ty; site = site; node = n })

by_node : (overflow : Bool) (ty : IntType) (site : Option SiteId)
    (n : Node (With overflow) (List (With overflow)))
    → Top overflow (plain overflow ty site n)
by_node overflow ty site (N.Literal v) = (tt, tt)
by_node overflow ty site (N.Cell c k) = (tt, tt)
by_node overflow ty site (N.Element x n i k) = (tt, tt)
by_node overflow ty site (N.Call g es) =
    (has_right (calls_of_all (map (λ (e : With overflow). e.0) es)) (g.0 ∷ []) g.0 (inl refl), tt)
by_node overflow ty site (N.Unary op e) = (tt, tt)
by_node overflow ty site (N.Binary op l r) = (tt, tt)
by_node overflow ty site (N.Assign t e) =
    (tt, call_right (calls_of t.0) (calls_of e.0) (meaning overflow e.0).call e.1.0)
by_node overflow ty site (N.Cond c l r) = (tt, tt)
by_node overflow ty site (N.Cast e) = (also_in (calls_of e.0) ty (meaning overflow e.0).call e.1.0, tt)

layer : (overflow : Bool) (y : Expr-F (With overflow))
    → Top overflow (map-Expr (With overflow) Expr (λ e. e.0) y)
layer overflow y = by_node overflow y.ty y.site y.node

rolled : (overflow : Bool) (x : Expr-F Expr) → Top overflow x → Claim overflow (roll-Expr x)
rolled overflow x h =
    subst (λ (gs : List ℕ). Among gs (meaning overflow (roll-Expr x)))
    (sym (fold-roll-Expr (List ℕ) calls_step x))
    (subst (Among (calls_step (map-Expr Expr (List ℕ) calls_of x)))
    (sym (fold-roll-Expr Meaning (meaning_step overflow) x)) h)

claims : (overflow : Bool) (e : Expr) → Claim overflow e
claims overflow =
    ind-Expr (Claim overflow) (λ x y is. rolled overflow x (subst (Top overflow) is (layer overflow y)))

assigned : (gs : List ℕ) (o : Option Assigning) (k : Calling) → AssignIn gs o → call_assigned o ≡ Some k
    → Has gs k.function
assigned gs None k h is = absurd (no_call k is)
  where
    no_call : (k : Calling) → None ≡ Some k → ⊥
    no_call k is = cc
assigned gs (Some a) k h is = subst (CallIn gs) is h

-- a call that an expression makes as a statement is one of its calls
pub callee : (overflow : Bool) (e : Expr) (k : Calling) → Calls (meaning overflow e) k
    → Has (calls_of e) k.function
callee overflow e k (inl is) = subst (CallIn (calls_of e)) is (claims overflow e).0
callee overflow e k (inr is) = assigned (calls_of e) (meaning overflow e).assign k (claims overflow e).1 is
