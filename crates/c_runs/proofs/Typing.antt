-- Well-formed expressions give numbers of their types, in cells that have numbers of theirs.
use Rattle.std.proofs.Common.{◌≡◌, Bool, true, List, [], ◌∷◌, map, Option, sym, subst}
use Rattle.std.proofs.lemmas.Bool.{and_parts, true≢false}
use Rattle.fc_base.specs.declared.ids.SiteId.{SiteId}
use Rattle.c_ir.specs.Formed.{Form, form, form_step, args_fit}
use Rattle.c_ir.specs.Keeps.{layout_of}
use Rattle.c_ir.specs.Programs.{Program}
use Rattle.c_ir.specs.declared.tree.Expr.{Expr, map-Expr, roll-Expr}
use Rattle.c_ir.specs.declared.tree.Expr.TheFolds.{fold-roll-Expr, ind-Expr}
use Rattle.c_ir.specs.declared.tree.Expr.TheOpen.{Expr-F}
use Rattle.c_ir.specs.declared.tree.Node.{Node}
use Rattle.c_ir.specs.declared.tree.Node.TheVariants as N
use Rattle.c_ir.specs.declared.ty.IntType.{IntType}
use Rattle.c_runs.specs.Evaluation.{Meaning, value_of_meaning, meaning_step, meaning}
use Rattle.c_runs.proofs.OperatorValues.{of_same}
use Rattle.c_runs.proofs.TypedNodes.{literal_typed, cell_typed, element_typed, call_typed, unary_typed, binary_typed, assign_typed, cond_typed, cast_typed}
pub use Rattle.c_runs.proofs.MeaningTypes.{CellIs, GivesOf, GivesCells, ArgsTyped, CallTyped, AssignTyped, MeaningTyped}

abbrev Good : Program → Bool → Expr → Type 0
Good p checks e = MeaningTyped p (meaning checks e) (form (layout_of p) e)

abbrev With : Program → Bool → Type 0
With p checks = (e : Expr) × Good p checks e

abbrev exprs_of : (p : Program) (checks : Bool) → List (With p checks) → List Expr
exprs_of p checks es = map (λ e. e.0) es

-- the arguments of a call
args_typed : (p : Program) (checks : Bool) (es : List (With p checks)) (tys : List IntType)
    → args_fit tys (map (form (layout_of p)) (exprs_of p checks es)) ≡ true
    → ArgsTyped p tys (map value_of_meaning (map (meaning checks) (exprs_of p checks es)))
args_typed p checks [] [] is = tt
args_typed p checks (e ∷ es) [] is = true≢false (sym is)
args_typed p checks [] (ty ∷ tys) is = true≢false (sym is)
args_typed p checks (e ∷ es) (ty ∷ tys) is =
    let parts = and_parts _ _ is in
    let here = and_parts _ _ parts.0 in (
      λ c typed z gave. of_same (form (layout_of p) e.0).ty ty z here.1 (e.1.value here.0 c typed z gave),
      args_typed p checks es tys parts.1,
    )

abbrev meaning_of : Bool → Expr-F Expr → Meaning
meaning_of checks y = meaning_step checks (map-Expr Expr Meaning (meaning checks) y)

abbrev form_of : Program → Expr-F Expr → Form
form_of p y = form_step (layout_of p) (map-Expr Expr Form (form (layout_of p)) y)

abbrev Layer : Program → Bool → Expr-F Expr → Type 0
Layer p checks y = MeaningTyped p (meaning_of checks y) (form_of p y)

abbrev tree : (p : Program) (checks : Bool) → IntType → Option SiteId → Node (With p checks) (List (With p checks))
    → Expr-F Expr
tree p checks ty site n = map-Expr (With p checks) Expr (λ e. e.0) (record { ty = ty; site = site; node = n })

by_node : (p : Program) (checks : Bool) (ty : IntType) (site : Option SiteId)
    (n : Node (With p checks) (List (With p checks))) → Layer p checks (tree p checks ty site n)
by_node p checks ty site (N.Literal v) = literal_typed p checks ty site v
by_node p checks ty site (N.Cell x k) = cell_typed p checks ty site x k
by_node p checks ty site (N.Element first n i k) = element_typed p checks ty site first n _ _ k i.1
by_node p checks ty site (N.Call g es) = call_typed p checks ty site g _ _ (args_typed p checks es)
by_node p checks ty site (N.Unary op e) = unary_typed p checks ty site op _ _ e.1
by_node p checks ty site (N.Binary op a b) = binary_typed p checks ty site op _ _ _ _ a.1 b.1
by_node p checks ty site (N.Assign t e) = assign_typed p checks ty site _ _ _ _ t.1 e.1
by_node p checks ty site (N.Cond c a b) = cond_typed p checks ty site _ _ _ _ _ _ c.1 a.1 b.1
by_node p checks ty site (N.Cast e) = cast_typed p checks ty site _ _ e.1

-- a well-formed expression gives numbers of its type, names cells of its type, and its call and its assignment fit
pub meaning_typed : (p : Program) (overflow : Bool) (e : Expr)
    → MeaningTyped p (meaning overflow e) (form (layout_of p) e)
meaning_typed p overflow =
    ind-Expr (Good p overflow) (λ x y is.
    let here = subst (λ (z : Expr-F Expr). Layer p overflow z) is (by_node p overflow y.ty y.site y.node) in
    let means = sym (fold-roll-Expr Meaning (meaning_step overflow) x) in
    let forms = sym (fold-roll-Expr Form (form_step (layout_of p)) x) in
    let left = subst (λ (m : Meaning). MeaningTyped p m (form_of p x)) means here in
    subst (λ (f : Form). MeaningTyped p (meaning overflow (roll-Expr x)) f) forms left)
