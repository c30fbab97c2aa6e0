-- What an expression visits at its point is checks of operators that have this point.
use Rattle.std.proofs.Common.{◌≡◌, ℤ, Bool, true, false, List, [], ◌∷◌, map, Option, Some, None, refl, sym, subst, ℕ}
use Rattle.std.proofs.lemmas.Bool.{and_parts, true≢false}
use Rattle.std.specs.Option.{option_map}
use Rattle.std.specs.Prelude.{is_some, if◌then◌else◌}
use Rattle.fc_base.specs.declared.ids.PointId.{PointId}
use Rattle.fc_base.specs.declared.ids.SiteId.{SiteId}
use Rattle.c_ir.specs.Checks.{read_checks, element_checks, unary_checks, binary_checks}
use Rattle.c_ir.specs.Formed.{Layout, Form, Callee, form, form_step, on_some, args_fit, is_call_of, binary_types}
use Rattle.c_ir.specs.Programs.{Program}
use Rattle.c_ir.specs.Sited.{Sited, all_hold, sited, sited_step, at_sites}
use Rattle.c_ir.specs.declared.kind.AlarmKind.TheVariants as A
use Rattle.c_ir.specs.declared.ty.IntType.{IntType}
use Rattle.c_ir.specs.declared.tree.Expr.{Expr, map-Expr, roll-Expr}
use Rattle.c_ir.specs.declared.tree.Expr.TheFolds.{fold-roll-Expr, ind-Expr}
use Rattle.c_ir.specs.declared.tree.Expr.TheOpen.{Expr-F}
use Rattle.c_ir.specs.declared.tree.Node.{Node}
use Rattle.c_ir.specs.declared.tree.Node.TheVariants as N
use Rattle.c_rules.specs.Constants.{is_zero, decided, converted}
use Rattle.c_runs.specs.Visits.{Cells, Visit}
use Rattle.c_runs.specs.Evaluation.{Course, Calling, Meaning, read, unless, gives, also_to, value_of_meaning, meaning, meaning_step, element, and_then}
use Rattle.c_runs.specs.Parts.{VisitsPart}
use Rattle.prop_table.proofs.Lists.{Each}
use Rattle.prop_runs.proofs.Courses.{Bears, then_fine, checked_fine, checked_if_fine, unary_fine, binary_fine}
use Rattle.prop_runs.proofs.Operators.{OwnCheck, bears_all}
use Rattle.prop_runs.proofs.Evaluating.{FineArgs, FineCall, FineParts, part_fine}

-- ---- nodes

-- what is known of an expression, by what its parents see of it
record Known (P : Visit → Type 0) (s : Sited) (m : Meaning) (f : Form) : Type 0 where
  ty : s.ty ≡ f.ty
  parts : s.holds ≡ true → FineParts P m f

record Over : Type 0 where
  program : Program
  point : PointId
  layout : Layout
  overflow : Bool

abbrev Own : Over → Visit → Type 0
Own w = OwnCheck w.program w.point.0

abbrev Claim : Over → Expr → Type 0
Claim w e = Known (Own w) (sited w.program.sites w.point e) (meaning w.overflow e) (form w.layout e)

abbrev With : Over → Type 0
With w = (e : Expr) × Claim w e

abbrev exprs : (w : Over) → List (With w) → List Expr
exprs w es = map (λ (e : With w). e.0) es

abbrev Top : Over → Expr-F Expr → Type 0
Top w x =
    Known (Own w) (sited_step w.program.sites w.point (map-Expr Expr Sited (sited w.program.sites w.point) x))
    (meaning_step w.overflow (map-Expr Expr Meaning (meaning w.overflow) x))
    (form_step w.layout (map-Expr Expr Form (form w.layout) x))

abbrev plain : (w : Over) → IntType → Option SiteId → Node (With w) (List (With w)) → Expr-F Expr
plain w ty site n = map-Expr (With w) Expr (λ e. e.0) (record { ty = ty; site = site; node = n })

read_fine : (P : Visit → Type 0) (site : Option SiteId) (checked : Bool) (has : Option ℤ)
    → (checked ≡ true → Bears P site A.Initialization) → Each P (read site checked has).visits
read_fine P site checked has h = checked_if_fine P checked site A.Initialization (is_some has) _ h tt

initial : (checked : Bool) → checked ≡ true
    → (if checked then Some A.Initialization else None) ≡ Some A.Initialization
initial true is = refl
initial false is = absurd (true≢false (sym is))

unless_fine : (P : Visit → Type 0) (o : Option ℤ) (rest : Course ℤ) → Each P rest.visits
    → Each P (unless o rest).visits
unless_fine P None rest h = h
unless_fine P (Some v) rest h = tt

choice_fine : (P : Visit → Type 0) (b : Bool) (x y : Course ℤ) → Each P x.visits → Each P y.visits
    → Each P (if b then x else y).visits
choice_fine P true x y h k = h
choice_fine P false x y h k = k

args_fine : (w : Over) (tys : List IntType) (es : List (With w))
    → args_fit tys (map (form w.layout) (exprs w es)) ≡ true
    → all_hold (map (sited w.program.sites w.point) (exprs w es)) ≡ true
    → FineArgs (Own w) (map value_of_meaning (map (meaning w.overflow) (exprs w es)))
args_fine w tys [] fit hold = tt
args_fine w [] (e ∷ es) fit hold = absurd (true≢false (sym fit))
args_fine w (ty ∷ tys) (e ∷ es) fit hold =
    let fits = and_parts _ _ fit in
    let holds = and_parts _ _ hold in
    ((e.1.parts holds.0).value (and_parts _ _ fits.0).0, args_fine w tys es fits.1 holds.1)

called_fine : (w : Over) (ty : IntType) (es : List (With w)) (o : Option Callee)
    → on_some (is_call_of ty (map (form w.layout) (exprs w es))) o ≡ true
    → all_hold (map (sited w.program.sites w.point) (exprs w es)) ≡ true
    → FineArgs (Own w) (map value_of_meaning (map (meaning w.overflow) (exprs w es)))
unfolding is_call_of
called_fine w ty es None fit hold = absurd (true≢false (sym fit))
called_fine w ty es (Some g) fit hold = args_fine w g.formals es (and_parts _ _ fit).0 hold

also_fine : (P : Visit → Type 0) (ty : IntType) (o : Option Calling) → FineCall P o
    → FineCall P (option_map (also_to ty) o)
also_fine P ty None h = tt
also_fine P ty (Some k) h = h

by_node : (w : Over) (ty : IntType) (site : Option SiteId) (n : Node (With w) (List (With w)))
    → Top w (plain w ty site n)
by_node w ty site (N.Literal v) = record {
  ty = refl;
  parts = λ holds. record { value = λ is c. tt; target = λ is c. tt; call = λ is. tt; assign = λ is. tt };
}
by_node w ty site (N.Cell x checked) = record {
  ty = refl;
  parts = λ holds.
      let all = bears_all w.program w.point site (read_checks checked) (and_parts _ _ holds).0 in
      record {
        value = λ is c. read_fine (Own w) site checked (c x)
            (λ t. all.first A.Initialization (initial checked t));
        target = λ is c. tt;
        call = λ is. tt;
        assign = λ is. tt;
      };
}
by_node w ty site (N.Element first n i checked) = record {
  ty = refl;
  parts = λ holds.
      let both = and_parts _ _ holds in
      let all = bears_all w.program w.point site (element_checks checked) both.0 in
      let within = all.first A.IndexBound refl in
      let index = i.1.parts both.1 in
      record {
        value = λ is c.
            let got = λ (x : ℕ). read site checked (c x) in
            let found = λ (k : ℤ). element site first n k in
            then_fine (Own w) ((meaning w.overflow i.0).value c) (λ k. and_then (found k) got)
            (index.value (and_parts _ _ (and_parts _ _ is).1).0 c)
            (λ k. then_fine (Own w) (found k) got (checked_fine (Own w) site A.IndexBound _ _ within tt)
            (λ x. read_fine (Own w) site checked (c x)
            (λ t. all.second A.Initialization (initial checked t))));
        target = λ is c.
            then_fine (Own w) ((meaning w.overflow i.0).value c) (λ k. element site first n k)
            (index.value (and_parts _ _ (and_parts _ _ is).1).0 c)
            (λ k. checked_fine (Own w) site A.IndexBound _ _ within tt);
        call = λ is. tt;
        assign = λ is. tt;
      };
}
by_node w ty site (N.Call g es) = record {
  ty = refl;
  parts = λ holds. record {
    value = λ is c. tt;
    target = λ is c. tt;
    call = λ is. called_fine w ty es _ (and_parts _ _ is).1 (and_parts _ _ holds).1;
    assign = λ is. tt;
  };
}
by_node w ty site (N.Unary op e) = record {
  ty = refl;
  parts = λ holds.
      let both = and_parts _ _ holds in
      let all = bears_all w.program w.point site (unary_checks op ty) both.0 in
      record {
        value = λ is c.
            then_fine (Own w) _ _ ((e.1.parts both.1).value (and_parts _ _ is).0 c)
            (λ x. unary_fine (Own w) w.overflow site ty op x all);
        target = λ is c. tt;
        call = λ is. tt;
        assign = λ is. tt;
      };
}
by_node w ty site (N.Binary op a b) = record {
  ty = refl;
  parts = λ holds.
      let both = and_parts _ _ holds in
      let subs = and_parts _ _ both.1 in
      let left = (sited w.program.sites w.point a.0).ty in
      let all = bears_all w.program w.point site (binary_checks op left) both.0 in
      let right = (form w.layout b.0).ty in
      record {
        value = λ is c.
            let parts = and_parts _ _ is in
            let values = and_parts _ _ parts.0 in
            let types = (and_parts _ _ parts.1).0 in
            let fit = subst (λ (t : IntType). binary_types op ty t right ≡ true) (sym a.1.ty) types in
            then_fine (Own w) _ _ ((a.1.parts subs.0).value values.0 c)
            (λ x. unless_fine (Own w) (decided op x) _
            (then_fine (Own w) _ _ ((b.1.parts subs.1).value values.1 c)
            (λ y. binary_fine (Own w) w.overflow site ty left right op x y fit all)));
        target = λ is c. tt;
        call = λ is. tt;
        assign = λ is. tt;
      };
}
by_node w ty site (N.Assign t e) = record {
  ty = refl;
  parts = λ holds.
      let subs = and_parts _ _ (and_parts _ _ holds).1 in
      record {
        value = λ is c. tt;
        target = λ is c. tt;
        call = λ is. tt;
        assign = λ is.
            let values = and_parts _ _ (and_parts _ _ (and_parts _ _ is).1).0 in
            let value = e.1.parts subs.1 in
            ((t.1.parts subs.0).target values.0, value.value values.1, value.call values.1);
      };
}
by_node w ty site (N.Cond c a b) = record {
  ty = refl;
  parts = λ holds.
      let subs = and_parts _ _ (and_parts _ _ holds).1 in
      let more = and_parts _ _ subs.1 in
      record {
        value = λ is d.
            let values = and_parts _ _ (and_parts _ _ is).0 in
            let two = and_parts _ _ values.1 in
            let yes = (meaning w.overflow a.0).value d in
            let otherwise = (meaning w.overflow b.0).value d in
            then_fine (Own w) ((meaning w.overflow c.0).value d) (λ x. if is_zero x then otherwise else yes)
            ((c.1.parts subs.0).value values.0 d)
            (λ x. choice_fine (Own w) (is_zero x) otherwise yes ((b.1.parts more.1).value two.1 d)
            ((a.1.parts more.0).value two.0 d));
        target = λ is d. tt;
        call = λ is. tt;
        assign = λ is. tt;
      };
}
by_node w ty site (N.Cast e) = record {
  ty = refl;
  parts = λ holds.
      let sub = e.1.parts (and_parts _ _ holds).1 in
      record {
        value = λ is c.
            then_fine (Own w) ((meaning w.overflow e.0).value c) (λ x. gives (converted ty x))
            (sub.value (and_parts _ _ is).1 c) (λ x. tt);
        target = λ is c. tt;
        call = λ is. also_fine (Own w) ty (meaning w.overflow e.0).call (sub.call (and_parts _ _ is).1);
        assign = λ is. tt;
      };
}

layer : (w : Over) (y : Expr-F (With w)) → Top w (map-Expr (With w) Expr (λ e. e.0) y)
layer w y = by_node w y.ty y.site y.node

-- ---- expressions

rolled : (w : Over) (x : Expr-F Expr) → Top w x → Claim w (roll-Expr x)
rolled w x h =
    let s = sited_step w.program.sites w.point in
    let m = meaning_step w.overflow in
    let f = form_step w.layout in
    let e = roll-Expr x in
    subst (λ (z : Sited). Known (Own w) z (meaning w.overflow e) (form w.layout e))
    (sym (fold-roll-Expr Sited s x))
    (subst
    (λ (z : Meaning). Known (Own w) (s (map-Expr Expr Sited (sited w.program.sites w.point) x)) z
    (form w.layout e))
    (sym (fold-roll-Expr Meaning m x))
    (subst
    (λ (z : Form). Known (Own w) (s (map-Expr Expr Sited (sited w.program.sites w.point) x))
    (m (map-Expr Expr Meaning (meaning w.overflow) x)) z)
    (sym (fold-roll-Expr Form f x)) h))

known : (w : Over) (e : Expr) → Claim w e
known w = ind-Expr (Claim w) (λ x y is. rolled w x (subst (Top w) is (layer w y)))

-- what an expression visits where its operators have this point
pub own_checks : (p : Program) (q : PointId) (l : Layout) (overflow : Bool) (e : Expr) (c : Cells)
    (vs : List Visit)
    → at_sites p.sites q e ≡ true → (form l e).value ≡ true → VisitsPart (meaning overflow e) c vs → Each
    (OwnCheck p q.0) vs
unfolding at_sites
own_checks p q l overflow e c vs sites formed visits =
    let w : Over = record { program = p; point = q; layout = l; overflow = overflow } in
    part_fine (Own w) (meaning overflow e) (form l e) c vs ((known w e).parts sites) formed visits
