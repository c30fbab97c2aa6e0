-- The values of a well-formed expression are in its range, and the false visits of its evaluation are of its
-- open
-- checks.
use Rattle.std.proofs.Common.{◌≡◌, inl, inr, ℕ, ℤ, Bool, true, false, List, [], ◌∷◌, ◌++◌, map, Option, Some, None, sym, subst, arith}
use Rattle.std.proofs.lemmas.Bool.{and_parts, true≢false}
use Rattle.std.proofs.lemmas.Int.{ints}
use Rattle.std.proofs.lemmas.Option.{same_Some}
use Rattle.std.specs.Option.{option_map}
use Rattle.std.specs.Prelude.{if◌then◌else◌}
use Rattle.by_key.specs.declared.lists.Keyed.{Keyed}
use Rattle.fc_base.specs.declared.ids.SiteId.{SiteId}
use Rattle.machine_ints.specs.Decided.{IsAmong}
use Rattle.machine_ints.specs.declared.decided.Ends.{Ends}
use Rattle.c_ir.specs.Formed.{Form, Callee, form, form_step, on_some, args_fit, is_call_of}
use Rattle.c_ir.specs.Keeps.{layout_of}
use Rattle.c_ir.specs.Programs.{Program}
use Rattle.c_ir.specs.declared.ty.IntType.{IntType}
use Rattle.c_ir.specs.declared.tree.Expr.{Expr, map-Expr, roll-Expr}
use Rattle.c_ir.specs.declared.tree.Expr.TheFolds.{fold-roll-Expr, ind-Expr}
use Rattle.c_ir.specs.declared.tree.Expr.TheOpen.{Expr-F}
use Rattle.c_ir.specs.declared.tree.Node.{Node}
use Rattle.c_ir.specs.declared.tree.Node.TheVariants as N
use Rattle.c_rules.specs.Constants.{is_zero, decided, converted}
use Rattle.c_runs.specs.Visits.{Cells, Visit}
use Rattle.c_runs.specs.Evaluation.{Course, Evaluation, Calling, Assigning, Meaning, read, unless, gives, also_to, value_of_meaning, meaning, meaning_step, element, and_then, unary, binary, operator_of}
use Rattle.c_runs.specs.Parts.{Typed, VisitsArg, VisitsCall, VisitsAssign, VisitsPart}
use Rattle.c_runs.proofs.CourseValues.{then_gives}
use Rattle.c_runs.proofs.Typing.{MeaningTyped, meaning_typed}
use Rattle.rte_alarms.specs.Ranges.{Ranged, ends, converted_ends, all_open, open_index, open_read, open_unary, open_operator, ranged, ranged_step}
use Rattle.rte_alarms.proofs.Staying.{Stays, AllStay, Within, left, right, then_stays, binary_stays, unary_stays, read_stays, element_stays, converted_among}

-- ---- evaluations in some cells

record Over : Type 0 where
  program : Program
  overflow : Bool
  cells : Cells
  typed : Typed program cells
  all : List Keyed

abbrev Fine : {X : Type 0} → Over → Evaluation X → Type 0
Fine w e = AllStay w.all (e w.cells).visits

abbrev FineArgs : Over → List (Evaluation ℤ) → Type 0
FineArgs w [] = Unit {0}
FineArgs w (e ∷ es) = Fine w e × FineArgs w es

abbrev FineCall : Over → Option Calling → Type 0
FineCall w None = Unit {0}
FineCall w (Some k) = FineArgs w k.args

abbrev FineAssign : Over → Option Assigning → Type 0
FineAssign w None = Unit {0}
FineAssign w (Some a) = Fine w a.target × Fine w a.value × FineCall w a.call

-- the values are in the range
abbrev Gives : Over → Ends → Evaluation ℤ → Type 0
Gives w ends e = (z : ℤ) → (e w.cells).value ≡ Some z → IsAmong ends z

-- where it is well formed
record FineParts (w : Over) (m : Meaning) (f : Form) : Type 0 where
  value : f.value ≡ true → Fine w m.value
  target : f.target ≡ true → Fine w m.target
  call : f.value ≡ true → FineCall w m.call
  assign : f.value ≡ true → FineAssign w m.assign

record Known (w : Over) (r : Ranged) (m : Meaning) (f : Form) : Type 0 where
  among : f.value ≡ true → Gives w r.ends m.value
  parts : Within r.opened w.all → FineParts w m f

arg_fine : (w : Over) (es : List (Evaluation ℤ)) (vs : List Visit) → FineArgs w es → VisitsArg es w.cells vs
    → AllStay w.all vs
arg_fine w [] vs h is = absurd is
arg_fine w (e ∷ es) vs h (inl is) = subst (AllStay w.all) (sym is) h.0
arg_fine w (e ∷ es) vs h (inr is) = arg_fine w es vs h.1 is

call_fine : (w : Over) (o : Option Calling) (vs : List Visit) → FineCall w o → VisitsCall o w.cells vs
    → AllStay w.all vs
call_fine w None vs h is = absurd is
call_fine w (Some k) vs h is = arg_fine w k.args vs h is

assign_fine : (w : Over) (o : Option Assigning) (vs : List Visit) → FineAssign w o → VisitsAssign o w.cells vs
    → AllStay w.all vs
assign_fine w None vs h is = absurd is
assign_fine w (Some a) vs h (inl is) = subst (AllStay w.all) (sym is) h.0
assign_fine w (Some a) vs h (inr (inl is)) = subst (AllStay w.all) (sym is) h.1
assign_fine w (Some a) vs h (inr (inr is)) = call_fine w a.call vs h.2 is

part_fine : (w : Over) (m : Meaning) (f : Form) (vs : List Visit) → FineParts w m f → f.value ≡ true
    → VisitsPart m w.cells vs → AllStay w.all vs
part_fine w m f vs h is (inl v) = subst (AllStay w.all) (sym v) (h.value is)
part_fine w m f vs h is (inr (inl v)) = call_fine w m.call vs (h.call is) v
part_fine w m f vs h is (inr (inr v)) = assign_fine w m.assign vs (h.assign is) v

-- ---- nodes

abbrev formed : Over → Expr → Form
formed w e = form (layout_of w.program) e

abbrev Claim : Over → Expr → Type 0
Claim w e = Known w (ranged e) (meaning w.overflow e) (formed w e)

abbrev With : Over → Type 0
With w = (e : Expr) × Claim w e

abbrev exprs : (w : Over) → List (With w) → List Expr
exprs w es = map (λ (e : With w). e.0) es

abbrev range_of : Expr-F Expr → Ranged
range_of x = ranged_step (map-Expr Expr Ranged ranged x)

abbrev meaning_of : Over → Expr-F Expr → Meaning
meaning_of w x = meaning_step w.overflow (map-Expr Expr Meaning (meaning w.overflow) x)

abbrev form_of : Over → Expr-F Expr → Form
form_of w x = form_step (layout_of w.program) (map-Expr Expr Form (form (layout_of w.program)) x)

abbrev Top : Over → Expr-F Expr → Type 0
Top w x = Known w (range_of x) (meaning_of w x) (form_of w x)

-- the values are of the expression's type
abbrev IsTyped : Over → Expr-F Expr → Type 0
IsTyped w x = MeaningTyped w.program (meaning_of w x) (form_of w x)

abbrev plain : (w : Over) → IntType → Option SiteId → Node (With w) (List (With w)) → Expr-F Expr
plain w ty site n = map-Expr (With w) Expr (λ e. e.0) (record { ty = ty; site = site; node = n })

unless_stays : (all : List Keyed) (o : Option ℤ) (rest : Course ℤ) → AllStay all rest.visits
    → AllStay all (unless o rest).visits
unless_stays all None rest h = h
unless_stays all (Some v) rest h = tt

choice_stays : (all : List Keyed) (b : Bool) (x y : Course ℤ) → AllStay all x.visits → AllStay all y.visits
    → AllStay all (if b then x else y).visits
choice_stays all true x y h k = h
choice_stays all false x y h k = k

args_stay : (w : Over) (tys : List IntType) (es : List (With w))
    → args_fit tys (map (formed w) (exprs w es)) ≡ true → Within (all_open (map ranged (exprs w es))) w.all
    → FineArgs w (map value_of_meaning (map (meaning w.overflow) (exprs w es)))
args_stay w tys [] fit within = tt
args_stay w [] (e ∷ es) fit within = absurd (true≢false (sym fit))
args_stay w (ty ∷ tys) (e ∷ es) fit within =
    let fits = and_parts _ _ fit in
    let here = (ranged e.0).opened in
    let rest = all_open (map ranged (exprs w es)) in (
      (e.1.parts (left here rest w.all within)).value (and_parts _ _ fits.0).0,
      args_stay w tys es fits.1 (right here rest w.all within),
    )

called_stay : (w : Over) (ty : IntType) (es : List (With w)) (o : Option Callee)
    → on_some (is_call_of ty (map (formed w) (exprs w es))) o ≡ true
    → Within (all_open (map ranged (exprs w es))) w.all
    → FineArgs w (map value_of_meaning (map (meaning w.overflow) (exprs w es)))
unfolding is_call_of
called_stay w ty es None fit within = absurd (true≢false (sym fit))
called_stay w ty es (Some g) fit within = args_stay w g.formals es (and_parts _ _ fit).0 within

also_fine : (w : Over) (ty : IntType) (o : Option Calling) → FineCall w o
    → FineCall w (option_map (also_to ty) o)
also_fine w ty None h = tt
also_fine w ty (Some k) h = h

literal_among : (v : ℤ) → IsAmong (ends v v) v
literal_among v = (omega (arith, ints), omega (arith, ints))

cast_among : (ty : IntType) (a : Ends) (x z : ℤ) → IsAmong a x
    → ◌≡◌ {A = Option ℤ} (Some (converted ty x)) (Some z) → IsAmong (converted_ends ty a) z
cast_among ty a x z i gave =
    subst (λ (n : ℤ). IsAmong (converted_ends ty a) n) (same_Some (converted ty x) z gave)
    (converted_among ty a x i)

by_node : (w : Over) (ty : IntType) (site : Option SiteId) (n : Node (With w) (List (With w)))
    → IsTyped w (plain w ty site n) → Top w (plain w ty site n)
by_node w ty site (N.Literal v) typed = record {
  among = λ is z gave.
      subst (λ (n : ℤ). IsAmong (ends v v) n) (same_Some v z gave) (literal_among v);
  parts = λ within. record { value = λ is. tt; target = λ is. tt; call = λ is. tt; assign = λ is. tt };
}
by_node w ty site (N.Cell x checked) typed = record {
  among = λ is z gave. typed.value is w.cells w.typed z gave;
  parts = λ within. record {
    value = λ is. read_stays w.all site checked (w.cells x) within;
    target = λ is. tt;
    call = λ is. tt;
    assign = λ is. tt;
  };
}
by_node w ty site (N.Element first n i checked) typed = record {
  among = λ is z gave. typed.value is w.cells w.typed z gave;
  parts = λ within.
      let inner = (ranged i.0).opened in
      let at = open_index site n (ranged i.0).ends in
      let has = open_read site checked in
      let index = i.1.parts (left inner (at ++ has) w.all within) in
      let own = right inner (at ++ has) w.all within in
      let bound = left at has w.all own in
      let got = λ (x : ℕ). read site checked (w.cells x) in
      let found = λ (k : ℤ). element site first n k in
      let means = (meaning w.overflow i.0).value w.cells in
      record {
        value = λ is.
            let formed = (and_parts _ _ (and_parts _ _ is).1).0 in
            then_stays (Stays w.all) means (λ k. and_then (found k) got) (index.value formed)
            (λ k gave. then_stays (Stays w.all) (found k) got
            (element_stays w.all site first n (ranged i.0).ends k (i.1.among formed k gave) bound)
            (λ x at_cell. read_stays w.all site checked (w.cells x) (right at has w.all own)));
        target = λ is.
            let formed = (and_parts _ _ (and_parts _ _ is).1).0 in
            then_stays (Stays w.all) means found (index.value formed)
            (λ k gave. element_stays w.all site first n (ranged i.0).ends k (i.1.among formed k gave) bound);
        call = λ is. tt;
        assign = λ is. tt;
      };
}
by_node w ty site (N.Call g es) typed = record {
  among = λ is z gave. typed.value is w.cells w.typed z gave;
  parts = λ within. record {
    value = λ is. tt;
    target = λ is. tt;
    call = λ is. called_stay w ty es _ (and_parts _ _ is).1 within;
    assign = λ is. tt;
  };
}
by_node w ty site (N.Unary op e) typed = record {
  among = λ is z gave. typed.value is w.cells w.typed z gave;
  parts = λ within.
      let inner = (ranged e.0).opened in
      let own = open_unary site ty op (ranged e.0).ends in
      record {
        value = λ is.
            let formed = (and_parts _ _ is).0 in
            then_stays (Stays w.all) ((meaning w.overflow e.0).value w.cells) (unary w.overflow site ty op)
            ((e.1.parts (left inner own w.all within)).value formed)
            (λ x gave. unary_stays w.all w.overflow site ty op (ranged e.0).ends x (e.1.among formed x gave)
            (right inner own w.all within));
        target = λ is. tt;
        call = λ is. tt;
        assign = λ is. tt;
      };
}
by_node w ty site (N.Binary op a b) typed = record {
  among = λ is z gave. typed.value is w.cells w.typed z gave;
  parts = λ within.
      let l = (ranged a.0).opened in
      let r = (ranged b.0).opened in
      let own = open_operator site ty (ranged a.0).ends (ranged b.0).ends (operator_of op) in
      let more = right l (r ++ own) w.all within in
      let second = (meaning w.overflow b.0).value w.cells in
      record {
        value = λ is.
            let values = and_parts _ _ (and_parts _ _ is).0 in
            then_stays (Stays w.all) ((meaning w.overflow a.0).value w.cells)
            (λ x. unless (decided op x) (and_then second (binary w.overflow site ty op x)))
            ((a.1.parts (left l (r ++ own) w.all within)).value values.0)
            (λ x here. unless_stays w.all (decided op x) (and_then second (binary w.overflow site ty op x))
            (then_stays (Stays w.all) second (binary w.overflow site ty op x)
            ((b.1.parts (left r own w.all more)).value values.1)
            (λ y there. binary_stays w.all w.overflow site ty op (operator_of op) (ranged a.0).ends
            (ranged b.0).ends x y (a.1.among values.0 x here) (b.1.among values.1 y there)
            (right r own w.all more))));
        target = λ is. tt;
        call = λ is. tt;
        assign = λ is. tt;
      };
}
by_node w ty site (N.Assign t e) typed = record {
  among = λ is z gave. typed.value is w.cells w.typed z gave;
  parts = λ within.
      let to = (ranged t.0).opened in
      let from = (ranged e.0).opened in
      let value = e.1.parts (right to from w.all within) in
      record {
        value = λ is. tt;
        target = λ is. tt;
        call = λ is. tt;
        assign = λ is.
            let values = and_parts _ _ (and_parts _ _ (and_parts _ _ is).1).0 in (
              (t.1.parts (left to from w.all within)).target values.0,
              value.value values.1,
              value.call values.1,
            );
      };
}
by_node w ty site (N.Cond c a b) typed = record {
  among = λ is z gave. typed.value is w.cells w.typed z gave;
  parts = λ within.
      let test = (ranged c.0).opened in
      let l = (ranged a.0).opened in
      let r = (ranged b.0).opened in
      let more = right test (l ++ r) w.all within in
      let yes = (meaning w.overflow a.0).value w.cells in
      let otherwise = (meaning w.overflow b.0).value w.cells in
      record {
        value = λ is.
            let values = and_parts _ _ (and_parts _ _ is).0 in
            let two = and_parts _ _ values.1 in
            then_stays (Stays w.all) ((meaning w.overflow c.0).value w.cells)
            (λ x. if is_zero x then otherwise else yes)
            ((c.1.parts (left test (l ++ r) w.all within)).value values.0)
            (λ x gave. choice_stays w.all (is_zero x) otherwise yes
            ((b.1.parts (right l r w.all more)).value two.1)
            ((a.1.parts (left l r w.all more)).value two.0));
        target = λ is. tt;
        call = λ is. tt;
        assign = λ is. tt;
      };
}
by_node w ty site (N.Cast e) typed = record {
  among = λ is z gave.
      let at = then_gives ((meaning w.overflow e.0).value w.cells) (λ x. gives (converted ty x)) z gave in
      cast_among ty (ranged e.0).ends at.0 z (e.1.among (and_parts _ _ is).1 at.0 at.1) at.2;
  parts = λ within.
      let sub = e.1.parts within in
      record {
        value = λ is.
            then_stays (Stays w.all) ((meaning w.overflow e.0).value w.cells) (λ x. gives (converted ty x))
            (sub.value (and_parts _ _ is).1) (λ x gave. tt);
        target = λ is. tt;
        call = λ is. also_fine w ty (meaning w.overflow e.0).call (sub.call (and_parts _ _ is).1);
        assign = λ is. tt;
      };
}

layer : (w : Over) (y : Expr-F (With w)) → IsTyped w (map-Expr (With w) Expr (λ e. e.0) y)
    → Top w (map-Expr (With w) Expr (λ e. e.0) y)
layer w y typed = by_node w y.ty y.site y.node typed

-- ---- expressions

typed_top : (w : Over) (x : Expr-F Expr) → IsTyped w x
typed_top w x =
    let e = roll-Expr x in
    subst (λ (m : Meaning). MeaningTyped w.program m (form_of w x))
    (fold-roll-Expr Meaning (meaning_step w.overflow) x)
    (subst (λ (f : Form). MeaningTyped w.program (meaning w.overflow e) f)
    (fold-roll-Expr Form (form_step (layout_of w.program)) x) (meaning_typed w.program w.overflow e))

rolled : (w : Over) (x : Expr-F Expr) → Top w x → Claim w (roll-Expr x)
rolled w x h =
    let e = roll-Expr x in
    subst (λ (r : Ranged). Known w r (meaning w.overflow e) (formed w e))
    (sym (fold-roll-Expr Ranged ranged_step x))
    (subst (λ (m : Meaning). Known w (range_of x) m (formed w e))
    (sym (fold-roll-Expr Meaning (meaning_step w.overflow) x))
    (subst (λ (f : Form). Known w (range_of x) (meaning_of w x) f)
    (sym (fold-roll-Expr Form (form_step (layout_of w.program)) x)) h))

known : (w : Over) (e : Expr) → Claim w e
known w =
    ind-Expr (Claim w) (λ x y is. rolled w x (subst (Top w) is
    (layer w y (typed_top w (map-Expr (With w) Expr (λ e. e.0) y)))))

-- the false visits of what an expression evaluates are of its open checks
pub open_visits : (p : Program) (overflow : Bool) (e : Expr) (c : Cells) (all : List Keyed) (vs : List Visit)
    → Typed p c → (form (layout_of p) e).value ≡ true → Within (ranged e).opened all
    → VisitsPart (meaning overflow e) c vs → AllStay all vs
open_visits p overflow e c all vs typed formed within visits =
    let w : Over = record { program = p; overflow = overflow; cells = c; typed = typed; all = all } in
    part_fine w (meaning overflow e) (form (layout_of p) e) vs ((known w e).parts within) formed visits
