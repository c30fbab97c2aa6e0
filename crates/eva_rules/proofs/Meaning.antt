-- The analysis covers what each well-formed expression means in runs, by its nodes.
use Rattle.std.proofs.Common.{◌≡◌, ◌∙◌, ◌+◌, ◌-ℤ◌, ℕ, ℤ, pos, int_le, int_lt, unsigned_abs, Bool, true, false, List, [], ◌∷◌, map, Option, Some, None, is_some, slice_get, refl, sym, ap, ap₂, subst, arith}
use Rattle.std.specs.Prelude.{if◌then◌else◌}
use Rattle.std.specs.Option.{option_map}
use Rattle.std.proofs.lemmas.Int.{ints}
use Rattle.std.proofs.lemmas.Bool.{and_parts, and_from, true≢false}
use Rattle.std.proofs.lemmas.Option.{same_Some}
use Rattle.fc_base.specs.declared.ids.SiteId.{SiteId}
use Rattle.machine_ints.specs.Convert.{bool_of}
use Rattle.machine_ints.specs.Operators.{IsWithin}
use Rattle.int_value.specs.Checks.{within_said}
use Rattle.int_value.specs.Rows.{convert_row, to_bool_row}
use Rattle.int_value.specs.Standing.{IsRight, Stands}
use Rattle.int_value.specs.declared.value.Value.{Value}
use Rattle.int_value.proofs.Cover.{bool_covers, conversion_covers, meet_both, not_empty, within_right}
use Rattle.int_interval.specs.Rows.{is_empty}
use Rattle.int_interval.specs.declared.interval.Interval.TheVariants.{Within}
use Rattle.c_ir.specs.Formed.{Callee, Form, args_fit, form, form_step, is_call_of, on_some}
use Rattle.c_ir.specs.Keeps.{layout_of}
use Rattle.c_ir.specs.Programs.{Program}
use Rattle.c_ir.specs.Types.{same_type}
use Rattle.c_ir.specs.declared.kind.AlarmKind.TheVariants as A
use Rattle.c_ir.specs.declared.ty.IntType.{IntType}
use Rattle.c_ir.specs.declared.ty.IntType.TheVariants as T
use Rattle.c_ir.specs.declared.tree.Expr.{Expr, map-Expr, roll-Expr}
use Rattle.c_ir.specs.declared.tree.Expr.TheFolds.{fold-roll-Expr, ind-Expr}
use Rattle.c_ir.specs.declared.tree.Expr.TheOpen.{Expr-F}
use Rattle.c_ir.specs.declared.tree.Node.{Node}
use Rattle.c_ir.specs.declared.tree.Node.TheVariants as N
use Rattle.c_rules.specs.Constants.{brought, converted}
use Rattle.c_rules.proofs.Evaluations.{is_type}
use Rattle.c_runs.specs.Evaluation as runs
use Rattle.c_runs.specs.Evaluation.{Calling, Evaluation, Meaning, and_then, element, gives, is_index, meaning, meaning_step, value, value_of_meaning}
use Rattle.c_runs.proofs.CourseValues.{at_gives, then_gives}
use Rattle.abs_cells.specs.Cells.{Env, index_met}
use Rattle.eva_values.specs.Laws.{Covers}
use Rattle.eva_values.specs.Marks.{mark_at}
use Rattle.eva_values.specs.Shapes.{converted_row, shape_of}
use Rattle.eva_values.specs.Values.{Abstract, abstract_step, abstracted, node_abstract}
use Rattle.eva_values.proofs.Marking.{only_marked, same_right, then_marked}
use Rattle.eva_values.proofs.Sound.{expressions_cover}
use Rattle.eva_rules.specs.Meant as meants
use Rattle.eva_rules.specs.Meant.{Called, Meant, also_to, cell_target, element_target, meant, meant_step, value_meant}
use Rattle.eva_rules.specs.Passing.{has_number}
use Rattle.eva_rules.proofs.Writing.{element_in, set_in}
pub use Rattle.eva_rules.proofs.MeaningCovers.{Aims, ArgsCover, AssignCovers, AssignedCovers, CallCovers, CalledCovers, MeaningCovers, TargetCovers, ValueCovers, WritesTo}

-- ---- values

abbrev Same : Bool → Expr → Type 0
Same overflow x = (meant overflow x).value ≡ abstracted overflow x

abbrev WithSame : Bool → Type 0
WithSame overflow = (x : Expr) × Same overflow x

abbrev same_tree : (overflow : Bool) → IntType → Option SiteId → Node (WithSame overflow) (List (WithSame overflow))
    → Expr-F Expr
same_tree overflow ty site n = map-Expr (WithSame overflow) Expr (λ x. x.0) (record { ty = ty; site = site; node = n })

abbrev SameLayer : Bool → Expr-F Expr → Type 0
SameLayer overflow y =
    (meant_step overflow (map-Expr Expr Meant (meant overflow) y)).value
    ≡ abstract_step overflow (map-Expr Expr Abstract (abstracted overflow) y)

same_args : (overflow : Bool) (es : List (WithSame overflow))
    → map value_meant (map (meant overflow) (map (λ x. x.0) es)) ≡ map (abstracted overflow) (map (λ x. x.0) es)
same_args overflow [] = refl
same_args overflow (e ∷ es) = ap₂ (λ (a : Abstract) (more : List Abstract). a ∷ more) e.1 (same_args overflow es)

same_node : (overflow : Bool) (ty : IntType) (site : Option SiteId)
    (n : Node (WithSame overflow) (List (WithSame overflow))) → SameLayer overflow (same_tree overflow ty site n)
same_node overflow ty site (N.Literal v) = refl
same_node overflow ty site (N.Cell x checked) = refl
same_node overflow ty site (N.Element first n i checked) =
    ap (λ (a : Abstract). node_abstract overflow ty site (N.Element first n a checked)) i.1
same_node overflow ty site (N.Call g es) = refl
same_node overflow ty site (N.Unary op e) = ap (λ (a : Abstract). node_abstract overflow ty site (N.Unary op a)) e.1
same_node overflow ty site (N.Binary op a b) =
    ap₂ (λ (s t : Abstract). node_abstract overflow ty site (N.Binary op s t)) a.1 b.1
same_node overflow ty site (N.Assign t e) = refl
same_node overflow ty site (N.Cond c a b) =
    let yes = (meant overflow a.0).value in
    let other = (meant overflow b.0).value in
    ap (λ (s : Abstract). node_abstract overflow ty site (N.Cond s yes other)) c.1
    ∙ ap₂ (λ (s t : Abstract). node_abstract overflow ty site (N.Cond (abstracted overflow c.0) s t)) a.1 b.1
same_node overflow ty site (N.Cast e) = ap (λ (a : Abstract). node_abstract overflow ty site (N.Cast a)) e.1

-- the value of an expression is the one that eva_values gives
pub meant_value : (overflow : Bool) (x : Expr) → (meant overflow x).value ≡ abstracted overflow x
unfolding meant abstracted
meant_value overflow =
    ind-Expr (Same overflow) (λ x y is.
    let layer = subst (λ (z : Expr-F Expr). SameLayer overflow z) is (same_node overflow y.ty y.site y.node) in
    ap (λ (m : Meant). m.value) (fold-roll-Expr Meant (meant_step overflow) x) ∙ layer
    ∙ sym (fold-roll-Expr Abstract (abstract_step overflow) x))

pub value_covers : (p : Program) (overflow : Bool) (x : Expr) → (form (layout_of p) x).value ≡ true
    → ValueCovers p (meant overflow x).value (meaning overflow x).value
unfolding value
value_covers p overflow x is =
    subst (λ (a : Abstract). ValueCovers p a (meaning overflow x).value) (sym (meant_value overflow x))
    (λ c e typed all. expressions_cover p overflow x c e is typed all)

-- ---- cells that are written to

cell_aims : (x : ℕ) (e : Env) → Aims (cell_target x) e (gives x)
cell_aims x e = record {
  marked = tt;
  there = λ y is. refl;
  writes = λ y is.
      subst (λ (n : ℕ). WritesTo ((cell_target x).writes e) (Some n)) (same_Some x y is)
      (λ v o later now h all. set_in x v o later now h all);
}

-- a value that stands for a number has one
number_there : (v : Value) (z : ℤ) → Stands v (Some z) → has_number v ≡ true
number_there v z h = by_test (is_empty v.range) (not_empty v.range z h.0)
  where
    by_test : (b : Bool) → b ≡ false → (if b then false else true) ≡ true
    by_test true e = absurd (true≢false e)
    by_test false e = refl

module _ (p : Program) (site : Option SiteId) (first n : ℕ) (i : Abstract) (k : Evaluation ℤ) where
  element_aims : is_some site ≡ true → ValueCovers p i k
      → TargetCovers p (element_target site first n i) (λ c. and_then (k c) (element site first n))
  element_aims has covers c e typed all = record {
    marked =
        then_marked (i.marks e) (mark_at site A.IndexBound (within_said (pos 0) (pos n -ℤ pos 1) index.range)) (k c)
        (element site first n) covered.marked
        (λ m is. only_marked A.IndexBound (is_index n m) (gives (first + unsigned_abs m)) site
        (within_said (pos 0) (pos n -ℤ pos 1) index.range) has (right_index m (covered.value m is)) tt);
    there = λ x is. let at = inside x is in number_there (index_met n index) at.0 (met at.0 at.1 at.2);
    writes = λ x is.
        let at = inside x is in
        subst (λ (y : ℕ). WritesTo ((element_target site first n i).writes e) (Some y)) at.3
        (λ v o later now h more. element_in first n index v at.0 o later now at.1 at.2 h more);
  }
    where
      covered : Covers c (i.side e) (i.marks e) (λ taken. i.narrowed taken e) (k c)
      covered = covers c e typed all

      index : Value
      index = (i.side e).value

      inside_by : (m : ℤ) → is_index n m ≡ true → IsWithin (pos 0) (pos n -ℤ pos 1) m
      inside_by m t =
          let p = and_parts (int_le (pos 0) m) (int_lt m (pos n)) t in
          let a = p.0 in
          let b = p.1 in
          (omega (arith, ints), omega (arith, ints))

      right_index : (m : ℤ) → Stands index (Some m)
          → IsRight (within_said (pos 0) (pos n -ℤ pos 1) index.range) (is_index n m ≡ true)
      right_index m h =
          same_right (within_said (pos 0) (pos n -ℤ pos 1) index.range) (IsWithin (pos 0) (pos n -ℤ pos 1) m)
          (is_index n m ≡ true) (
            λ w. let a = w.0 in let b = w.1 in
                and_from (int_le (pos 0) m) (int_lt m (pos n)) (sym (omega (arith, ints))) (sym (omega (arith, ints))),
            λ t. inside_by m t,
          )
          (within_right (pos 0) (pos n -ℤ pos 1) index.range m h.0)

      met : (m : ℤ) → Stands index (Some m) → is_index n m ≡ true → Stands (index_met n index) (Some m)
      met m h t = (meet_both index (Within (pos 0) (pos n -ℤ pos 1)) (Some m)).1 (h, inside_by m t)

      -- the index of the cell that is named
      inside : (x : ℕ) → (and_then (k c) (element site first n)).value ≡ Some x
          → (m : ℤ) × Stands index (Some m) × (is_index n m ≡ true) × (first + unsigned_abs m ≡ x)
      inside x is =
          let at = then_gives (k c) (element site first n) x is in
          let to = at_gives (gives (first + unsigned_abs at.0)) x site A.IndexBound (is_index n at.0) at.2 in
          (at.0, covered.value at.0 at.1, to.0 has, same_Some (first + unsigned_abs at.0) x to.1)

-- ---- calls

args_cover : (p : Program) (overflow : Bool) (es : List Expr) (tys : List IntType)
    → args_fit tys (map (form (layout_of p)) es) ≡ true
    → ArgsCover p (map value_meant (map (meant overflow) es)) (map value_of_meaning (map (meaning overflow) es))
args_cover p overflow [] tys is = tt
args_cover p overflow (e ∷ es) [] is = absurd (true≢false (sym is))
args_cover p overflow (e ∷ es) (ty ∷ tys) is =
    let parts = and_parts _ _ is in
    (value_covers p overflow e (and_parts _ _ parts.0).0, args_cover p overflow es tys parts.1)

converted_stands : (ty : IntType) (v : Value) (z : ℤ) → Stands v (Some z)
    → Stands (converted_row ty v) (Some (converted ty z))
converted_stands ty v z h = by_test (same_type ty T.Bool)
  where
    by_test : (b : Bool)
        → Stands (if b then to_bool_row v else convert_row (shape_of ty) v)
        (Some (if b then bool_of z else brought ty z))
    by_test true = (bool_covers v).1 z h
    by_test false = (conversion_covers (shape_of ty) v (is_type ty)).1 z h

also_covers : (p : Program) (ty : IntType) (m : Option Called) (k : Option Calling) → CallCovers p m k
    → CallCovers p (option_map (also_to ty) m) (option_map (runs.also_to ty) k)
also_covers p ty None None h = tt
also_covers p ty None (Some k) h = absurd h
also_covers p ty (Some m) None h = absurd h
also_covers p ty (Some m) (Some k) h = record {
  function = h.function;
  args = h.args;
  convert = λ v z s. converted_stands ty (m.convert v) (k.convert z) (h.convert v z s);
}

-- ---- nodes

-- what an expression is beside its value
record Rest (p : Program) (m : Meant) (k : Meaning) (f : Form) : Type 0 where
  target : f.target ≡ true → TargetCovers p m.target k.target
  call : f.value ≡ true → CallCovers p m.call k.call
  assign : f.value ≡ true → AssignCovers p m.assign k.assign

abbrev Good : Program → Bool → Expr → Type 0
Good p overflow x = Rest p (meant overflow x) (meaning overflow x) (form (layout_of p) x)

abbrev With : Program → Bool → Type 0
With p overflow = (x : Expr) × Good p overflow x

abbrev tree : (p : Program) (overflow : Bool) → IntType → Option SiteId
    → Node (With p overflow) (List (With p overflow)) → Expr-F Expr
tree p overflow ty site n = map-Expr (With p overflow) Expr (λ x. x.0) (record { ty = ty; site = site; node = n })

abbrev meant_of : Bool → Expr-F Expr → Meant
meant_of overflow y = meant_step overflow (map-Expr Expr Meant (meant overflow) y)

abbrev meaning_of : Bool → Expr-F Expr → Meaning
meaning_of overflow y = meaning_step overflow (map-Expr Expr Meaning (meaning overflow) y)

abbrev form_of : Program → Expr-F Expr → Form
form_of p y = form_step (layout_of p) (map-Expr Expr Form (form (layout_of p)) y)

abbrev Layer : Program → Bool → Expr-F Expr → Type 0
Layer p overflow y = Rest p (meant_of overflow y) (meaning_of overflow y) (form_of p y)

-- neither a place nor a call nor an assignment
no_rest : (p : Program) (a : Abstract) (k : Evaluation ℤ) (f : Form) → f.target ≡ false
    → Rest p (meants.valued a) (runs.valued k) f
no_rest p a k f none = record {
  target = λ is. absurd (true≢false (sym is ∙ none));
  call = λ is. tt;
  assign = λ is. tt;
}

call_fits : (ty : IntType) (fs : List Form) (o : Option Callee) → on_some (is_call_of ty fs) o ≡ true
    → (tys : List IntType) × (args_fit tys fs ≡ true)
unfolding is_call_of
call_fits ty fs None is = absurd (true≢false (sym is))
call_fits ty fs (Some g) is = (g.formals, (and_parts (args_fit g.formals fs) _ is).0)

by_node : (p : Program) (overflow : Bool) (ty : IntType) (site : Option SiteId)
    (n : Node (With p overflow) (List (With p overflow))) → Layer p overflow (tree p overflow ty site n)
by_node p overflow ty site (N.Literal v) = no_rest p _ _ _ refl
by_node p overflow ty site (N.Cell x checked) =
    record { target = λ is c e typed all. cell_aims x e; call = λ is. tt; assign = λ is. tt }
by_node p overflow ty site (N.Element first n i checked) = record {
  target = λ is.
      let parts = and_parts (is_some site) _ is in
      element_aims p site first n (meant overflow i.0).value (meaning overflow i.0).value parts.0
      (value_covers p overflow i.0 (and_parts _ _ parts.1).0);
  call = λ is. tt;
  assign = λ is. tt;
}
by_node p overflow ty site (N.Call g es) = record {
  target = λ is. absurd (true≢false (sym is));
  call = λ is.
      let fs = map (form (layout_of p)) (map (λ x. x.0) es) in
      let fits = call_fits ty fs (slice_get (layout_of p).callees g.0) (and_parts _ _ is).1 in
      record {
        function = refl;
        args = args_cover p overflow (map (λ x. x.0) es) fits.0 fits.1;
        convert = λ v z h. h;
      };
  assign = λ is. tt;
}
by_node p overflow ty site (N.Unary op e) = no_rest p _ _ _ refl
by_node p overflow ty site (N.Binary op a b) = no_rest p _ _ _ refl
by_node p overflow ty site (N.Assign t e) = record {
  target = λ is. absurd (true≢false (sym is));
  call = λ is. tt;
  assign = λ is.
      let parts = and_parts _ _ (and_parts _ _ (and_parts _ _ is).1).0 in
      record {
        target = t.1.target parts.0;
        value = value_covers p overflow e.0 parts.1;
        call = e.1.call parts.1;
      };
}
by_node p overflow ty site (N.Cond c a b) = no_rest p _ _ _ refl
by_node p overflow ty site (N.Cast e) = record {
  target = λ is. absurd (true≢false (sym is));
  call = λ is.
      also_covers p ty (meant overflow e.0).call (meaning overflow e.0).call (e.1.call (and_parts _ _ is).1);
  assign = λ is. tt;
}

rest_covers : (p : Program) (overflow : Bool) (x : Expr) → Good p overflow x
unfolding meant
rest_covers p overflow =
    ind-Expr (Good p overflow) (λ x y is.
    let layer = subst (λ (z : Expr-F Expr). Layer p overflow z) is (by_node p overflow y.ty y.site y.node) in
    let says = sym (fold-roll-Expr Meant (meant_step overflow) x) in
    let means = sym (fold-roll-Expr Meaning (meaning_step overflow) x) in
    let forms = sym (fold-roll-Expr Form (form_step (layout_of p)) x) in
    let one = subst (λ (m : Meant). Rest p m (meaning_of overflow x) (form_of p x)) says layer in
    let two = subst (λ (k : Meaning). Rest p (meant overflow (roll-Expr x)) k (form_of p x)) means one in
    subst (λ (f : Form). Rest p (meant overflow (roll-Expr x)) (meaning overflow (roll-Expr x)) f) forms two)

-- ---- expressions

pub meaning_covers : (p : Program) (overflow : Bool) (x : Expr)
    → MeaningCovers p (meant overflow x) (meaning overflow x) (form (layout_of p) x)
meaning_covers p overflow x =
    let rest = rest_covers p overflow x in
    record {
      value = value_covers p overflow x;
      target = rest.target;
      call = rest.call;
      assign = rest.assign;
    }
