-- Nodes whose parts are typed are typed: each gives numbers of its type, names cells of its type, and its call and its
-- assignment fit.
use Rattle.std.proofs.Common.{◌≡◌, ◌∙◌, ℕ, ℤ, pos, Bool, true, false, List, map, slice_get, Option, Some, None, refl, sym, ap, subst, ⊎_elim}
use Rattle.std.specs.Option.{option_map}
use Rattle.std.specs.Prelude.{if◌then◌else◌}
use Rattle.std.proofs.lemmas.Bool.{and_parts, true≢false, cond_both}
use Rattle.std.proofs.lemmas.Option.{none-some, same_Some, slice_get-map}
use Rattle.fc_base.specs.declared.ids.FnId.{FnId}
use Rattle.fc_base.specs.declared.ids.SiteId.{SiteId}
use Rattle.fc_base.specs.declared.syntax.BinaryOp.{BinaryOp}
use Rattle.fc_base.specs.declared.syntax.UnaryOp.{UnaryOp}
use Rattle.c_ir.specs.Formed.{Form, node_form, in_range, on_some, is_of, is_read_as, args_fit, call_type, is_call_of, assign_types, choice_types}
use Rattle.c_ir.specs.Keeps.{layout_of, callee_of, ty_at}
use Rattle.c_ir.specs.Programs.{Program}
use Rattle.c_ir.specs.Types.{least, greatest}
use Rattle.c_ir.specs.declared.tree.CellInfo.{CellInfo}
use Rattle.c_ir.specs.declared.tree.Fun.{Fun}
use Rattle.c_ir.specs.declared.tree.Node.{Node}
use Rattle.c_ir.specs.declared.tree.Node.TheVariants as N
use Rattle.c_ir.specs.declared.ty.IntType.{IntType}
use Rattle.c_rules.specs.Constants.{is_zero, converted, decided}
use Rattle.c_runs.specs.Visits.{Cells}
use Rattle.c_runs.specs.Evaluation.{Course, Evaluation, Calling, Assigning, Meaning, gives, and_then, element, read, unless, unary, binary, valued, also_to, value_of_meaning, node_meaning}
use Rattle.c_runs.specs.Parts.{IsOf}
use Rattle.c_runs.proofs.CourseValues.{then_gives, unless_gives}
use Rattle.c_runs.proofs.MeaningTypes.{CellIs, GivesOf, ArgsTyped, CallTyped, AssignTyped, MeaningTyped}
use Rattle.c_rules.proofs.Evaluations.{true_among}
use Rattle.c_rules.proofs.Formed.{same_is}
use Rattle.c_runs.proofs.TypedCells.{HasCell, read_here, cell_of, element_of}
use Rattle.c_runs.proofs.OperatorValues.{of_same, of_given, converted_is, unary_is, binary_is, decided_is}

-- ---- values

cell_here : (p : Program) (ty : IntType) (x : ℕ) → HasCell p.cells ty x → CellIs p x ty
cell_here p ty x has info is = ap (λ (c : CellInfo). c.ty) (same_Some info has.0 (sym is ∙ has.1)) ∙ has.2

-- an expression that is no target, no call and no assignment
value_typed : (p : Program) (e : Evaluation ℤ) (f : Form) → f.target ≡ false → (f.value ≡ true → GivesOf p f.ty e)
    → MeaningTyped p (valued e) f
value_typed p e f none value = record {
  value = value;
  target = λ is. absurd (true≢false (sym is ∙ none));
  call = λ is k has. absurd (none-some k has);
  assign = λ is a has. absurd (none-some a has);
}

-- ---- calls

-- the function that is called
called : (cells : List CellInfo) (ty : IntType) (es : List Form) (o : Option Fun)
    → on_some (is_call_of ty es) (option_map (callee_of cells) o) ≡ true
    → (f : Fun) × (o ≡ Some f) × (is_call_of ty es (callee_of cells f) ≡ true)
called cells ty es None is = absurd (true≢false (sym is))
called cells ty es (Some f) is = (f, refl, is)

abbrev plain_call : ℕ → List (Evaluation ℤ) → Calling
plain_call function args = record { function = function; args = args; convert = λ z. z }

-- the arguments are typed wherever their forms fit
abbrev ArgsGood : Program → List Form → List (Evaluation ℤ) → Type 0
ArgsGood p es args = (tys : List IntType) → args_fit tys es ≡ true → ArgsTyped p tys args

plain_typed : (p : Program) (ty : IntType) (function : ℕ) (args : List (Evaluation ℤ)) (es : List Form)
    → ArgsGood p es args → on_some (is_call_of ty es) (slice_get (layout_of p).callees function) ≡ true
    → CallTyped p (plain_call function args) ty
unfolding is_call_of
plain_typed p ty function args es fit is =
    let at = sym (ap (on_some (is_call_of ty es)) (slice_get-map (callee_of p.cells) p.fns function)) in
    let f = called p.cells ty es (slice_get p.fns function) (at ∙ is) in
    let parts = and_parts (args_fit (map (ty_at p.cells) f.0.formals) es) _ f.2 in
    let same = same_is ty (call_type (option_map (ty_at p.cells) f.0.result)) parts.1 in
    record {
      function = f.0;
      is_function = f.1;
      args = fit (map (ty_at p.cells) f.0.formals) parts.0;
      result = λ r has z of.
          let given = ap (λ (o : Option ℕ). call_type (option_map (ty_at p.cells) o)) has in
          subst (λ (t : IntType). IsOf t z) (sym (same ∙ given)) of;
    }

also_gives : (ty : IntType) (o : Option Calling) (k : Calling) → option_map (also_to ty) o ≡ Some k
    → (j : Calling) × (o ≡ Some j) × (also_to ty j ≡ k)
also_gives ty None k is = absurd (none-some k is)
also_gives ty (Some j) k is = (j, refl, same_Some (also_to ty j) k is)

-- a call whose result is converted further
also_typed : (p : Program) (from ty : IntType) (k : Calling) → CallTyped p k from → CallTyped p (also_to ty k) ty
also_typed p from ty k t = record {
  function = t.function;
  is_function = t.is_function;
  args = t.args;
  result = λ r has z of. converted_is ty (k.convert z);
}

-- ---- nodes over typed parts

module _ (p : Program) (checks : Bool) (ty : IntType) (site : Option SiteId) where
  abbrev NodeTyped : Node Meaning (List Meaning) → Node Form (List Form) → Type 0
  NodeTyped n f = MeaningTyped p (node_meaning checks ty site n) (node_form (layout_of p) ty site f)

  pub literal_typed : (v : ℤ) → NodeTyped (N.Literal v) (N.Literal v)
  unfolding in_range
  literal_typed v =
      value_typed p (λ c. gives v) (node_form (layout_of p) ty site (N.Literal v)) refl
      (λ is c typed z gave. of_given ty v z gave (true_among (least ty) (pos (greatest ty)) v (and_parts _ _ is).1))

  pub cell_typed : (x : ℕ) (checked : Bool) → NodeTyped (N.Cell x checked) (N.Cell x checked)
  cell_typed x checked = record {
    value = λ is c typed z gave.
        let has = cell_of (is_read_as ty checked) p.cells ty (λ i h. (and_parts _ _ h).0) x (and_parts _ _ is).1 in
        read_here p ty site checked x c z has typed gave;
    target = λ is c typed y gave.
        let has = cell_of (is_of ty) p.cells ty (λ i h. h) x (and_parts _ _ (and_parts _ _ is).1).1 in
        cell_here p ty y (subst (λ (m : ℕ). HasCell p.cells ty m) (same_Some x y gave) has);
    call = λ is k has. absurd (none-some k has);
    assign = λ is a has. absurd (none-some a has);
  }

  pub element_typed : (first n : ℕ) (m : Meaning) (f : Form) (checked : Bool) → MeaningTyped p m f
      → NodeTyped (N.Element first n m checked) (N.Element first n f checked)
  element_typed first n m f checked i = record {
    value = λ is c typed z gave.
        let parts = and_parts _ _ is in
        let cells = (and_parts _ _ parts.1).1 in
        let reads = λ (x : ℕ). read site checked (c x) in
        let at = then_gives (m.value c) (λ k. and_then (element site first n k) reads) z gave in
        let to = then_gives (element site first n at.0) reads z at.2 in
        let asks = λ (i : CellInfo) (h : is_read_as ty checked i ≡ true). (and_parts _ _ h).0 in
        let has = element_of (is_read_as ty checked) p.cells ty asks site first n at.0 to.0 cells parts.0 to.1 in
        read_here p ty site checked to.0 c z has typed to.2;
    target = λ is c typed x gave.
        let parts = and_parts _ _ is in
        let cells = (and_parts _ _ (and_parts _ _ parts.1).1).1 in
        let at = then_gives (m.value c) (element site first n) x gave in
        cell_here p ty x (element_of (is_of ty) p.cells ty (λ i h. h) site first n at.0 x cells parts.0 at.2);
    call = λ is k has. absurd (none-some k has);
    assign = λ is a has. absurd (none-some a has);
  }

  pub call_typed : (g : FnId) (ms : List Meaning) (es : List Form) → ArgsGood p es (map value_of_meaning ms)
      → NodeTyped (N.Call g ms) (N.Call g es)
  call_typed g ms es fit = record {
    value = λ is c typed z gave. absurd (none-some z gave);
    target = λ is. absurd (true≢false (sym is));
    call = λ is k has.
        let args = map value_of_meaning ms in
        let typed = plain_typed p ty g.0 args es fit (and_parts _ _ is).1 in
        subst (λ (j : Calling). CallTyped p j ty) (same_Some (plain_call g.0 args) k has) typed;
    assign = λ is a has. absurd (none-some a has);
  }

  pub unary_typed : (op : UnaryOp) (m : Meaning) (f : Form) → MeaningTyped p m f
      → NodeTyped (N.Unary op m) (N.Unary op f)
  unary_typed op m f i =
      value_typed p (λ c. and_then (m.value c) (unary checks site ty op))
      (node_form (layout_of p) ty site (N.Unary op f)) refl
      (λ is c typed z gave.
      let parts = and_parts _ _ is in
      let at = then_gives (m.value c) (unary checks site ty op) z gave in
      let of = i.value parts.0 c typed at.0 at.1 in
      unary_is checks site op ty f.ty at.0 z (and_parts _ _ parts.1).0 of at.2)

  abbrev right_of : BinaryOp → Meaning → Cells → ℤ → Course ℤ
  right_of op r c x = and_then (r.value c) (binary checks site ty op x)

  abbrev by_left : BinaryOp → Meaning → Cells → ℤ → Course ℤ
  by_left op r c x = unless (decided op x) (right_of op r c x)

  pub binary_typed : (op : BinaryOp) (l r : Meaning) (f g : Form) → MeaningTyped p l f → MeaningTyped p r g
      → NodeTyped (N.Binary op l r) (N.Binary op f g)
  binary_typed op l r f g i j =
      value_typed p (λ c. and_then (l.value c) (by_left op r c))
      (node_form (layout_of p) ty site (N.Binary op f g)) refl
      (λ is c typed z gave.
      let parts = and_parts _ _ is in
      let values = and_parts _ _ parts.0 in
      let types = and_parts _ _ parts.1 in
      let at = then_gives (l.value c) (by_left op r c) z gave in
      let left = i.value values.0 c typed at.0 at.1 in
      ⊎_elim
      (λ (now : decided op at.0 ≡ Some z). decided_is op ty f.ty g.ty at.0 z types.0 now)
      (λ (later : (right_of op r c at.0).value ≡ Some z).
      let to = then_gives (r.value c) (binary checks site ty op at.0) z later in
      let right = j.value values.1 c typed to.0 to.1 in
      binary_is checks site op ty f.ty g.ty at.0 to.0 z types.0 types.1 left right to.2)
      (unless_gives (decided op at.0) (right_of op r c at.0) z at.2))

  pub assign_typed : (t e : Meaning) (f g : Form) → MeaningTyped p t f → MeaningTyped p e g
      → NodeTyped (N.Assign t e) (N.Assign f g)
  unfolding assign_types
  assign_typed t e f g i j = record {
    value = λ is c typed z gave. absurd (none-some z gave);
    target = λ is. absurd (true≢false (sym is));
    call = λ is k has. absurd (none-some k has);
    assign = λ is a has.
        let parts = and_parts _ _ (and_parts _ _ is).1 in
        let forms = and_parts _ _ parts.0 in
        let types = and_parts _ _ parts.1 in
        let to = same_is f.ty ty types.0 in
        let from = same_is g.ty ty types.1 in
        let assigning : Assigning = record { target = t.target; value = e.value; call = e.call } in
        subst (λ (b : Assigning). AssignTyped p b) (same_Some assigning a has) (record {
          ty = ty;
          target = λ c typed x gave info there. i.target forms.0 c typed x gave info there ∙ to;
          value = λ c typed z gave. subst (λ (s : IntType). IsOf s z) from (j.value forms.1 c typed z gave);
          call = λ k calls. subst (λ (s : IntType). CallTyped p k s) from (j.call forms.1 k calls);
        });
  }

  pub cond_typed : (q a b : Meaning) (d f g : Form) → MeaningTyped p q d → MeaningTyped p a f → MeaningTyped p b g
      → NodeTyped (N.Cond q a b) (N.Cond d f g)
  unfolding choice_types
  cond_typed q a b d f g h i j =
      value_typed p (λ c. and_then (q.value c) (λ x. if is_zero x then b.value c else a.value c))
      (node_form (layout_of p) ty site (N.Cond d f g)) refl
      (λ is c typed z gave.
      let parts = and_parts _ _ is in
      let values = and_parts _ _ (and_parts _ _ parts.0).1 in
      let types = and_parts _ _ (and_parts _ _ (and_parts _ _ parts.1).1).0 in
      let at = then_gives (q.value c) (λ x. if is_zero x then b.value c else a.value c) z gave in
      cond_both (is_zero at.0) (b.value c) (a.value c) (λ (k : Course ℤ). k.value ≡ Some z → IsOf ty z)
      (λ no given. of_same g.ty ty z types.1 (j.value values.1 c typed z given))
      (λ yes given. of_same f.ty ty z types.0 (i.value values.0 c typed z given)) at.2)

  pub cast_typed : (m : Meaning) (f : Form) → MeaningTyped p m f → NodeTyped (N.Cast m) (N.Cast f)
  cast_typed m f i = record {
    value = λ is c typed z gave.
        let at = then_gives (m.value c) (λ x. gives (converted ty x)) z gave in
        of_given ty (converted ty at.0) z at.2 (converted_is ty at.0);
    target = λ is. absurd (true≢false (sym is));
    call = λ is k has.
        let inner = also_gives ty m.call k has in
        let typed = also_typed p f.ty ty inner.0 (i.call (and_parts _ _ is).1 inner.0 inner.1) in
        subst (λ (j : Calling). CallTyped p j ty) inner.2 typed;
    assign = λ is a has. absurd (none-some a has);
  }
