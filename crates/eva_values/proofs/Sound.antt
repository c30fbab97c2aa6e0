-- What is said of a well-formed expression is right, by its nodes.
use Rattle.std.proofs.Common.{◌≡◌, ◌&&◌, ℕ, ℤ, pos, Bool, true, false, List, [], ◌∷◌, map, Option, Some, None, is_some, refl, sym, ap, subst, ◌∙◌}
use Rattle.std.proofs.lemmas.Bool.{and_parts, false≢true, true≢false}
use Rattle.fc_base.specs.declared.ids.SiteId.{SiteId}
use Rattle.fc_base.specs.declared.relation.Relation.{Relation}
use Rattle.fc_base.specs.declared.relation.Relation.TheVariants as R
use Rattle.fc_base.specs.declared.syntax.BinaryOp.{BinaryOp}
use Rattle.fc_base.specs.declared.syntax.BinaryOp.TheVariants as B
use Rattle.fc_base.specs.declared.syntax.UnaryOp.{UnaryOp}
use Rattle.fc_base.specs.declared.syntax.UnaryOp.TheVariants as U
use Rattle.machine_ints.specs.Operators.{first_check, second_check, unary_check}
use Rattle.machine_ints.specs.Results.{IsRightOperand}
use Rattle.machine_ints.specs.declared.operators.Check.TheVariants.{Overflow}
use Rattle.machine_ints.specs.declared.operators.Operator.{Operator}
use Rattle.machine_ints.specs.declared.operators.Operator.TheVariants as O
use Rattle.machine_ints.specs.declared.operators.UnaryOperator.TheVariants.{Negate, Complement}
use Rattle.c_ir.specs.Checks.{binary_checks, unary_checks}
use Rattle.c_ir.specs.Formed.{Form, arithmetic_types, binary_types, form, form_step, has_site, node_form, same_bool, shift_types, unary_types}
use Rattle.c_ir.specs.Keeps.{layout_of}
use Rattle.c_ir.specs.Programs.{Program}
use Rattle.c_ir.specs.Types.{greatest, least, same_type}
use Rattle.c_ir.specs.declared.ty.IntType.{IntType}
use Rattle.c_ir.specs.declared.tree.Expr.{Expr, map-Expr, roll-Expr}
use Rattle.c_ir.specs.declared.tree.Expr.TheFolds.{fold-roll-Expr, ind-Expr}
use Rattle.c_ir.specs.declared.tree.Expr.TheOpen.{Expr-F}
use Rattle.c_ir.specs.declared.tree.Node.{Node}
use Rattle.c_ir.specs.declared.tree.Node.TheVariants as N
use Rattle.c_rules.specs.Constants.{binary_result, is_zero, truth, written}
use Rattle.c_rules.proofs.Formed.{same_is}
use Rattle.c_runs.specs.Evaluation.{Course, Meaning, and_then, meaning, meaning_step, node_meaning, operated, value}
use Rattle.c_runs.specs.Parts.{IsOf, Typed}
use Rattle.c_runs.specs.Visits.{Cells}
use Rattle.c_runs.proofs.OperatorValues.{of_same, overflow_has, site_needed}
use Rattle.c_runs.proofs.Typing.{meaning_typed}
use Rattle.abs_cells.specs.Cells.{Env}
use Rattle.abs_cells.specs.Laws.{In}
use Rattle.eva_values.specs.Laws.{Covers, ExpressionsCover}
use Rattle.eva_values.specs.Values.{Abstract, abstract_step, abstracted, node_abstract}
use Rattle.eva_values.specs.Values as values
use Rattle.eva_values.proofs.Covering.{Visited, and_covers, binary_by_covers, cast_covers, cell_covers, choice_covers, constant_covers, element_covers, kept_covers, negated_covers, nothing_covers, or_covers, related_covers, unary_by_covers}
use Rattle.eva_values.proofs.Passing.{first_site, second_site, visited_ends}

-- ---- nodes

-- what is said of an expression in these cells is right, where it is well formed
abbrev Said : Cells → Abstract → Course ℤ → Type 0
Said c a k = (e : Env) → In e c → Covers c (a.side e) (a.marks e) (λ taken. a.narrowed taken e) k

pub record Part (c : Cells) (a : Abstract) (m : Meaning) (f : Form) : Type 0 where
  pub covers : f.value ≡ true → Said c a (m.value c)
  pub typed : f.value ≡ true → (z : ℤ) → (m.value c).value ≡ Some z → IsOf f.ty z

site_if : (site : Option SiteId) (checked : Bool) → same_bool (is_some site) checked ≡ true → checked ≡ true
    → is_some site ≡ true
site_if None true is checked = is
site_if None false is checked = checked
site_if (Some n) b is checked = refl

module _ (p : Program) (c : Cells) (overflow : Bool) (ty : IntType) (site : Option SiteId) where
  abbrev NodeSaid : Node Abstract (List Abstract) → Node Meaning (List Meaning) → Node Form (List Form) → Type 0
  NodeSaid a m f = (node_form (layout_of p) ty site f).value ≡ true
      → Said c (node_abstract overflow ty site a) ((node_meaning overflow ty site m).value c)

  pub cell_said : (x : ℕ) (checked : Bool) → NodeSaid (N.Cell x checked) (N.Cell x checked) (N.Cell x checked)
  cell_said x checked is e all =
      cell_covers c site x checked e (site_if site checked (and_parts _ _ is).0) all

  pub element_said : (first n : ℕ) (a : Abstract) (m : Meaning) (f : Form) (checked : Bool) → Part c a m f
      → NodeSaid (N.Element first n a checked) (N.Element first n m checked) (N.Element first n f checked)
  element_said first n a m f checked i is e all =
      let parts = and_parts (is_some site) _ is in
      element_covers c site first n a checked e (m.value c) parts.0 all (i.covers (and_parts _ _ parts.1).0 e all)

  pub unary_said : (op : UnaryOp) (a : Abstract) (m : Meaning) (f : Form) → Part c a m f
      → NodeSaid (N.Unary op a) (N.Unary op m) (N.Unary op f)
  unfolding unary_types unary_checks
  unary_said op a m f i is e all =
      let parts = and_parts f.value _ is in
      let types = and_parts (unary_types op ty f.ty) _ parts.1 in
      by_op op types.0 types.1 (i.covers parts.0 e all) (i.typed parts.0)
    where
      by_op : (op : UnaryOp) → unary_types op ty f.ty ≡ true → has_site site (unary_checks op ty) ≡ true
          → Covers c (a.side e) (a.marks e) (λ taken. a.narrowed taken e) (m.value c)
          → ((z : ℤ) → (m.value c).value ≡ Some z → IsOf f.ty z)
          → Covers c ((node_abstract overflow ty site (N.Unary op a)).side e) ((node_abstract overflow ty site (N.Unary op a)).marks e)
          (λ taken. (node_abstract overflow ty site (N.Unary op a)).narrowed taken e)
          ((node_meaning overflow ty site (N.Unary op m)).value c)
      by_op U.Plus types has first typed = kept_covers c a e (m.value c) all first
      by_op U.Minus types has first typed =
          unary_by_covers c site overflow ty Negate a e (m.value c) all first
          (λ x it. of_same f.ty ty x (and_parts _ _ types).0 (typed x it))
          (λ v. site_needed site _ has (overflow_has ty overflow (visited_ends Overflow (least ty) overflow v)))
      by_op U.Not types has first typed = negated_covers c a e (m.value c) all first
      by_op U.Invert types has first typed =
          unary_by_covers c site overflow ty Complement a e (m.value c) all first
          (λ x it. of_same f.ty ty x (and_parts _ _ types).0 (typed x it)) (λ v. absurd (false≢true v))

  module _ (a b : Abstract) (m n : Meaning) (f g : Form) (i : Part c a m f) (j : Part c b n g) (left : f.value ≡ true)
      (right : g.value ≡ true) (e : Env) (all : In e c) where
    abbrev BinarySaid : BinaryOp → Type 0
    BinarySaid op =
        Covers c ((node_abstract overflow ty site (N.Binary op a b)).side e) ((node_abstract overflow ty site (N.Binary op a b)).marks e)
        (λ taken. (node_abstract overflow ty site (N.Binary op a b)).narrowed taken e)
        ((node_meaning overflow ty site (N.Binary op m n)).value c)

    -- an operator, whose left operand is of the result's type
    operator_said : (op : Operator) → same_type f.ty ty ≡ true → has_site site (binary_checks (written op) f.ty) ≡ true
        → ((y : ℤ) → (n.value c).value ≡ Some y → IsRightOperand op (least ty) (pos (greatest ty)) y)
        → Covers c ((values.binary_by overflow site ty op a b).side e) ((values.binary_by overflow site ty op a b).marks e)
        (λ taken. (values.binary_by overflow site ty op a b).narrowed taken e)
        (and_then (m.value c) (λ x. and_then (n.value c) (operated overflow site ty op x)))
    operator_said op same has operand =
        let here = subst (λ (t : IntType). has_site site (binary_checks (written op) t) ≡ true) (same_is f.ty ty same) has in
        binary_by_covers c site overflow ty op a b e (m.value c) (n.value c) all (i.covers left e all) (j.covers right e all)
        (λ x it. of_same f.ty ty x same (i.typed left x it)) operand
        (first_site site overflow ty op here) (second_site site overflow ty op here)

    -- with both operands of the result's type
    same_said : (op : Operator) → arithmetic_types ty f.ty g.ty ≡ true → has_site site (binary_checks (written op) f.ty) ≡ true
        → ((y : ℤ) → IsOf ty y → IsRightOperand op (least ty) (pos (greatest ty)) y)
        → Covers c ((values.binary_by overflow site ty op a b).side e) ((values.binary_by overflow site ty op a b).marks e)
        (λ taken. (values.binary_by overflow site ty op a b).narrowed taken e)
        (and_then (m.value c) (λ x. and_then (n.value c) (operated overflow site ty op x)))
    same_said op types has operand =
        let same = and_parts _ _ (and_parts _ _ types).0 in
        operator_said op same.0 has (λ y it. operand y (of_same g.ty ty y same.1 (j.typed right y it)))

    shift_said : (op : Operator) → shift_types ty f.ty g.ty ≡ true → has_site site (binary_checks (written op) f.ty) ≡ true
        → ((y : ℤ) → IsRightOperand op (least ty) (pos (greatest ty)) y)
        → Covers c ((values.binary_by overflow site ty op a b).side e) ((values.binary_by overflow site ty op a b).marks e)
        (λ taken. (values.binary_by overflow site ty op a b).narrowed taken e)
        (and_then (m.value c) (λ x. and_then (n.value c) (operated overflow site ty op x)))
    shift_said op types has operand =
        operator_said op (and_parts _ _ (and_parts _ _ types).0).0 has (λ y it. operand y)

    by_binary : (op : BinaryOp) → binary_types op ty f.ty g.ty ≡ true → has_site site (binary_checks op f.ty) ≡ true → BinarySaid op
    unfolding binary_types binary_result
    by_binary B.LogicOr types has =
        or_covers c a b e (m.value c) (n.value c) all (i.covers left e all) (λ more. j.covers right _ more)
    by_binary B.LogicAnd types has =
        and_covers c a b e (m.value c) (n.value c) all (i.covers left e all) (λ more. j.covers right _ more)
    by_binary B.Or types has = same_said O.Or types has (λ y of. of)
    by_binary B.Xor types has = same_said O.Xor types has (λ y of. of)
    by_binary B.And types has = same_said O.And types has (λ y of. of)
    by_binary B.Equal types has =
        related_covers c R.Equal a b e (m.value c) (n.value c) all (i.covers left e all) (j.covers right e all)
    by_binary B.NotEqual types has =
        related_covers c R.NotEqual a b e (m.value c) (n.value c) all (i.covers left e all) (j.covers right e all)
    by_binary B.Less types has =
        related_covers c R.Less a b e (m.value c) (n.value c) all (i.covers left e all) (j.covers right e all)
    by_binary B.Greater types has =
        related_covers c R.Greater a b e (m.value c) (n.value c) all (i.covers left e all) (j.covers right e all)
    by_binary B.LessEq types has =
        related_covers c R.LessEq a b e (m.value c) (n.value c) all (i.covers left e all) (j.covers right e all)
    by_binary B.GreaterEq types has =
        related_covers c R.GreaterEq a b e (m.value c) (n.value c) all (i.covers left e all) (j.covers right e all)
    by_binary B.Shl types has = shift_said O.Shl types has (λ y. tt)
    by_binary B.Shr types has = shift_said O.Shr types has (λ y. tt)
    by_binary B.Add types has = same_said O.Add types has (λ y of. of)
    by_binary B.Sub types has = same_said O.Sub types has (λ y of. of)
    by_binary B.Mul types has = same_said O.Mul types has (λ y of. of)
    by_binary B.Div types has = same_said O.Div types has (λ y of. of)
    by_binary B.Rem types has = same_said O.Rem types has (λ y of. of)

  pub binary_said : (op : BinaryOp) (a b : Abstract) (m n : Meaning) (f g : Form) → Part c a m f → Part c b n g
      → NodeSaid (N.Binary op a b) (N.Binary op m n) (N.Binary op f g)
  binary_said op a b m n f g i j is e all =
      let parts = and_parts (f.value && g.value) _ is in
      let values = and_parts f.value g.value parts.0 in
      let types = and_parts (binary_types op ty f.ty g.ty) _ parts.1 in
      by_binary a b m n f g i j values.0 values.1 e all op types.0 types.1

  pub choice_said : (q a b : Abstract) (l m n : Meaning) (d f g : Form) → Part c q l d → Part c a m f → Part c b n g
      → NodeSaid (N.Cond q a b) (N.Cond l m n) (N.Cond d f g)
  choice_said q a b l m n d f g h i j is e all =
      let parts = and_parts (d.value && (f.value && g.value)) _ is in
      let first = and_parts d.value (f.value && g.value) parts.0 in
      let rest = and_parts f.value g.value first.1 in
      choice_covers c q a b e (l.value c) (m.value c) (n.value c) all (h.covers first.0 e all)
      (λ more. i.covers rest.0 _ more) (λ more. j.covers rest.1 _ more)

  pub cast_said : (a : Abstract) (m : Meaning) (f : Form) → Part c a m f → NodeSaid (N.Cast a) (N.Cast m) (N.Cast f)
  cast_said a m f i is e all = cast_covers c ty a e (m.value c) all (i.covers (and_parts _ _ is).1 e all)

-- ---- trees

abbrev Good : Program → Cells → Bool → Expr → Type 0
Good p c overflow x = (form (layout_of p) x).value ≡ true → Said c (abstracted overflow x) ((meaning overflow x).value c)

abbrev With : Program → Cells → Bool → Type 0
With p c overflow = (x : Expr) × Good p c overflow x

part_of : (p : Program) (c : Cells) (overflow : Bool) → Typed p c → (x : With p c overflow)
    → Part c (abstracted overflow x.0) (meaning overflow x.0) (form (layout_of p) x.0)
part_of p c overflow typed x = record {
  covers = x.1;
  typed = λ is z gave. (meaning_typed p overflow x.0).value is c typed z gave;
}

abbrev tree : (p : Program) (c : Cells) (overflow : Bool) → IntType → Option SiteId
    → Node (With p c overflow) (List (With p c overflow)) → Expr-F Expr
tree p c overflow ty site n = map-Expr (With p c overflow) Expr (λ x. x.0) (record { ty = ty; site = site; node = n })

abbrev Layer : Program → Cells → Bool → Expr-F Expr → Type 0
Layer p c overflow y =
    (form_step (layout_of p) (map-Expr Expr Form (form (layout_of p)) y)).value ≡ true
    → Said c (abstract_step overflow (map-Expr Expr Abstract (abstracted overflow) y))
    ((meaning_step overflow (map-Expr Expr Meaning (meaning overflow) y)).value c)

by_node : (p : Program) (c : Cells) (overflow : Bool) → Typed p c → (ty : IntType) (site : Option SiteId)
    (n : Node (With p c overflow) (List (With p c overflow))) → Layer p c overflow (tree p c overflow ty site n)
by_node p c overflow typed ty site (N.Literal v) is e all = constant_covers c v e all
by_node p c overflow typed ty site (N.Cell x k) is e all = cell_said p c overflow ty site x k is e all
by_node p c overflow typed ty site (N.Element first n i k) is e all =
    element_said p c overflow ty site first n _ _ _ k (part_of p c overflow typed i) is e all
by_node p c overflow typed ty site (N.Call g es) is e all = nothing_covers c e all
by_node p c overflow typed ty site (N.Unary op a) is e all =
    unary_said p c overflow ty site op _ _ _ (part_of p c overflow typed a) is e all
by_node p c overflow typed ty site (N.Binary op a b) is e all =
    binary_said p c overflow ty site op _ _ _ _ _ _ (part_of p c overflow typed a) (part_of p c overflow typed b) is e all
by_node p c overflow typed ty site (N.Assign t a) is e all = nothing_covers c e all
by_node p c overflow typed ty site (N.Cond q a b) is e all =
    choice_said p c overflow ty site _ _ _ _ _ _ _ _ _ (part_of p c overflow typed q) (part_of p c overflow typed a)
    (part_of p c overflow typed b) is e all
by_node p c overflow typed ty site (N.Cast a) is e all =
    cast_said p c overflow ty site _ _ _ (part_of p c overflow typed a) is e all

pub expressions_said : (p : Program) (c : Cells) (overflow : Bool) → Typed p c → (x : Expr) → Good p c overflow x
unfolding abstracted
expressions_said p c overflow typed =
    ind-Expr (Good p c overflow) (λ x y is.
    let here = subst (λ (z : Expr-F Expr). Layer p c overflow z) is (by_node p c overflow typed y.ty y.site y.node) in
    let says = sym (fold-roll-Expr Abstract (abstract_step overflow) x) in
    let means = sym (fold-roll-Expr Meaning (meaning_step overflow) x) in
    let forms = sym (fold-roll-Expr Form (form_step (layout_of p)) x) in
    let one = subst (λ (a : Abstract). (form_step (layout_of p) (map-Expr Expr Form (form (layout_of p)) x)).value ≡ true → Said c a ((meaning_step overflow (map-Expr Expr Meaning (meaning overflow) x)).value c)) says here in
    let two = subst (λ (m : Meaning). (form_step (layout_of p) (map-Expr Expr Form (form (layout_of p)) x)).value ≡ true → Said c (abstracted overflow (roll-Expr x)) (m.value c)) means one in
    subst (λ (f : Form). f.value ≡ true → Said c (abstracted overflow (roll-Expr x)) ((meaning overflow (roll-Expr x)).value c)) forms two)

pub expressions_cover : ExpressionsCover
unfolding value
expressions_cover p overflow x c e is typed all = expressions_said p c overflow typed x is e all
