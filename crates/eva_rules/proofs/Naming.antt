-- Each check that an evaluation visits has a mark of its name, whatever the cells and the values are: which checks are
-- visited, and which marks are made, hangs on types and sites alone.
use Rattle.std.proofs.Common.{◌≡◌, ◌++◌, ◌⊎◌, ℕ, ℤ, Bool, true, false, List, [], ◌∷◌, map, Option, Some, None, is_some, refl, sym, subst, inl, inr}
use Rattle.std.specs.Prelude.{if◌then◌else◌}
use Rattle.std.specs.Option.{option_map}
use Rattle.std.proofs.lemmas.Bool.{false≢true}
use mathlib.Core.List.{append-nil}
use Rattle.fc_base.specs.declared.ids.SiteId.{SiteId}
use Rattle.fc_base.specs.declared.syntax.BinaryOp.{BinaryOp}
use Rattle.fc_base.specs.declared.syntax.BinaryOp.TheVariants as B
use Rattle.fc_base.specs.declared.syntax.UnaryOp.{UnaryOp}
use Rattle.fc_base.specs.declared.syntax.UnaryOp.TheVariants as U
use Rattle.machine_ints.specs.Operators.{first_check, second_check, unary_check, is_visited}
use Rattle.machine_ints.specs.declared.operators.Check.{Check as Test}
use Rattle.machine_ints.specs.declared.operators.Operator.{Operator}
use Rattle.machine_ints.specs.declared.operators.Operator.TheVariants as O
use Rattle.machine_ints.specs.declared.operators.UnaryOperator.{UnaryOperator}
use Rattle.machine_ints.specs.declared.operators.UnaryOperator.TheVariants.{Negate, Complement}
use Rattle.int_interval.specs.declared.said.Said.{Said}
use Rattle.int_interval.specs.declared.shape.Shape.{Shape}
use Rattle.int_value.specs.Checks.{add_row, div_row, divided_row, is_checked, mul_row, neg_row, rem_row, shl_row, shr_row, sub_row, typed_row}
use Rattle.int_value.specs.declared.made.Made.{Made}
use Rattle.int_value.specs.declared.value.Value.{Value}
use Rattle.abs_cells.specs.Cells.{Env, element_of, value_in}
use Rattle.c_ir.specs.Types.{least}
use Rattle.c_ir.specs.declared.kind.AlarmKind.{AlarmKind}
use Rattle.c_ir.specs.declared.kind.AlarmKind.TheVariants as A
use Rattle.c_ir.specs.declared.ty.IntType.{IntType}
use Rattle.c_ir.specs.declared.tree.Expr.{Expr, map-Expr, roll-Expr}
use Rattle.c_ir.specs.declared.tree.Expr.TheFolds.{fold-roll-Expr, ind-Expr}
use Rattle.c_ir.specs.declared.tree.Expr.TheOpen.{Expr-F}
use Rattle.c_ir.specs.declared.tree.Node.{Node}
use Rattle.c_ir.specs.declared.tree.Node.TheVariants as N
use Rattle.c_rules.specs.Constants.{is_zero, converted, decided}
use Rattle.c_runs.specs.Visits.{Cells, Check, Visit}
use Rattle.c_runs.specs.Evaluation.{Assigning, Calling, Course, Evaluation, Meaning, alarm_of, and_then, binary, checked_at, checked_if, element, gives, meaning, meaning_step, on_value, operated, read, tested, unary, unary_operated, unless, value_of_meaning}
use Rattle.c_runs.specs.Evaluation as runs
use Rattle.eva_values.specs.Marks.{made_by, made_by_unary, mark_at, mark_check, mark_read, mark_said, marks_made, marks_made_unary}
use Rattle.eva_values.specs.Shapes.{shape_of}
use Rattle.eva_values.specs.Values.{Abstract, binary_abstract, unary_abstract}
use Rattle.eva_values.specs.declared.seen.SiteMark.{SiteMark}
use Rattle.eva_rules.specs.Meant.{Assigned, Called, Meant, Target, also_to, meant, meant_step, value_meant}
use Rattle.eva_rules.specs.Meant as meants

-- ---- marks of names

abbrev pub HasMark : List SiteMark → Visit → Type 0
HasMark [] v = ⊥
HasMark (m ∷ ms) v = (v.named ≡ Check m.site.0 m.kind) ⊎ HasMark ms v

abbrev pub AllHaveMarks : List SiteMark → List Visit → Type 0
AllHaveMarks ms [] = Unit {0}
AllHaveMarks ms (v ∷ vs) = HasMark ms v × AllHaveMarks ms vs

-- in all cells, and whatever is known of them
abbrev pub NamesCover : Abstract → Evaluation ℤ → Type 0
NamesCover a k = (c : Cells) (e : Env) → AllHaveMarks (a.marks e) (k c).visits

abbrev pub TargetNames : Target → Evaluation ℕ → Type 0
TargetNames t k = (c : Cells) (e : Env) → AllHaveMarks (t.marks e) (k c).visits

abbrev pub ArgsNames : List Abstract → List (Evaluation ℤ) → Type 0
ArgsNames [] [] = Unit {0}
ArgsNames [] (k ∷ ks) = ⊥
ArgsNames (a ∷ more) [] = ⊥
ArgsNames (a ∷ more) (k ∷ ks) = NamesCover a k × ArgsNames more ks

abbrev pub CallNames : Option Called → Option Calling → Type 0
CallNames None None = Unit {0}
CallNames None (Some k) = ⊥
CallNames (Some m) None = ⊥
CallNames (Some m) (Some k) = ArgsNames m.args k.args

pub record AssignedNames (m : Assigned) (k : Assigning) : Type 0 where
  pub target : TargetNames m.target k.target
  pub value : NamesCover m.value k.value
  pub call : CallNames m.call k.call

abbrev pub AssignNames : Option Assigned → Option Assigning → Type 0
AssignNames None None = Unit {0}
AssignNames None (Some k) = ⊥
AssignNames (Some m) None = ⊥
AssignNames (Some m) (Some k) = AssignedNames m k

pub record NamesHold (m : Meant) (k : Meaning) : Type 0 where
  pub value : NamesCover m.value k.value
  pub target : TargetNames m.target k.target
  pub call : CallNames m.call k.call
  pub assign : AssignNames m.assign k.assign

-- ---- lists

one_left : (ms ns : List SiteMark) (v : Visit) → HasMark ms v → HasMark (ms ++ ns) v
one_left [] ns v h = absurd h
one_left (m ∷ ms) ns v (inl is) = inl is
one_left (m ∷ ms) ns v (inr h) = inr (one_left ms ns v h)

one_right : (ms ns : List SiteMark) (v : Visit) → HasMark ns v → HasMark (ms ++ ns) v
one_right [] ns v h = h
one_right (m ∷ ms) ns v h = inr (one_right ms ns v h)

have_left : (ms ns : List SiteMark) (vs : List Visit) → AllHaveMarks ms vs → AllHaveMarks (ms ++ ns) vs
have_left ms ns [] h = tt
have_left ms ns (v ∷ vs) h = (one_left ms ns v h.0, have_left ms ns vs h.1)

have_right : (ms ns : List SiteMark) (vs : List Visit) → AllHaveMarks ns vs → AllHaveMarks (ms ++ ns) vs
have_right ms ns [] h = tt
have_right ms ns (v ∷ vs) h = (one_right ms ns v h.0, have_right ms ns vs h.1)

have_both : (ms : List SiteMark) (vs ws : List Visit) → AllHaveMarks ms vs → AllHaveMarks ms ws
    → AllHaveMarks ms (vs ++ ws)
have_both ms [] ws h k = k
have_both ms (v ∷ vs) ws h k = (h.0, have_both ms vs ws h.1 k)

-- without the empty list after it
alone : (ms : List SiteMark) (vs : List Visit) → AllHaveMarks (ms ++ []) vs → AllHaveMarks ms vs
alone ms vs h = subst (λ (xs : List SiteMark). AllHaveMarks xs vs) (append-nil ms) h

-- ---- courses

then_named : {X Y : Type 0} (ms ns : List SiteMark) (k : Course X) (f : X → Course Y) → AllHaveMarks ms k.visits
    → ((x : X) → AllHaveMarks ns (f x).visits) → AllHaveMarks (ms ++ ns) (and_then k f).visits
then_named {X = X} ms ns k f h rest =
    have_both (ms ++ ns) k.visits (on_value k.value f).visits (have_left ms ns k.visits h)
    (have_right ms ns (on_value k.value f).visits (by_value k.value))
  where
    by_value : (o : Option X) → AllHaveMarks ns (on_value o f).visits
    by_value None = tt
    by_value (Some x) = rest x

-- what follows visits nothing
kept_named : {X Y : Type 0} (ms : List SiteMark) (k : Course X) (f : X → Course Y) → AllHaveMarks ms k.visits
    → ((x : X) → AllHaveMarks [] (f x).visits) → AllHaveMarks ms (and_then k f).visits
kept_named ms k f h rest = alone ms (and_then k f).visits (then_named ms [] k f h rest)

unless_named : (ms : List SiteMark) (o : Option ℤ) (rest : Course ℤ) → AllHaveMarks ms rest.visits
    → AllHaveMarks ms (unless o rest).visits
unless_named ms None rest h = h
unless_named ms (Some v) rest h = tt

-- ---- checks

going_named : {X : Type 0} (ms : List SiteMark) (b : Bool) (rest : Course X) → AllHaveMarks ms rest.visits
    → AllHaveMarks ms (runs.going_on b rest).visits
going_named ms true rest h = h
going_named ms false rest h = tt

at_named :
    {X : Type 0} (site : Option SiteId) (kind : AlarmKind) (said : Said) (passes : Bool) (ns : List SiteMark)
    (rest : Course X) → AllHaveMarks ns rest.visits
    → AllHaveMarks (mark_at site kind said ++ ns) (checked_at site kind passes rest).visits
at_named None kind said passes ns rest h = h
at_named (Some n) kind said passes ns rest h =
    (inl refl, have_right (mark_at (Some n) kind said) ns _ (going_named ns _ rest h))

-- something is said
abbrev HasSaid : Option Said → Type 0
HasSaid None = ⊥
HasSaid (Some said) = Unit {0}

if_named :
    {X : Type 0} (visited : Bool) (site : Option SiteId) (kind : AlarmKind) (made : Option Said) (passes : Bool)
    (ns : List SiteMark) (rest : Course X) → (visited ≡ true → HasSaid made) → AllHaveMarks ns rest.visits
    → AllHaveMarks (mark_said site kind made ++ ns) (checked_if visited site kind passes rest).visits
if_named false site kind made passes ns rest needs h = have_right (mark_said site kind made) ns rest.visits h
if_named true site kind None passes ns rest needs h = absurd (needs refl)
if_named true site kind (Some said) passes ns rest needs h = at_named site kind said passes ns rest h

-- a check that is visited has something said of it
abbrev Needs : IntType → Bool → Option Test → Option Said → Type 0
Needs ty overflow None made = Unit {0}
Needs ty overflow (Some t) made = is_visited (least ty) overflow t ≡ true → HasSaid made

tested_named : (overflow : Bool) (site : Option SiteId) (ty : IntType) (op : Operator) (x y : ℤ) (check : Option Test)
    (made : Option Said) (ns : List SiteMark) (rest : Course ℤ) → Needs ty overflow check made
    → AllHaveMarks ns rest.visits
    → AllHaveMarks (mark_check site check made ++ ns) (tested overflow site ty op x y check rest).visits
tested_named overflow site ty op x y None made ns rest needs h = h
tested_named overflow site ty op x y (Some t) made ns rest needs h =
    if_named (is_visited (least ty) overflow t) site (alarm_of t) made _ ns rest needs h

by_flag : (b : Bool) (x y : Made) → b ≡ true → HasSaid x.first → HasSaid (if b then x else y).first
by_flag true x y is h = h
by_flag false x y is h = absurd (false≢true is)

by_second : (b : Bool) (x y : Made) → b ≡ true → HasSaid x.second → HasSaid (if b then x else y).second
by_second true x y is h = h
by_second false x y is h = absurd (false≢true is)

by_either : (b : Bool) (x y : Made) → HasSaid x.first → HasSaid y.first → HasSaid (if b then x else y).first
by_either true x y h k = h
by_either false x y h k = k

module _ (ty : IntType) (overflow : Bool) where
  abbrev shape : Shape
  shape = shape_of ty

  typed_said : (raw : Value) → is_checked shape overflow ≡ true → HasSaid (typed_row shape overflow raw).first
  unfolding typed_row
  typed_said raw is = by_flag (is_checked shape overflow) _ _ is tt

  divided_said : (a b exact : Value) → HasSaid (divided_row shape overflow a b exact).first
  unfolding divided_row
  divided_said a b exact = by_either (is_checked shape overflow) _ _ tt tt

  quotient_said : (a b exact : Value) → is_checked shape overflow ≡ true
      → HasSaid (divided_row shape overflow a b exact).second
  unfolding divided_row
  quotient_said a b exact is = by_second (is_checked shape overflow) _ _ is tt

  first_said : (op : Operator) (a b : Value) → Needs ty overflow (first_check op) (made_by op shape overflow a b).first
  unfolding add_row sub_row mul_row div_row rem_row shl_row shr_row
  first_said O.Add a b = typed_said _
  first_said O.Sub a b = typed_said _
  first_said O.Mul a b = typed_said _
  first_said O.Div a b = λ is. divided_said a b _
  first_said O.Rem a b = λ is. divided_said a b _
  first_said O.Shl a b = λ is. by_either (is_checked shape overflow) _ _ tt tt
  first_said O.Shr a b = λ is. tt
  first_said O.And a b = tt
  first_said O.Or a b = tt
  first_said O.Xor a b = tt

  second_said : (op : Operator) (a b : Value)
      → Needs ty overflow (second_check op) (made_by op shape overflow a b).second
  unfolding div_row rem_row shl_row
  second_said O.Add a b = tt
  second_said O.Sub a b = tt
  second_said O.Mul a b = tt
  second_said O.Div a b = quotient_said a b _
  second_said O.Rem a b = quotient_said a b _
  second_said O.Shl a b = λ is. by_second (is_checked shape overflow) _ _ is tt
  second_said O.Shr a b = tt
  second_said O.And a b = tt
  second_said O.Or a b = tt
  second_said O.Xor a b = tt

  unary_said : (op : UnaryOperator) (a : Value)
      → Needs ty overflow (unary_check op) (made_by_unary op shape overflow a).first
  unfolding neg_row
  unary_said Negate a = typed_said _
  unary_said Complement a = tt

  -- ---- operators

  operated_named : (site : Option SiteId) (op : Operator) (a b : Value) (x y : ℤ)
      → AllHaveMarks (marks_made site op (made_by op shape overflow a b)) (operated overflow site ty op x y).visits
  operated_named site op a b x y =
      let made = made_by op shape overflow a b in
      let rest : Course ℤ = gives _ in
      let last = mark_check site (second_check op) made.second in
      tested_named overflow site ty op x y (first_check op) made.first last _ (first_said op a b)
      (alone last (tested overflow site ty op x y (second_check op) rest).visits
      (tested_named overflow site ty op x y (second_check op) made.second [] rest (second_said op a b) tt))

  unary_named : (site : Option SiteId) (op : UnaryOperator) (a : Value) (x : ℤ)
      → AllHaveMarks (marks_made_unary site op (made_by_unary op shape overflow a))
      (unary_operated overflow site ty op x).visits
  unary_named site Negate a x =
      let made = made_by_unary Negate shape overflow a in
      alone (marks_made_unary site Negate made) (unary_operated overflow site ty Negate x).visits
      (if_named _ site _ made.first _ [] (gives _) (unary_said Negate a) tt)
  unary_named site Complement a x = tt

  module _ (site : Option SiteId) where
    unary_names : (op : UnaryOp) (a : Abstract) (k : Evaluation ℤ) → NamesCover a k
        → NamesCover (unary_abstract overflow site ty op a) (λ c. and_then (k c) (unary overflow site ty op))
    unary_names U.Plus a k h c e = kept_named (a.marks e) (k c) (unary overflow site ty U.Plus) (h c e) (λ x. tt)
    unary_names U.Minus a k h c e =
        then_named (a.marks e) _ (k c) (unary overflow site ty U.Minus) (h c e)
        (λ x. unary_named site Negate (a.side e).value x)
    unary_names U.Not a k h c e = kept_named (a.marks e) (k c) (unary overflow site ty U.Not) (h c e) (λ x. tt)
    unary_names U.Invert a k h c e =
        then_named (a.marks e) _ (k c) (unary overflow site ty U.Invert) (h c e)
        (λ x. unary_named site Complement (a.side e).value x)

    abbrev pair : BinaryOp → Evaluation ℤ → Evaluation ℤ → Evaluation ℤ
    pair op k l c = and_then (k c) (λ x. unless (decided op x) (and_then (l c) (binary overflow site ty op x)))

    two_named : (op : BinaryOp) (ms ns : List SiteMark) (k l : Evaluation ℤ) (c : Cells) → AllHaveMarks ms (k c).visits
        → ((x : ℤ) → AllHaveMarks ns (and_then (l c) (binary overflow site ty op x)).visits)
        → AllHaveMarks (ms ++ ns) (pair op k l c).visits
    two_named op ms ns k l c h rest =
        then_named ms ns (k c) (λ x. unless (decided op x) (and_then (l c) (binary overflow site ty op x))) h
        (λ x. unless_named ns (decided op x) (and_then (l c) (binary overflow site ty op x)) (rest x))

    module _ (a b : Abstract) (k l : Evaluation ℤ) (left : NamesCover a k) (right : NamesCover b l) (c : Cells)
        (e : Env) where
      abbrev BinaryNamed : BinaryOp → Type 0
      BinaryNamed op = AllHaveMarks ((binary_abstract overflow site ty op a b).marks e) (pair op k l c).visits

      related_named : (op : BinaryOp) → ((x y : ℤ) → AllHaveMarks [] (binary overflow site ty op x y).visits)
          → (f : Env) → AllHaveMarks (a.marks e ++ b.marks f) (pair op k l c).visits
      related_named op none f =
          two_named op (a.marks e) (b.marks f) k l c (left c e)
          (λ x. kept_named (b.marks f) (l c) (binary overflow site ty op x) (right c f) (λ y. none x y))

      made_named : (op : BinaryOp) (o : Operator)
          → ((x y : ℤ) → AllHaveMarks (marks_made site o (made_by o shape overflow (a.side e).value (b.side e).value))
          (binary overflow site ty op x y).visits)
          → AllHaveMarks
          (a.marks e ++ (b.marks e ++ marks_made site o (made_by o shape overflow (a.side e).value (b.side e).value)))
          (pair op k l c).visits
      made_named op o made =
          two_named op (a.marks e) _ k l c (left c e)
          (λ x. then_named (b.marks e) _ (l c) (binary overflow site ty op x) (right c e) (λ y. made x y))

      by_op : (op : BinaryOp) → BinaryNamed op
      by_op B.LogicOr = related_named B.LogicOr (λ x y. tt) _
      by_op B.LogicAnd = related_named B.LogicAnd (λ x y. tt) _
      by_op B.Or = made_named B.Or O.Or (operated_named site O.Or (a.side e).value (b.side e).value)
      by_op B.Xor = made_named B.Xor O.Xor (operated_named site O.Xor (a.side e).value (b.side e).value)
      by_op B.And = made_named B.And O.And (operated_named site O.And (a.side e).value (b.side e).value)
      by_op B.Equal = related_named B.Equal (λ x y. tt) e
      by_op B.NotEqual = related_named B.NotEqual (λ x y. tt) e
      by_op B.Less = related_named B.Less (λ x y. tt) e
      by_op B.Greater = related_named B.Greater (λ x y. tt) e
      by_op B.LessEq = related_named B.LessEq (λ x y. tt) e
      by_op B.GreaterEq = related_named B.GreaterEq (λ x y. tt) e
      by_op B.Shl = made_named B.Shl O.Shl (operated_named site O.Shl (a.side e).value (b.side e).value)
      by_op B.Shr = made_named B.Shr O.Shr (operated_named site O.Shr (a.side e).value (b.side e).value)
      by_op B.Add = made_named B.Add O.Add (operated_named site O.Add (a.side e).value (b.side e).value)
      by_op B.Sub = made_named B.Sub O.Sub (operated_named site O.Sub (a.side e).value (b.side e).value)
      by_op B.Mul = made_named B.Mul O.Mul (operated_named site O.Mul (a.side e).value (b.side e).value)
      by_op B.Div = made_named B.Div O.Div (operated_named site O.Div (a.side e).value (b.side e).value)
      by_op B.Rem = made_named B.Rem O.Rem (operated_named site O.Rem (a.side e).value (b.side e).value)

-- ---- objects

read_named : (site : Option SiteId) (checked : Bool) (v : Value) (o : Option ℤ)
    → AllHaveMarks (mark_read site checked v) (read site checked o).visits
read_named site false v o = tt
read_named site true v o =
    alone (mark_read site true v) (read site true o).visits
    (at_named site A.Initialization _ (is_some o) [] (record { visits = []; value = o }) tt)

index_named : (site : Option SiteId) (first n : ℕ) (said : Said) (k : ℤ)
    → AllHaveMarks (mark_at site A.IndexBound said) (element site first n k).visits
index_named site first n said k =
    alone (mark_at site A.IndexBound said) (element site first n k).visits
    (at_named site A.IndexBound said _ [] (gives _) tt)

choice_named : (b : Bool) (ms ns : List SiteMark) (k l : Course ℤ) → AllHaveMarks ms k.visits → AllHaveMarks ns l.visits
    → AllHaveMarks (ms ++ ns) (if b then l else k).visits
choice_named true ms ns k l h j = have_right ms ns l.visits j
choice_named false ms ns k l h j = have_left ms ns k.visits h

-- ---- trees

abbrev Good : Bool → Expr → Type 0
Good overflow x = NamesHold (meant overflow x) (meaning overflow x)

abbrev With : Bool → Type 0
With overflow = (x : Expr) × Good overflow x

abbrev Layer : Bool → Expr-F Expr → Type 0
Layer overflow y =
    NamesHold (meant_step overflow (map-Expr Expr Meant (meant overflow) y))
    (meaning_step overflow (map-Expr Expr Meaning (meaning overflow) y))

abbrev tree : (overflow : Bool) → IntType → Option SiteId → Node (With overflow) (List (With overflow)) → Expr-F Expr
tree overflow ty site n = map-Expr (With overflow) Expr (λ x. x.0) (record { ty = ty; site = site; node = n })

plain : (a : Abstract) (k : Evaluation ℤ) → NamesCover a k → NamesHold (meants.valued a) (runs.valued k)
plain a k h = record { value = h; target = λ c e. tt; call = tt; assign = tt }

args_named : (overflow : Bool) (es : List (With overflow))
    → ArgsNames (map value_meant (map (meant overflow) (map (λ x. x.0) es)))
    (map value_of_meaning (map (meaning overflow) (map (λ x. x.0) es)))
args_named overflow [] = tt
args_named overflow (e ∷ es) = (e.1.value, args_named overflow es)

also_named : (ty : IntType) (m : Option Called) (k : Option Calling) → CallNames m k
    → CallNames (option_map (also_to ty) m) (option_map (runs.also_to ty) k)
also_named ty None None h = tt
also_named ty None (Some k) h = absurd h
also_named ty (Some m) None h = absurd h
also_named ty (Some m) (Some k) h = h

by_node : (overflow : Bool) (ty : IntType) (site : Option SiteId) (n : Node (With overflow) (List (With overflow)))
    → Layer overflow (tree overflow ty site n)
by_node overflow ty site (N.Literal v) = plain _ _ (λ c e. tt)
by_node overflow ty site (N.Cell x checked) = record {
  value = λ c e. read_named site checked (value_in e x) (c x);
  target = λ c e. tt;
  call = tt;
  assign = tt;
}
by_node overflow ty site (N.Element first n i checked) = record {
  value = λ c e.
      then_named ((meant overflow i.0).value.marks e) _ ((meaning overflow i.0).value c)
      (λ k. and_then (element site first n k) (λ x. read site checked (c x))) (i.1.value c e)
      (λ k. then_named (mark_at site A.IndexBound _) _ (element site first n k) (λ x. read site checked (c x))
      (index_named site first n _ k) (λ x.
      read_named site checked (element_of e first n ((meant overflow i.0).value.side e).value) (c x)));
  target = λ c e.
      then_named ((meant overflow i.0).value.marks e) _ ((meaning overflow i.0).value c) (element site first n)
      (i.1.value c e)
      (λ k. index_named site first n _ k);
  call = tt;
  assign = tt;
}
by_node overflow ty site (N.Call g es) =
    record { value = λ c e. tt; target = λ c e. tt; call = args_named overflow es; assign = tt }
by_node overflow ty site (N.Unary op a) = plain _ _
    (unary_names ty overflow site op (meant overflow a.0).value (meaning overflow a.0).value a.1.value)
by_node overflow ty site (N.Binary op a b) =
    plain _ _ (λ c e.
    by_op ty overflow site (meant overflow a.0).value (meant overflow b.0).value (meaning overflow a.0).value
    (meaning overflow b.0).value a.1.value b.1.value c e op)
by_node overflow ty site (N.Assign t a) = record {
  value = λ c e. tt;
  target = λ c e. tt;
  call = tt;
  assign = record { target = t.1.target; value = a.1.value; call = a.1.call };
}
by_node overflow ty site (N.Cond q a b) =
    plain _ _ (λ c e.
    then_named ((meant overflow q.0).value.marks e) _ ((meaning overflow q.0).value c)
    (λ x. if is_zero x then (meaning overflow b.0).value c else (meaning overflow a.0).value c) (q.1.value c e)
    (λ x. choice_named (is_zero x) _ _ ((meaning overflow a.0).value c) ((meaning overflow b.0).value c)
    (a.1.value c _) (b.1.value c _)))
by_node overflow ty site (N.Cast a) = record {
  value = λ c e.
      kept_named ((meant overflow a.0).value.marks e) ((meaning overflow a.0).value c) (λ x. gives (converted ty x))
      (a.1.value c e) (λ x. tt);
  target = λ c e. tt;
  call = also_named ty (meant overflow a.0).call (meaning overflow a.0).call a.1.call;
  assign = tt;
}

pub names_hold : (overflow : Bool) (x : Expr) → NamesHold (meant overflow x) (meaning overflow x)
unfolding meant
names_hold overflow =
    ind-Expr (Good overflow) (λ x y is.
    let layer = subst (λ (z : Expr-F Expr). Layer overflow z) is (by_node overflow y.ty y.site y.node) in
    let says = sym (fold-roll-Expr Meant (meant_step overflow) x) in
    let means = sym (fold-roll-Expr Meaning (meaning_step overflow) x) in
    let one = subst (λ (m : Meant). NamesHold m (meaning_step overflow (map-Expr Expr Meaning (meaning overflow) x)))
    says layer in
    subst (λ (k : Meaning). NamesHold (meant overflow (roll-Expr x)) k) means one)
