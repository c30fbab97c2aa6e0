-- What one pass over a node gives is what the node comes to.
use Rattle.std.specs.Prelude.{IfOk}
use Rattle.std.proofs.Common.{Result, Ok, Err, ◌≡◌, ◌++◌, ◌&&◌, ℕ, ℤ, pos, Bool, true, false, List, [], ◌∷◌, map, Option, Some, None, is_some, refl, sym, ap, ◌∙◌}
use mathlib.Core.List.{append_assoc, append-nil}
use Rattle.fc_base.specs.declared.ids.FnId.{FnId}
use Rattle.fc_base.specs.declared.ids.SiteId.{SiteId}
use Rattle.fc_base.specs.declared.syntax.BinaryOp.{BinaryOp}
use Rattle.fc_base.specs.declared.syntax.BinaryOp.TheVariants as B
use Rattle.fc_base.specs.declared.syntax.UnaryOp.{UnaryOp}
use Rattle.fc_base.specs.declared.syntax.UnaryOp.TheVariants as U
use Rattle.c_ir.specs.declared.ty.IntType.{IntType}
use Rattle.c_ir.specs.declared.tree.Expr.{Expr, map-Expr, out-Expr}
use Rattle.c_ir.specs.declared.tree.Expr.TheFolds.{fold_out-Expr}
use Rattle.c_ir.specs.declared.tree.Node.{Node}
use Rattle.c_ir.specs.declared.tree.Node.TheVariants as N
use Rattle.int_value.specs.Checks.{equal_row}
use Rattle.int_value.specs.Rows.{one_of}
use Rattle.int_value.specs.declared.value.Value.{Value}
use Rattle.abs_cells.specs.Cells.{Env, element_of, value_in}
use Rattle.abs_cells.specs.declared.narrowing.Side.{Side}
use Rattle.eva_values.specs.Values.{Abstract, abstract_step, abstracted, constant_in, env_if, has_other, has_zero, logic_by, logic_value, named_by, negated, node_abstract, number_of, said_value, unary_abstract, unnamed}
use Rattle.eva_values.specs.declared.outcome.Outcome.{Outcome}
use Rattle.eva_values.specs.declared.seen.SiteMark.{SiteMark}
use Rattle.eva_values.specs.inner.Forms.{form_of}
use Rattle.eva_values.specs.inner.Outcomes.{after, cast_outcome, choice_outcome, compared_outcome, element_marks, element_outcome, form_marks, form_outcome, goes_on, logic_outcome, negated_outcome, nothing_outcome, object_outcome, outcome, outcome_of, tested_outcome, unary_marks, unary_outcome}

env_none : (b : Bool) → env_if b None ≡ None
env_none true = refl
env_none false = refl

pub constant_is : (overflow : Bool) (ty : IntType) (site : Option SiteId) (v : ℤ) (e : Env) (wanted : Bool)
    → compared_outcome e (unnamed (constant_in e v)) wanted ≡ outcome_of (node_abstract overflow ty site (N.Literal v)) e wanted
unfolding outcome_of tested_outcome
constant_is overflow ty site v e wanted = refl

pub object_is : (overflow : Bool) (ty : IntType) (site : Option SiteId) (x : ℕ) (checked : Bool) (e : Env) (wanted : Bool)
    → compared_outcome e (named_by (Some x) (number_of (value_in e x))) wanted
    ≡ outcome_of (node_abstract overflow ty site (N.Cell x checked)) e wanted
unfolding outcome_of tested_outcome
object_is overflow ty site x checked e wanted = refl

pub element_is : (overflow : Bool) (ty : IntType) (site : Option SiteId) (first n : ℕ) (a : Abstract) (checked : Bool) (e : Env)
    (wanted : Bool)
    → compared_outcome e (unnamed (number_of (element_of e first n (a.side e).value))) wanted
    ≡ outcome_of (node_abstract overflow ty site (N.Element first n a checked)) e wanted
unfolding outcome_of tested_outcome
element_is overflow ty site first n a checked e wanted = refl

negated_is : (a : Abstract) (e : Env) (wanted : Bool) → negated_outcome (outcome_of a e wanted) ≡ outcome_of (negated a) e wanted
unfolding outcome_of negated_outcome
negated_is a e true = refl
negated_is a e false =
    let v = said_value (equal_row (a.side e).value (one_of (pos 0) false)) in
    ap (λ (x : Env). outcome (unnamed v) x (env_if (has_zero v) None)) (env_none (has_other v))
    ∙ ap (λ (x : Env). outcome (unnamed v) None x) (env_none (has_zero v))

pub unary_is : (overflow : Bool) (ty : IntType) (site : Option SiteId) (op : UnaryOp) (a : Abstract) (e : Env) (wanted : Bool)
    → unary_outcome e ty op overflow (outcome_of a e wanted) wanted
    ≡ outcome_of (node_abstract overflow ty site (N.Unary op a)) e wanted
unfolding outcome_of tested_outcome
unary_is overflow ty site U.Plus a e wanted = refl
unary_is overflow ty site U.Minus a e wanted = refl
unary_is overflow ty site U.Not a e wanted = negated_is a e wanted
unary_is overflow ty site U.Invert a e wanted = refl

pub unary_marked : (overflow : Bool) (ty : IntType) (site : Option SiteId) (op : UnaryOp) (a : Abstract) (e : Env)
    → a.marks e ++ unary_marks site ty op overflow (a.side e).value ≡ (node_abstract overflow ty site (N.Unary op a)).marks e
unary_marked overflow ty site U.Plus a e = append-nil (a.marks e)
unary_marked overflow ty site U.Minus a e = refl
unary_marked overflow ty site U.Not a e = append-nil (a.marks e)
unary_marked overflow ty site U.Invert a e = refl

-- the right operand's outcome
abbrev right_of : BinaryOp → Abstract → Abstract → Env → Bool → Outcome
right_of op a b e wanted =
    outcome_of b (after (goes_on op) (outcome_of a e (is_some (goes_on op))) e) (is_some (goes_on op) && wanted)

and_is : (a b : Abstract) (e : Env) (wanted : Bool)
    → logic_outcome true (outcome_of a e true) (outcome_of b (a.narrowed true e) wanted) wanted ≡ outcome_of (logic_by true a b) e wanted
unfolding outcome_of logic_outcome
and_is a b e true = refl
and_is a b e false =
    let v = logic_value true (a.side e).value (b.side (a.narrowed true e)).value in
    ap (λ (x : Env). outcome (unnamed v) x None) (env_none (has_other v))

or_is : (a b : Abstract) (e : Env) (wanted : Bool)
    → logic_outcome false (outcome_of a e true) (outcome_of b (a.narrowed false e) wanted) wanted ≡ outcome_of (logic_by false a b) e wanted
unfolding outcome_of logic_outcome
or_is a b e true = refl
or_is a b e false =
    let v = logic_value false (a.side e).value (b.side (a.narrowed false e)).value in
    ap (λ (x : Env). outcome (unnamed v) None x) (env_none (has_zero v))

pub binary_is : (overflow : Bool) (ty : IntType) (site : Option SiteId) (op : BinaryOp) (a b : Abstract) (e : Env) (wanted : Bool)
    → form_outcome (form_of op) e ty overflow (outcome_of a e (is_some (goes_on op))) (right_of op a b e wanted) wanted
    ≡ outcome_of (node_abstract overflow ty site (N.Binary op a b)) e wanted
unfolding outcome_of tested_outcome
binary_is overflow ty site B.LogicOr a b e wanted = or_is a b e wanted
binary_is overflow ty site B.LogicAnd a b e wanted = and_is a b e wanted
binary_is overflow ty site B.Or a b e wanted = refl
binary_is overflow ty site B.Xor a b e wanted = refl
binary_is overflow ty site B.And a b e wanted = refl
binary_is overflow ty site B.Equal a b e wanted = refl
binary_is overflow ty site B.NotEqual a b e wanted = refl
binary_is overflow ty site B.Less a b e wanted = refl
binary_is overflow ty site B.Greater a b e wanted = refl
binary_is overflow ty site B.LessEq a b e wanted = refl
binary_is overflow ty site B.GreaterEq a b e wanted = refl
binary_is overflow ty site B.Shl a b e wanted = refl
binary_is overflow ty site B.Shr a b e wanted = refl
binary_is overflow ty site B.Add a b e wanted = refl
binary_is overflow ty site B.Sub a b e wanted = refl
binary_is overflow ty site B.Mul a b e wanted = refl
binary_is overflow ty site B.Div a b e wanted = refl
binary_is overflow ty site B.Rem a b e wanted = refl

pub binary_marked : (overflow : Bool) (ty : IntType) (site : Option SiteId) (op : BinaryOp) (a b : Abstract) (e : Env)
    → a.marks e ++ (b.marks (after (goes_on op) (outcome_of a e (is_some (goes_on op))) e)
    ++ form_marks (form_of op) site ty overflow (a.side e).value (outcome_of b (after (goes_on op) (outcome_of a e (is_some (goes_on op))) e) true).side.value)
    ≡ (node_abstract overflow ty site (N.Binary op a b)).marks e
unfolding outcome_of
binary_marked overflow ty site B.LogicOr a b e = ap (λ (ms : List SiteMark). a.marks e ++ ms) (append-nil (b.marks (a.narrowed false e)))
binary_marked overflow ty site B.LogicAnd a b e = ap (λ (ms : List SiteMark). a.marks e ++ ms) (append-nil (b.marks (a.narrowed true e)))
binary_marked overflow ty site B.Or a b e = refl
binary_marked overflow ty site B.Xor a b e = refl
binary_marked overflow ty site B.And a b e = refl
binary_marked overflow ty site B.Equal a b e = ap (λ (ms : List SiteMark). a.marks e ++ ms) (append-nil (b.marks e))
binary_marked overflow ty site B.NotEqual a b e = ap (λ (ms : List SiteMark). a.marks e ++ ms) (append-nil (b.marks e))
binary_marked overflow ty site B.Less a b e = ap (λ (ms : List SiteMark). a.marks e ++ ms) (append-nil (b.marks e))
binary_marked overflow ty site B.Greater a b e = ap (λ (ms : List SiteMark). a.marks e ++ ms) (append-nil (b.marks e))
binary_marked overflow ty site B.LessEq a b e = ap (λ (ms : List SiteMark). a.marks e ++ ms) (append-nil (b.marks e))
binary_marked overflow ty site B.GreaterEq a b e = ap (λ (ms : List SiteMark). a.marks e ++ ms) (append-nil (b.marks e))
binary_marked overflow ty site B.Shl a b e = refl
binary_marked overflow ty site B.Shr a b e = refl
binary_marked overflow ty site B.Add a b e = refl
binary_marked overflow ty site B.Sub a b e = refl
binary_marked overflow ty site B.Mul a b e = refl
binary_marked overflow ty site B.Div a b e = refl
binary_marked overflow ty site B.Rem a b e = refl

-- ---- results of the pass

-- an expression by its node
pub abstracted_at : (overflow : Bool) (e : Expr) (n : Node Expr (List Expr)) → (out-Expr e).node ≡ n
    → abstracted overflow e
    ≡ abstract_step overflow (map-Expr Expr Abstract (abstracted overflow) (record { ty = (out-Expr e).ty; site = (out-Expr e).site; node = n }))
unfolding abstracted
abstracted_at overflow e n is =
    fold_out-Expr Abstract (abstract_step overflow) e
    ∙ ap (λ (m : Node Expr (List Expr)). abstract_step overflow (map-Expr Expr Abstract (abstracted overflow) (record { ty = (out-Expr e).ty; site = (out-Expr e).site; node = m }))) is

module _ (overflow : Bool) (e : Expr) (env : Env) where
  pub outcome_at : {X : Type 0} (r : Result Outcome X) (wanted : Bool) (n : Node Expr (List Expr)) (o : Outcome) → (out-Expr e).node ≡ n
      → o ≡ outcome_of (abstract_step overflow (map-Expr Expr Abstract (abstracted overflow) (record { ty = (out-Expr e).ty; site = (out-Expr e).site; node = n }))) env wanted
      → IfOk r (λ x. x ≡ o) → IfOk r (λ x. x ≡ outcome_of (abstracted overflow e) env wanted)
  outcome_at (Ok x) wanted n o is same h = h ∙ same ∙ ap (λ (a : Abstract). outcome_of a env wanted) (sym (abstracted_at overflow e n is))
  outcome_at (Err x) wanted n o is same h = tt

  pub marks_at : {X Y : Type 0} (r : Result X Y) (new : X → List SiteMark) (old mid ms : List SiteMark) (n : Node Expr (List Expr))
      → (out-Expr e).node ≡ n
      → mid ++ ms
      ≡ old ++ (abstract_step overflow (map-Expr Expr Abstract (abstracted overflow) (record { ty = (out-Expr e).ty; site = (out-Expr e).site; node = n }))).marks env
      → IfOk r (λ x. new x ≡ mid ++ ms) → IfOk r (λ x. new x ≡ old ++ (abstracted overflow e).marks env)
  marks_at (Ok x) new old mid ms n is same h =
      h ∙ same ∙ ap (λ (a : Abstract). old ++ a.marks env) (sym (abstracted_at overflow e n is))
  marks_at (Err x) new old mid ms n is same h = tt

-- marks of one part after those of another
pub marks_after : (mid old one two whole : List SiteMark) → mid ≡ old ++ one → one ++ two ≡ whole → mid ++ two ≡ old ++ whole
marks_after mid old one two whole h same =
    ap (λ (ms : List SiteMark). ms ++ two) h ∙ append_assoc old one two ∙ ap (λ (ms : List SiteMark). old ++ ms) same

side_is : (o : Outcome) (a : Abstract) (e : Env) (wanted : Bool) → o ≡ outcome_of a e wanted → o.side ≡ a.side e
unfolding outcome_of
side_is o a e wanted h = ap (λ (o : Outcome). o.side) h

-- the value of an outcome
pub value_is : (o : Outcome) (a : Abstract) (e : Env) (wanted : Bool) → o ≡ outcome_of a e wanted → o.side.value ≡ (a.side e).value
value_is o a e wanted h = ap (λ (s : Side). s.value) (side_is o a e wanted h)

-- the cells that are left
pub yes_is : (o : Outcome) (a : Abstract) (e : Env) → o ≡ outcome_of a e true → o.yes ≡ a.narrowed true e
unfolding outcome_of
yes_is o a e h = ap (λ (o : Outcome). o.yes) h

pub no_is : (o : Outcome) (a : Abstract) (e : Env) → o ≡ outcome_of a e true → o.no ≡ a.narrowed false e
unfolding outcome_of
no_is o a e h = ap (λ (o : Outcome). o.no) h

pub cast_is : (overflow : Bool) (ty : IntType) (site : Option SiteId) (a : Abstract) (e : Env) (o : Outcome) (wanted : Bool)
    → o ≡ outcome_of a e false → cast_outcome e ty o.side wanted ≡ outcome_of (node_abstract overflow ty site (N.Cast a)) e wanted
unfolding outcome_of tested_outcome
cast_is overflow ty site a e o wanted h = ap (λ (s : Side). cast_outcome e ty s wanted) (side_is o a e false h)

pub assign_is : (overflow : Bool) (ty : IntType) (site : Option SiteId) (e : Env) (wanted : Bool) (a b : Abstract)
    → nothing_outcome e wanted ≡ outcome_of (node_abstract overflow ty site (N.Assign a b)) e wanted
unfolding outcome_of tested_outcome
assign_is overflow ty site e wanted a b = refl

pub call_is : (overflow : Bool) (ty : IntType) (site : Option SiteId) (e : Env) (wanted : Bool) (g : FnId) (es : List Abstract)
    → nothing_outcome e wanted ≡ outcome_of (node_abstract overflow ty site (N.Call g es)) e wanted
unfolding outcome_of tested_outcome
call_is overflow ty site e wanted g es = refl

pub choice_is : (overflow : Bool) (ty : IntType) (site : Option SiteId) (q a b : Abstract) (e : Env) (l m n : Outcome) (wanted : Bool)
    (f g : Env) → l ≡ outcome_of q e true → f ≡ l.yes → g ≡ l.no → m ≡ outcome_of a f false → n ≡ outcome_of b g false
    → choice_outcome e m.side.value n.side.value wanted ≡ outcome_of (node_abstract overflow ty site (N.Cond q a b)) e wanted
unfolding outcome_of tested_outcome
choice_is overflow ty site q a b e l m n wanted f g first is_yes is_no h k =
    let one = value_is m a f false h ∙ ap (λ (x : Env). (a.side x).value) (is_yes ∙ ap (λ (o : Outcome). o.yes) first) in
    let two = value_is n b g false k ∙ ap (λ (x : Env). (b.side x).value) (is_no ∙ ap (λ (o : Outcome). o.no) first) in
    ap (λ (v : Value). choice_outcome e v n.side.value wanted) one
    ∙ ap (λ (v : Value). choice_outcome e (a.side (q.narrowed true e)).value v wanted) two

pub binary_given : (overflow : Bool) (ty : IntType) (site : Option SiteId) (op : BinaryOp) (a b : Abstract) (e : Env) (wanted : Bool)
    (l r : Outcome) (f : Env) (logic goes : Bool) → logic ≡ is_some (goes_on op) → l ≡ outcome_of a e logic
    → f ≡ after (goes_on op) l e → goes ≡ (is_some (goes_on op) && wanted) → r ≡ outcome_of b f goes
    → form_outcome (form_of op) e ty overflow l r wanted ≡ outcome_of (node_abstract overflow ty site (N.Binary op a b)) e wanted
binary_given overflow ty site op a b e wanted l r f logic goes logic_is left after_is goes_is second =
    let first = left ∙ ap (λ (t : Bool). outcome_of a e t) logic_is in
    let env = after_is ∙ ap (λ (o : Outcome). after (goes_on op) o e) first in
    let right = second ∙ ap (λ (x : Env). outcome_of b x goes) env
    ∙ ap (λ (t : Bool). outcome_of b (after (goes_on op) (outcome_of a e (is_some (goes_on op))) e) t) goes_is in
    ap (λ (o : Outcome). form_outcome (form_of op) e ty overflow o r wanted) first
    ∙ ap (λ (o : Outcome). form_outcome (form_of op) e ty overflow (outcome_of a e (is_some (goes_on op))) o wanted) right
    ∙ binary_is overflow ty site op a b e wanted

pub binary_marks_given : (overflow : Bool) (ty : IntType) (site : Option SiteId) (op : BinaryOp) (a b : Abstract) (e : Env)
    (l r : Outcome) (f : Env) (logic goes : Bool) → logic ≡ is_some (goes_on op) → l ≡ outcome_of a e logic
    → f ≡ after (goes_on op) l e → r ≡ outcome_of b f goes
    → a.marks e ++ (b.marks f ++ form_marks (form_of op) site ty overflow l.side.value r.side.value)
    ≡ (node_abstract overflow ty site (N.Binary op a b)).marks e
unfolding outcome_of
binary_marks_given overflow ty site op a b e l r f logic goes logic_is left after_is second =
    let first = left ∙ ap (λ (t : Bool). outcome_of a e t) logic_is in
    let env = after_is ∙ ap (λ (o : Outcome). after (goes_on op) o e) first in
    ap (λ (v : Value). a.marks e ++ (b.marks f ++ form_marks (form_of op) site ty overflow v r.side.value))
    (value_is l a e (is_some (goes_on op)) first)
    ∙ ap (λ (v : Value). a.marks e ++ (b.marks f ++ form_marks (form_of op) site ty overflow (a.side e).value v)) (value_is r b f goes second)
    ∙ ap (λ (x : Env). a.marks e ++ (b.marks x ++ form_marks (form_of op) site ty overflow (a.side e).value (b.side x).value)) env
    ∙ binary_marked overflow ty site op a b e

pub element_given : (overflow : Bool) (ty : IntType) (site : Option SiteId) (first n : ℕ) (a : Abstract) (checked : Bool) (e : Env)
    (o : Outcome) (wanted : Bool) → o ≡ outcome_of a e false
    → element_outcome e first n o.side.value wanted ≡ outcome_of (node_abstract overflow ty site (N.Element first n a checked)) e wanted
element_given overflow ty site first n a checked e o wanted h =
    ap (λ (v : Value). element_outcome e first n v wanted) (value_is o a e false h) ∙ element_is overflow ty site first n a checked e wanted

pub element_marks_given : (overflow : Bool) (ty : IntType) (site : Option SiteId) (first n : ℕ) (a : Abstract) (checked : Bool) (e : Env)
    (o : Outcome) → o ≡ outcome_of a e false
    → a.marks e ++ element_marks e site first n checked o.side.value
    ≡ (node_abstract overflow ty site (N.Element first n a checked)).marks e
element_marks_given overflow ty site first n a checked e o h =
    ap (λ (v : Value). a.marks e ++ element_marks e site first n checked v) (value_is o a e false h)

pub unary_given : (overflow : Bool) (ty : IntType) (site : Option SiteId) (op : UnaryOp) (a : Abstract) (e : Env) (o : Outcome)
    (wanted : Bool) → o ≡ outcome_of a e wanted
    → unary_outcome e ty op overflow o wanted ≡ outcome_of (node_abstract overflow ty site (N.Unary op a)) e wanted
unary_given overflow ty site op a e o wanted h =
    ap (λ (x : Outcome). unary_outcome e ty op overflow x wanted) h ∙ unary_is overflow ty site op a e wanted

pub unary_marks_given : (overflow : Bool) (ty : IntType) (site : Option SiteId) (op : UnaryOp) (a : Abstract) (e : Env) (o : Outcome)
    (wanted : Bool) → o ≡ outcome_of a e wanted
    → a.marks e ++ unary_marks site ty op overflow o.side.value ≡ (node_abstract overflow ty site (N.Unary op a)).marks e
unary_marks_given overflow ty site op a e o wanted h =
    ap (λ (v : Value). a.marks e ++ unary_marks site ty op overflow v) (value_is o a e wanted h)
    ∙ unary_marked overflow ty site op a e

-- the marks of three parts one after the other
pub three_after : (old m1 m2 m3 one two three whole : List SiteMark) → m1 ≡ old ++ one → m2 ≡ m1 ++ two → m3 ≡ m2 ++ three
    → one ++ (two ++ three) ≡ whole → m3 ≡ old ++ whole
three_after old m1 m2 m3 one two three whole a b c same =
    c ∙ marks_after m2 m1 two three (two ++ three) b refl ∙ marks_after m1 old one (two ++ three) whole a same

-- of a part whose value names no marks of its own
pub choice_marks_given : (overflow : Bool) (ty : IntType) (site : Option SiteId) (q a b : Abstract) (e : Env) (l : Outcome) (f g : Env)
    → l ≡ outcome_of q e true → f ≡ l.yes → g ≡ l.no
    → q.marks e ++ (a.marks f ++ b.marks g) ≡ (node_abstract overflow ty site (N.Cond q a b)).marks e
unfolding outcome_of
choice_marks_given overflow ty site q a b e l f g first is_yes is_no =
    ap (λ (x : Env). q.marks e ++ (a.marks x ++ b.marks g)) (is_yes ∙ ap (λ (o : Outcome). o.yes) first)
    ∙ ap (λ (x : Env). q.marks e ++ (a.marks (q.narrowed true e) ++ b.marks x)) (is_no ∙ ap (λ (o : Outcome). o.no) first)

module _ (overflow : Bool) (e : Expr) (env : Env) where
  pub marks_are : {X Y : Type 0} (r : Result X Y) (new old : List SiteMark) (n : Node Expr (List Expr)) → (out-Expr e).node ≡ n
      → new
      ≡ old ++ (abstract_step overflow (map-Expr Expr Abstract (abstracted overflow) (record { ty = (out-Expr e).ty; site = (out-Expr e).site; node = n }))).marks env
      → IfOk r (λ x. new ≡ old ++ (abstracted overflow e).marks env)
  marks_are (Ok x) new old n is same = same ∙ ap (λ (a : Abstract). old ++ a.marks env) (sym (abstracted_at overflow e n is))
  marks_are (Err x) new old n is same = tt

-- ---- the pass, by the node

module _ (overflow : Bool) (e : Expr) (env : Env) (wanted : Bool) {X : Type 0} (r : Result Outcome X) where
  -- what is to be shown
  abbrev pub IsPassed : Type 0
  IsPassed = IfOk r (λ x. x ≡ outcome_of (abstracted overflow e) env wanted)

  abbrev ty : IntType
  ty = (out-Expr e).ty

  abbrev site : Option SiteId
  site = (out-Expr e).site

  pub literal_at : (v : ℤ) → (out-Expr e).node ≡ N.Literal v
      → IfOk r (λ x. x ≡ compared_outcome env (unnamed (constant_in env v)) wanted) → IsPassed
  literal_at v is h = outcome_at overflow e env r wanted (N.Literal v) _ is (constant_is overflow ty site v env wanted) h

  pub object_at : (x : ℕ) (checked : Bool) → (out-Expr e).node ≡ N.Cell x checked
      → IfOk r (λ o. o ≡ object_outcome env x wanted) → IsPassed
  object_at x checked is h =
      outcome_at overflow e env r wanted (N.Cell x checked) (object_outcome env x wanted) is
      (object_is overflow ty site x checked env wanted) h

  pub call_at : (g : FnId) (es : List Expr) → (out-Expr e).node ≡ N.Call g es → IfOk r (λ o. o ≡ nothing_outcome env wanted)
      → IsPassed
  call_at g es is h =
      outcome_at overflow e env r wanted (N.Call g es) (nothing_outcome env wanted) is
      (call_is overflow ty site env wanted g (map (abstracted overflow) es)) h

  pub assign_at : (a b : Expr) → (out-Expr e).node ≡ N.Assign a b → IfOk r (λ o. o ≡ nothing_outcome env wanted) → IsPassed
  assign_at a b is h =
      outcome_at overflow e env r wanted (N.Assign a b) (nothing_outcome env wanted) is
      (assign_is overflow ty site env wanted (abstracted overflow a) (abstracted overflow b)) h

  -- an operand is what was passed over, x
  pub element_at : (first n : ℕ) (i x : Expr) (checked : Bool) (o : Outcome) → (out-Expr e).node ≡ N.Element first n i checked
      → x ≡ i → o ≡ outcome_of (abstracted overflow x) env false
      → IfOk r (λ y. y ≡ element_outcome env first n o.side.value wanted) → IsPassed
  element_at first n i x checked o is same h given =
      outcome_at overflow e env r wanted (N.Element first n i checked) (element_outcome env first n o.side.value wanted) is
      (element_given overflow ty site first n (abstracted overflow i) checked env o wanted
      (h ∙ ap (λ (z : Expr). outcome_of (abstracted overflow z) env false) same)) given

  pub unary_at : (op : UnaryOp) (a x : Expr) (o : Outcome) → (out-Expr e).node ≡ N.Unary op a → x ≡ a
      → o ≡ outcome_of (abstracted overflow x) env wanted → IfOk r (λ y. y ≡ unary_outcome env ty op overflow o wanted) → IsPassed
  unary_at op a x o is same h given =
      outcome_at overflow e env r wanted (N.Unary op a) (unary_outcome env ty op overflow o wanted) is
      (unary_given overflow ty site op (abstracted overflow a) env o wanted
      (h ∙ ap (λ (z : Expr). outcome_of (abstracted overflow z) env wanted) same)) given

  pub cast_at : (a x : Expr) (o : Outcome) → (out-Expr e).node ≡ N.Cast a → x ≡ a → o ≡ outcome_of (abstracted overflow x) env false
      → IfOk r (λ y. y ≡ cast_outcome env ty o.side wanted) → IsPassed
  cast_at a x o is same h given =
      outcome_at overflow e env r wanted (N.Cast a) (cast_outcome env ty o.side wanted) is
      (cast_is overflow ty site (abstracted overflow a) env o wanted
      (h ∙ ap (λ (z : Expr). outcome_of (abstracted overflow z) env false) same)) given

  pub binary_at : (op : BinaryOp) (a b x y : Expr) (l m : Outcome) (f : Env) (logic goes : Bool) → (out-Expr e).node ≡ N.Binary op a b
      → x ≡ a → y ≡ b → logic ≡ is_some (goes_on op) → l ≡ outcome_of (abstracted overflow x) env logic
      → f ≡ after (goes_on op) l env → goes ≡ (is_some (goes_on op) && wanted) → m ≡ outcome_of (abstracted overflow y) f goes
      → IfOk r (λ z. z ≡ form_outcome (form_of op) env ty overflow l m wanted) → IsPassed
  binary_at op a b x y l m f logic goes is same same' logic_is left f_is goes_is right given =
      outcome_at overflow e env r wanted (N.Binary op a b) (form_outcome (form_of op) env ty overflow l m wanted) is
      (binary_given overflow ty site op (abstracted overflow a) (abstracted overflow b) env wanted l m f logic goes logic_is
      (left ∙ ap (λ (z : Expr). outcome_of (abstracted overflow z) env logic) same) f_is goes_is
      (right ∙ ap (λ (z : Expr). outcome_of (abstracted overflow z) f goes) same')) given

  pub choice_at : (q a b u x y : Expr) (l m n : Outcome) (f g : Env) → (out-Expr e).node ≡ N.Cond q a b → u ≡ q → x ≡ a → y ≡ b
      → l ≡ outcome_of (abstracted overflow u) env true → f ≡ l.yes → g ≡ l.no
      → m ≡ outcome_of (abstracted overflow x) f false → n ≡ outcome_of (abstracted overflow y) g false
      → IfOk r (λ z. z ≡ choice_outcome env m.side.value n.side.value wanted) → IsPassed
  choice_at q a b u x y l m n f g is same_q same_a same_b first is_yes is_no one two given =
      outcome_at overflow e env r wanted (N.Cond q a b) (choice_outcome env m.side.value n.side.value wanted) is
      (choice_is overflow ty site (abstracted overflow q) (abstracted overflow a) (abstracted overflow b) env l m n wanted f g
      (first ∙ ap (λ (z : Expr). outcome_of (abstracted overflow z) env true) same_q) is_yes is_no
      (one ∙ ap (λ (z : Expr). outcome_of (abstracted overflow z) f false) same_a)
      (two ∙ ap (λ (z : Expr). outcome_of (abstracted overflow z) g false) same_b)) given

module _ (overflow : Bool) (e : Expr) (env : Env) {X Y : Type 0} (r : Result X Y) (old new : List SiteMark) where
  -- the marks are added
  abbrev pub IsMarked : Type 0
  IsMarked = IfOk r (λ x. new ≡ old ++ (abstracted overflow e).marks env)

  abbrev ty' : IntType
  ty' = (out-Expr e).ty

  abbrev site' : Option SiteId
  site' = (out-Expr e).site

  given_marks : (mid ms : List SiteMark) (n : Node Expr (List Expr)) → (out-Expr e).node ≡ n
      → mid ++ ms
      ≡ old ++ (abstract_step overflow (map-Expr Expr Abstract (abstracted overflow) (record { ty = (out-Expr e).ty; site = (out-Expr e).site; node = n }))).marks env
      → IfOk r (λ x. new ≡ mid ++ ms) → IsMarked
  given_marks mid ms n is same h = marks_at overflow e env r (λ x. new) old mid ms n is same h

  pub element_marked_at : (first n : ℕ) (i x : Expr) (checked : Bool) (o : Outcome) (mid : List SiteMark)
      → (out-Expr e).node ≡ N.Element first n i checked → x ≡ i → o ≡ outcome_of (abstracted overflow x) env false
      → mid ≡ old ++ (abstracted overflow x).marks env
      → IfOk r (λ y. new ≡ mid ++ element_marks env site' first n checked o.side.value) → IsMarked
  element_marked_at first n i x checked o mid is same h marks given =
      given_marks mid (element_marks env site' first n checked o.side.value) (N.Element first n i checked) is
      (marks_after mid old ((abstracted overflow i).marks env) _ _
      (marks ∙ ap (λ (z : Expr). old ++ (abstracted overflow z).marks env) same)
      (element_marks_given overflow ty' site' first n (abstracted overflow i) checked env o
      (h ∙ ap (λ (z : Expr). outcome_of (abstracted overflow z) env false) same))) given

  pub unary_marked_at : (op : UnaryOp) (a x : Expr) (o : Outcome) (wanted : Bool) (mid : List SiteMark) → (out-Expr e).node ≡ N.Unary op a
      → x ≡ a → o ≡ outcome_of (abstracted overflow x) env wanted → mid ≡ old ++ (abstracted overflow x).marks env
      → IfOk r (λ y. new ≡ mid ++ unary_marks site' ty' op overflow o.side.value) → IsMarked
  unary_marked_at op a x o wanted mid is same h marks given =
      given_marks mid (unary_marks site' ty' op overflow o.side.value) (N.Unary op a) is
      (marks_after mid old ((abstracted overflow a).marks env) _ _
      (marks ∙ ap (λ (z : Expr). old ++ (abstracted overflow z).marks env) same)
      (unary_marks_given overflow ty' site' op (abstracted overflow a) env o wanted
      (h ∙ ap (λ (z : Expr). outcome_of (abstracted overflow z) env wanted) same))) given

  pub binary_marked_at : (op : BinaryOp) (a b x y : Expr) (l m : Outcome) (f : Env) (logic goes : Bool) (one two : List SiteMark)
      → (out-Expr e).node ≡ N.Binary op a b → x ≡ a → y ≡ b → logic ≡ is_some (goes_on op)
      → l ≡ outcome_of (abstracted overflow x) env logic → f ≡ after (goes_on op) l env
      → m ≡ outcome_of (abstracted overflow y) f goes → one ≡ old ++ (abstracted overflow x).marks env
      → two ≡ one ++ (abstracted overflow y).marks f
      → IfOk r (λ z. new ≡ two ++ form_marks (form_of op) site' ty' overflow l.side.value m.side.value) → IsMarked
  binary_marked_at op a b x y l m f logic goes one two is same same' logic_is left f_is right marks marks' given =
      let ms = form_marks (form_of op) site' ty' overflow l.side.value m.side.value in
      given_marks two ms (N.Binary op a b) is
      (marks_after two one ((abstracted overflow b).marks f) ms ((abstracted overflow b).marks f ++ ms)
      (marks' ∙ ap (λ (z : Expr). one ++ (abstracted overflow z).marks f) same') refl
      ∙ marks_after one old ((abstracted overflow a).marks env) _ _
      (marks ∙ ap (λ (z : Expr). old ++ (abstracted overflow z).marks env) same)
      (binary_marks_given overflow ty' site' op (abstracted overflow a) (abstracted overflow b) env l m f logic goes logic_is
      (left ∙ ap (λ (z : Expr). outcome_of (abstracted overflow z) env logic) same) f_is
      (right ∙ ap (λ (z : Expr). outcome_of (abstracted overflow z) f goes) same'))) given

  pub choice_marked_at : (q a b u x y : Expr) (l : Outcome) (f g : Env) (one two : List SiteMark) → (out-Expr e).node ≡ N.Cond q a b
      → u ≡ q → x ≡ a → y ≡ b → l ≡ outcome_of (abstracted overflow u) env true → f ≡ l.yes → g ≡ l.no
      → one ≡ old ++ (abstracted overflow u).marks env → two ≡ one ++ (abstracted overflow x).marks f
      → new ≡ two ++ (abstracted overflow y).marks g → IsMarked
  choice_marked_at q a b u x y l f g one two is same_q same_a same_b first is_yes is_no m1 m2 m3 =
      marks_are overflow e env r new old (N.Cond q a b) is
      (three_after old one two new _ _ _ _ (m1 ∙ ap (λ (z : Expr). old ++ (abstracted overflow z).marks env) same_q)
      (m2 ∙ ap (λ (z : Expr). one ++ (abstracted overflow z).marks f) same_a)
      (m3 ∙ ap (λ (z : Expr). two ++ (abstracted overflow z).marks g) same_b)
      (choice_marks_given overflow ty' site' (abstracted overflow q) (abstracted overflow a) (abstracted overflow b) env l f g
      (first ∙ ap (λ (z : Expr). outcome_of (abstracted overflow z) env true) same_q) is_yes is_no))
