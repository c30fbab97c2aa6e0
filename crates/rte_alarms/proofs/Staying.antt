-- Checks that are made are open, or passed: where the ranges decide a check, it is passed by all numbers in
-- them.
use Rattle.std.proofs.Common.{◌≡◌, ◌∙◌, inl, ℕ, ℤ, zero, suc, pos, negsuc, ◌-ℤ◌, ◌≤ℤ◌, int_le, int_lt, Bool, true, false, not, ◌&&◌, ◌||◌, List, ◌++◌, Option, Some, None, is_some, refl, sym, subst, arith}
use Rattle.std.proofs.lemmas.Bool.{and_parts, and_from, true≢false, cond_both}
use Rattle.std.proofs.lemmas.Int.{ints}
use Rattle.by_key.specs.declared.lists.Keyed.{Keyed}
use Rattle.fc_base.specs.declared.ids.SiteId.{SiteId}
use Rattle.fc_base.specs.declared.syntax.BinaryOp.{BinaryOp}
use Rattle.fc_base.specs.declared.syntax.UnaryOp.{UnaryOp}
use Rattle.fc_base.specs.declared.syntax.UnaryOp.TheVariants as U
use Rattle.machine_ints.specs.Convert.{bool_of}
use Rattle.machine_ints.specs.Decided.{IsAmong}
use Rattle.machine_ints.specs.Operators.{IsWithin, Passes, exact_unary, first_check, second_check, unary_check, is_visited, value_of, unary_value, shl_of}
use Rattle.machine_ints.specs.declared.decided.Ends.{Ends}
use Rattle.machine_ints.specs.declared.operators.Check.{Check as Test}
use Rattle.machine_ints.specs.declared.operators.Check.TheVariants.{Division, Overflow, Shift}
use Rattle.machine_ints.specs.declared.operators.Operator.{Operator}
use Rattle.machine_ints.specs.declared.operators.Operator.TheVariants as O
use Rattle.machine_ints.specs.declared.operators.UnaryOperator.{UnaryOperator}
use Rattle.machine_ints.specs.declared.operators.UnaryOperator.TheVariants.{Negate}
use Rattle.machine_ints.specs.inner.Decided.{ends_pass, unary_ends_fit}
use Rattle.machine_ints.proofs.ByEnds.{ends_decide, unary_ends_decide}
use Rattle.machine_ints.proofs.Conversions.{range_of_type, wrap_same}
use Rattle.c_ir.specs.Sited.{alarm_number}
use Rattle.c_ir.specs.Types.{least, greatest, width, same_type}
use Rattle.c_ir.specs.declared.kind.AlarmKind.{AlarmKind}
use Rattle.c_ir.specs.declared.kind.AlarmKind.TheVariants as A
use Rattle.c_ir.specs.declared.ty.IntType.{IntType}
use Rattle.c_ir.specs.declared.ty.IntType.TheVariants as T
use Rattle.c_rules.specs.Constants.{is_among, is_number, equals, is_zero, brought, converted, passes_overflow, passes}
use Rattle.c_rules.proofs.Evaluations.{is_type}
use Rattle.c_rules.proofs.Formed.{same_is}
use Rattle.c_runs.specs.Visits.{Check, Visit, visit}
use Rattle.c_runs.specs.Evaluation.{Course, gives, on_value, and_then, ends_run, going_on, checked_at, checked_if, alarm_of, tested, operated, unary_tested, unary, binary_by, is_index, read, element}
use Rattle.c_runs.specs.Parts.{Has, IsOf}
use Rattle.c_runs.proofs.OperatorValues.{converted_is}
use Rattle.prop_table.proofs.Lists.{Each, each_append}
use Rattle.prop_runs.proofs.Standing.{has_left, has_right}
use Rattle.rte_alarms.specs.Ranges.{ends, type_ends, is_inside, converted_ends, open_if, open_test, open_operator, open_unary_test, open_unary, open_read, open_index}

-- ---- visits of open checks

abbrev pub keyed : ℕ → ℕ → Keyed
keyed n k = record { key = n; number = k }

-- if the visit is a false one of a check, this is among the open ones
abbrev pub Stays : List Keyed → Visit → Type 0
Stays all v =
    (n : ℕ) (a : AlarmKind) → v.named ≡ Check n a → v.holds ≡ false → Has all (keyed n (alarm_number a))

abbrev pub AllStay : List Keyed → List Visit → Type 0
AllStay all vs = Each (Stays all) vs

abbrev pub Within : List Keyed → List Keyed → Type 0
Within xs all = (m : Keyed) → Has xs m → Has all m

pub left : (xs ys all : List Keyed) → Within (xs ++ ys) all → Within xs all
left xs ys all within m h = within m (has_left xs ys m h)

pub right : (xs ys all : List Keyed) → Within (xs ++ ys) all → Within ys all
right xs ys all within m h = within m (has_right xs ys m h)

same_site : (n m : ℕ) (a b : AlarmKind) → Check n a ≡ Check m b → n ≡ m
same_site n m a b is = cc

same_kind : (n m : ℕ) (a b : AlarmKind) → Check n a ≡ Check m b → a ≡ b
same_kind n m a b is = cc

-- ---- courses

module _ {A B : Type 0} (P : Visit → Type 0) where
  on_value_stays : (o : Option A) (f : A → Course B) → ((a : A) → o ≡ Some a → Each P (f a).visits)
      → Each P (on_value o f).visits
  on_value_stays None f h = tt
  on_value_stays (Some a) f h = h a refl

  pub then_stays : (c : Course A) (f : A → Course B) → Each P c.visits
      → ((a : A) → c.value ≡ Some a → Each P (f a).visits) → Each P (and_then c f).visits
  then_stays c f h more =
      each_append P c.visits (on_value c.value f).visits h (on_value_stays c.value f more)

module _ {A : Type 0} (all : List Keyed) where
  going_stays : (b : Bool) (rest : Course A) → AllStay all rest.visits → AllStay all (going_on b rest).visits
  going_stays true rest h = h
  going_stays false rest h = tt

-- a check that is decided is passed, and any other is open
visit_stays : (all : List Keyed) (decides : Bool) (n : SiteId) (kind : AlarmKind) (passed : Bool)
    → (decides ≡ true → passed ≡ true) → Within (open_if decides (Some n) kind) all
    → Stays all (visit (Check n.0 kind) passed)
visit_stays all true n kind passed h within m a named fails = absurd (true≢false (sym (h refl) ∙ fails))
visit_stays all false n kind passed h within m a named fails =
    subst (λ (k : ℕ). Has all (keyed k (alarm_number a))) (same_site n.0 m kind a named)
    (subst (λ (b : AlarmKind). Has all (keyed n.0 (alarm_number b))) (same_kind n.0 m kind a named)
    (within (keyed n.0 (alarm_number kind)) (inl refl)))

pub checked_stays : {A : Type 0} (all : List Keyed) (decides : Bool) (site : Option SiteId) (kind : AlarmKind)
    (passed : Bool) (rest : Course A)
    → (decides ≡ true → passed ≡ true) → Within (open_if decides site kind) all → AllStay all rest.visits
    → AllStay all (checked_at site kind passed rest).visits
checked_stays all decides None kind passed rest h within more = more
checked_stays all decides (Some n) kind passed rest h within more = (
  visit_stays all decides n kind passed h within,
  going_stays all
      (passed || not (ends_run kind)) rest more,
)

pub checked_if_stays : {A : Type 0} (all : List Keyed) (decides made : Bool) (site : Option SiteId)
    (kind : AlarmKind) (passed : Bool) (rest : Course A)
    → (decides ≡ true → made ≡ true → passed ≡ true) → Within (open_if decides site kind) all
    → AllStay all rest.visits → AllStay all (checked_if made site kind passed rest).visits
checked_if_stays all decides true site kind passed rest h within more =
    checked_stays all decides site kind passed rest (λ d. h d refl) within more
checked_if_stays all decides false site kind passed rest h within more = more

-- ---- tests

lacks : (b : Bool) → not b ≡ true → b ≡ true → ⊥
lacks true e f = true≢false (sym e)
lacks false e f = true≢false (sym f)

not_from : (b : Bool) → (b ≡ true → ⊥) → not b ≡ true
not_from true n = absurd (n refl)
not_from false n = refl

implied : (a b : Bool) → (not a || b) ≡ true → a ≡ true → b ≡ true
implied true b h is = h
implied false b h is = absurd (true≢false (sym is))

among_true : (lo hi z : ℤ) → IsWithin lo hi z → is_among lo hi z ≡ true
among_true lo hi z (l, h) =
    and_from (int_le lo z) (int_le z hi) (sym (omega (arith, ints))) (sym (omega (arith, ints)))

true_equals : (x y : ℤ) → equals x y ≡ true → x ≡ y
true_equals x y t =
    let p = and_parts (int_le x y) (int_le y x) t in
    let l = p.0 in
    let h = p.1 in
    omega (arith, ints)

overflow_true : (op : Operator) (lo hi : ℤ) (w : ℕ) (x y : ℤ) → Passes Overflow op lo hi w x y
    → passes_overflow op lo hi x y ≡ true
overflow_true O.Add lo hi w x y p = among_true lo hi _ p
overflow_true O.Sub lo hi w x y p = among_true lo hi _ p
overflow_true O.Mul lo hi w x y p = among_true lo hi _ p
overflow_true O.Div lo hi w x y p =
    not_from (equals x lo && equals y (negsuc 0)) (λ e.
    let u = and_parts (equals x lo) (equals y (negsuc 0)) e in
    p (true_equals x lo u.0) (true_equals y (negsuc 0) u.1))
overflow_true O.Rem lo hi w x y p =
    not_from (equals x lo && equals y (negsuc 0)) (λ e.
    let u = and_parts (equals x lo) (equals y (negsuc 0)) e in
    p (true_equals x lo u.0) (true_equals y (negsuc 0) u.1))
overflow_true O.Shl lo hi w x y p =
    let l = p.0 in
    let h = p.1 in
    and_from (int_le (pos 0) x) (int_le (shl_of x y) hi) (sym (omega (arith, ints)))
    (sym (omega (arith, ints)))
overflow_true O.Shr lo hi w x y p = refl
overflow_true O.And lo hi w x y p = refl
overflow_true O.Or lo hi w x y p = refl
overflow_true O.Xor lo hi w x y p = refl

passes_true : (t : Test) (op : Operator) (lo hi : ℤ) (w : ℕ) (x y : ℤ) → Passes t op lo hi w x y
    → passes t op lo hi w x y ≡ true
passes_true Division op lo hi w x y p = not_from (is_zero y) (λ e. p (true_equals y (pos 0) e))
passes_true Overflow op lo hi w x y p = overflow_true op lo hi w x y p
passes_true Shift op lo hi w x y p =
    let l = p.0 in
    let h = p.1 in
    and_from (int_le (pos 0) y) (int_lt y (pos w)) (sym (omega (arith, ints))) (sym (omega (arith, ints)))

-- a check that some runs make
made_if : (lo : ℤ) (overflow : Bool) (t : Test) → is_visited lo overflow t ≡ true → is_visited lo true t
    ≡ true
made_if lo overflow Division is = refl
made_if lo overflow Overflow is = and_from (int_lt lo (pos 0)) true
    (and_parts (int_lt lo (pos 0)) overflow is).0 refl
made_if lo overflow Shift is = refl

ordered : (a : Ends) (x : ℤ) → IsAmong a x → a.lo ≤ℤ a.hi
ordered a x i =
    let l = i.0 in
    let h = i.1 in
    omega (arith, ints)

-- ---- operators

module _ (all : List Keyed) (overflow : Bool) (site : Option SiteId) (ty : IntType) where
  test_decided : (op : Operator) (a b : Ends) (x y : ℤ) (t : Test) → IsAmong a x → IsAmong b y
      → (not (is_visited (least ty) true t) || ends_pass t op (type_ends ty) (width ty) a b) ≡ true
      → is_visited (least ty) overflow t ≡ true
      → passes t op (least ty) (pos (greatest ty)) (width ty) x y ≡ true
  test_decided op a b x y t i j decides made =
      let fits = implied (is_visited (least ty) true t) (ends_pass t op (type_ends ty) (width ty) a b) decides
      (made_if (least ty) overflow t made) in
      let decide = ends_decide (type_ends ty) (width ty) (is_type ty) a b (ordered a x i)
      (ordered b y j) t op in
      passes_true t op (least ty) (pos (greatest ty)) (width ty) x y (decide.0 fits x y i j)

  tested_stays : (op : Operator) (a b : Ends) (x y : ℤ) (o : Option Test) (rest : Course ℤ)
      → IsAmong a x → IsAmong b y → Within (open_test site ty op a b o) all → AllStay all rest.visits
      → AllStay all (tested overflow site ty op x y o rest).visits
  tested_stays op a b x y None rest i j within more = more
  tested_stays op a b x y (Some t) rest i j within more =
      checked_if_stays all
      (not (is_visited (least ty) true t) || ends_pass t op (type_ends ty) (width ty) a b)
      (is_visited (least ty) overflow t) site (alarm_of t)
      (passes t op (least ty) (pos (greatest ty)) (width ty) x y) rest
      (test_decided op a b x y t i j) within more

  operated_stays : (op : Operator) (a b : Ends) (x y : ℤ) → IsAmong a x → IsAmong b y
      → Within (open_operator site ty a b (Some op)) all
      → AllStay all (operated overflow site ty op x y).visits
  operated_stays op a b x y i j within =
      let first = open_test site ty op a b (first_check op) in
      let second = open_test site ty op a b (second_check op) in
      let last = gives (value_of op (least ty) (width ty) x y) in
      tested_stays op a b x y (first_check op) (tested overflow site ty op x y (second_check op) last) i j
      (left first second all within)
      (tested_stays op a b x y (second_check op) last i j (right first second all within) tt)

  -- the operator of two operands, by what it is in machine_ints
  pub binary_stays : (op : BinaryOp) (o : Option Operator) (a b : Ends) (x y : ℤ) → IsAmong a x → IsAmong b y
      → Within (open_operator site ty a b o) all → AllStay all (binary_by o overflow site ty op x y).visits
  binary_stays op None a b x y i j within = tt
  binary_stays op (Some o) a b x y i j within = operated_stays o a b x y i j within

  unary_decided : (op : UnaryOperator) (a : Ends) (x : ℤ) (t : Test) → IsAmong a x
      → (not (is_visited (least ty) true t) || unary_ends_fit op (type_ends ty) a) ≡ true
      → is_visited (least ty) overflow t ≡ true → is_number ty (exact_unary op x) ≡ true
  unary_decided op a x t i decides made =
      let fits = implied (is_visited (least ty) true t) (unary_ends_fit op (type_ends ty) a) decides
      (made_if (least ty) overflow t made) in
      let decide = unary_ends_decide (type_ends ty) (width ty) (is_type ty) op a (ordered a x i) in
      among_true (least ty) (pos (greatest ty)) (exact_unary op x) (decide.0 fits x i)

  unary_tested_stays : (op : UnaryOperator) (a : Ends) (x : ℤ) (o : Option Test) (rest : Course ℤ)
      → IsAmong a x → Within (open_unary_test site ty op a o) all → AllStay all rest.visits
      → AllStay all (unary_tested overflow site ty op x o rest).visits
  unary_tested_stays op a x None rest i within more = more
  unary_tested_stays op a x (Some t) rest i within more =
      checked_if_stays all (not (is_visited (least ty) true t) || unary_ends_fit op (type_ends ty) a)
      (is_visited (least ty) overflow t) site (alarm_of t) (is_number ty (exact_unary op x)) rest
      (unary_decided op a x t i) within more

  pub unary_stays : (op : UnaryOp) (a : Ends) (x : ℤ) → IsAmong a x → Within (open_unary site ty op a) all
      → AllStay all (unary overflow site ty op x).visits
  unary_stays U.Plus a x i within = tt
  unary_stays U.Minus a x i within =
      unary_tested_stays Negate a x (unary_check Negate)
      (gives (unary_value Negate (least ty) (width ty) x)) i within tt
  unary_stays U.Not a x i within = tt
  unary_stays U.Invert a x i within = tt

-- ---- objects

pub read_stays : (all : List Keyed) (site : Option SiteId) (checked : Bool) (has : Option ℤ)
    → Within (open_read site checked) all → AllStay all (read site checked has).visits
read_stays all site checked has within =
    checked_if_stays all (not checked) checked site A.Initialization (is_some has) _
    (λ decides made. absurd (lacks checked decides made)) within tt

index_decided : (n : ℕ) (a : Ends) (k : ℤ) → IsAmong a k → is_inside a (ends (pos 0) (pos n -ℤ pos 1)) ≡ true
    → is_index n k ≡ true
index_decided n a k i inside =
    let u = and_parts (int_le (pos 0) a.lo) (int_le a.hi (pos n -ℤ pos 1)) inside in
    let l = u.0 in
    let h = u.1 in
    let p = i.0 in
    let q = i.1 in
    and_from (int_le (pos 0) k) (int_lt k (pos n)) (sym (omega (arith, ints))) (sym (omega (arith, ints)))

pub element_stays : (all : List Keyed) (site : Option SiteId) (first n : ℕ) (a : Ends) (k : ℤ) → IsAmong a k
    → Within (open_index site n a) all → AllStay all (element site first n k).visits
element_stays all site first n a k i within =
    checked_stays all (is_inside a (ends (pos 0) (pos n -ℤ pos 1))) site A.IndexBound (is_index n k) _
    (index_decided n a k i) within tt

-- ---- conversions

bool_same : (x : ℤ) → IsOf T.Bool x → bool_of x ≡ x
bool_same (pos zero) i = refl
bool_same (pos (suc n)) i =
    let h = i.1 in
    omega (arith, ints)
bool_same (negsuc n) i =
    let l = i.0 in
    absurd (omega (arith, ints))

-- a number of the type stays
converted_same : (ty : IntType) (x : ℤ) → IsOf ty x → converted ty x ≡ x
converted_same ty x i =
    cond_both (same_type ty T.Bool) (bool_of x) (brought ty x) (λ (v : ℤ). v ≡ x)
    (λ same. bool_same x (subst (λ (t : IntType). IsOf t x) (same_is ty T.Bool same) i))
    (λ other. wrap_same (least ty) (pos (greatest ty)) (width ty) x
    (range_of_type (least ty) (pos (greatest ty)) (width ty) (is_type ty)).span i.0 i.1)

inside_of : (ty : IntType) (a : Ends) (x : ℤ) → IsAmong a x → is_inside a (type_ends ty) ≡ true → IsOf ty x
inside_of ty a x i inside =
    let u = and_parts (int_le (least ty) a.lo) (int_le a.hi (pos (greatest ty))) inside in
    let l = u.0 in
    let h = u.1 in
    let p = i.0 in
    let q = i.1 in
    (omega (arith, ints), omega (arith, ints))

pub converted_among : (ty : IntType) (a : Ends) (x : ℤ) → IsAmong a x
    → IsAmong (converted_ends ty a) (converted ty x)
converted_among ty a x i =
    cond_both (is_inside a (type_ends ty)) a (type_ends ty) (λ (e : Ends). IsAmong e (converted ty x))
    (λ inside. subst (λ (z : ℤ). IsAmong a z) (sym (converted_same ty x (inside_of ty a x i inside))) i)
    (λ other. converted_is ty x)
