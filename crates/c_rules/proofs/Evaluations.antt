-- Values of constant expressions: their bounds, and that the code's tests are the checks.
use Rattle.std.proofs.Common.{◌≡◌, ◌≢◌, ◌↔◌, ◌⊎◌, ℕ, ◌^◌, ◌≤◌, ◌<◌, ℤ, pos, negsuc, neg_ℤ, ◌+ℤ◌, ◌-ℤ◌, ◌*ℤ◌, ◌≤ℤ◌, ◌<ℤ◌, unsigned_abs, int_div, int_rem, int_le, int_lt, Bool, true, false, not, ◌&&◌, ◌||◌, cond, Option, Some, None, refl, sym, ◌∙◌, ap, subst, arith, inl, inr, ⊎_elim}
use Rattle.std.specs.Prelude.{IfSome}
use Rattle.std.proofs.lemmas.Int.{ints, to_z-of_z}
use Rattle.std.proofs.lemmas.Bool.{and_parts, and_from, false≢true, cases_lt}
use Rattle.c_ir.specs.declared.ty.IntType.{IntType}
use Rattle.c_ir.specs.declared.ty.IntType.TheVariants as T
use Rattle.c_ir.specs.declared.tree.Node.TheVariants as N
use Rattle.c_ir.specs.declared.tree.Expr.TheFolds.{fold-roll-Expr}
use Rattle.c_ir.specs.Types.{least, greatest, width}
use Rattle.machine_ints.specs.Bound.{bounded}
use Rattle.machine_ints.specs.Convert.{IsType}
use Rattle.machine_ints.specs.Operators.{IsWithin, Passes, PassesIf, first_check, second_check, is_visited, is_visited_if, ends_run, may_end, shl_of, value_of, unary_value}
use Rattle.machine_ints.specs.Results.{IsRightOperand}
use Rattle.machine_ints.specs.declared.operators.Check.{Check}
use Rattle.machine_ints.specs.declared.operators.Check.TheVariants.{Division, Overflow, Shift}
use Rattle.machine_ints.specs.declared.operators.Operator.{Operator}
use Rattle.machine_ints.specs.declared.operators.Operator.TheVariants as O
use Rattle.machine_ints.specs.declared.operators.UnaryOperator.{UnaryOperator}
use Rattle.machine_ints.specs.declared.operators.UnaryOperator.TheVariants.{Negate, Complement}
use Rattle.machine_ints.proofs.BoundLaws.{bounded_in, bounded_out}
use Rattle.machine_ints.proofs.Conversions.{range_of_type}
use Rattle.machine_ints.proofs.Results.{wrap_within, value_is_typed}
use Rattle.c_rules.specs.Constants.{is_among, is_number, equals, is_zero, brought, passes_overflow, passes, passes_if, fails, unary_fails, is_shift, are_operands, checked, operated, unary_operated, binary_result, node_value, value_step, evaluated}
use Rattle.c_rules.specs.Constants.{written, unary_written, Fails, Stops, StopsUnary, IsNoneExactly, BinaryStops, UnaryStops}
use Rattle.c_rules.specs.inner.Constants.{has_negative, kept, kept_if, divides, brought_if, is_shift_by, signed_shift}

-- ---- types

-- C's types have the ranges of types
pub is_type : (ty : IntType) → IsType (least ty) (pos (greatest ty)) (width ty)
is_type T.Bool = (omega arith, omega arith, inl (refl, refl))
is_type T.Char = (omega arith, omega arith, inr (refl, refl))
is_type T.SignedChar = (omega arith, omega arith, inr (refl, refl))
is_type T.UnsignedChar = (omega arith, omega arith, inl (refl, refl))
is_type T.Short = (omega arith, omega arith, inr (refl, refl))
is_type T.UnsignedShort = (omega arith, omega arith, inl (refl, refl))
is_type T.Int = (omega arith, omega arith, inr (refl, refl))
is_type T.UnsignedInt = (omega arith, omega arith, inl (refl, refl))
is_type T.Long = (omega arith, omega arith, inr (refl, refl))
is_type T.UnsignedLong = (omega arith, omega arith, inl (refl, refl))
is_type T.LongLong = (omega arith, omega arith, inr (refl, refl))
is_type T.UnsignedLongLong = (omega arith, omega arith, inl (refl, refl))

-- the least number of a type without negative ones is 0
pub least_natural : (ty : IntType) → has_negative ty ≡ false → least ty ≡ pos 0
least_natural ty e =
    let r = range_of_type (least ty) (pos (greatest ty)) (width ty) (is_type ty) in
    omega (arith, ints, r.low)

-- a number of a type is below 2^64 in absolute value
within_short : (ty : IntType) (z : ℤ) → IsWithin (least ty) (pos (greatest ty)) z → unsigned_abs z < 2 ^ 64
within_short ty z i =
    let r = range_of_type (least ty) (pos (greatest ty)) (width ty) (is_type ty) in
    omega (arith, ints, i.0, i.1, r.least, r.greatest)

pub brought_short : (ty : IntType) (z : ℤ) → unsigned_abs (brought ty z) < 2 ^ 64
brought_short ty z = within_short ty (brought ty z) (wrap_within (least ty) (pos (greatest ty)) (width ty) (is_type ty) z)

-- ---- tests

among_true : (lo hi z : ℤ) → IsWithin lo hi z → is_among lo hi z ≡ true
among_true lo hi z (l, h) = and_from (int_le lo z) (int_le z hi) (sym (omega (arith, ints))) (sym (omega (arith, ints)))

pub true_among : (lo hi z : ℤ) → is_among lo hi z ≡ true → IsWithin lo hi z
true_among lo hi z t = let p = and_parts (int_le lo z) (int_le z hi) t in let l = p.0 in let h = p.1 in (omega (arith, ints), omega (arith, ints))

equals_true : (x y : ℤ) → x ≡ y → equals x y ≡ true
equals_true x y e = and_from (int_le x y) (int_le y x) (sym (omega (arith, ints))) (sym (omega (arith, ints)))

true_equals : (x y : ℤ) → equals x y ≡ true → x ≡ y
true_equals x y t = let p = and_parts (int_le x y) (int_le y x) t in let l = p.0 in let h = p.1 in omega (arith, ints)

not_true : (b : Bool) → (b ≡ true → ⊥) → b ≡ false
not_true true n = absurd (n refl)
not_true false n = refl

lacks : (b : Bool) → not b ≡ true → b ≡ true → ⊥
lacks true e f = false≢true e
lacks false e f = false≢true f

not_from : (b : Bool) → (b ≡ true → ⊥) → not b ≡ true
not_from true n = absurd (n refl)
not_from false n = refl

-- ---- the checks as tests

quotient_decides : (lo x y : ℤ) → (not (equals x lo && equals y (negsuc 0)) ≡ true) ↔ (x ≡ lo → y ≢ negsuc 0)
quotient_decides lo x y = (
  λ e p q. lacks (equals x lo && equals y (negsuc 0)) e (and_from _ _ (equals_true x lo p) (equals_true y (negsuc 0) q)),
  λ n. not_from (equals x lo && equals y (negsuc 0)) (λ e. let u = and_parts (equals x lo) (equals y (negsuc 0)) e in n (true_equals x lo u.0) (true_equals y (negsuc 0) u.1)),
)

overflow_decides : (op : Operator) (lo hi : ℤ) (w : ℕ) (x y : ℤ) → (passes_overflow op lo hi x y ≡ true) ↔ Passes Overflow op lo hi w x y
overflow_decides O.Add lo hi w x y = (true_among lo hi (x +ℤ y), among_true lo hi (x +ℤ y))
overflow_decides O.Sub lo hi w x y = (true_among lo hi (x -ℤ y), among_true lo hi (x -ℤ y))
overflow_decides O.Mul lo hi w x y = (true_among lo hi (x *ℤ y), among_true lo hi (x *ℤ y))
overflow_decides O.Div lo hi w x y = quotient_decides lo x y
overflow_decides O.Rem lo hi w x y = quotient_decides lo x y
overflow_decides O.Shl lo hi w x y = (
  λ e. let u = and_parts (int_le (pos 0) x) (int_le (shl_of x y) hi) e in let l = u.0 in let h = u.1 in (omega (arith, ints), omega (arith, ints)),
  λ (p : (pos 0 ≤ℤ x) × (shl_of x y ≤ℤ hi)). let l = p.0 in let h = p.1 in and_from (int_le (pos 0) x) (int_le (shl_of x y) hi) (sym (omega (arith, ints))) (sym (omega (arith, ints))),
)
overflow_decides O.Shr lo hi w x y = (λ e. tt, λ u. refl)
overflow_decides O.And lo hi w x y = (λ e. tt, λ u. refl)
overflow_decides O.Or lo hi w x y = (λ e. tt, λ u. refl)
overflow_decides O.Xor lo hi w x y = (λ e. tt, λ u. refl)

decides : (check : Check) (op : Operator) (lo hi : ℤ) (w : ℕ) (x y : ℤ) → (passes check op lo hi w x y ≡ true) ↔ Passes check op lo hi w x y
decides Division op lo hi w x y = (
  λ e p. lacks (is_zero y) e (equals_true y (pos 0) p),
  λ n. not_from (is_zero y) (λ e. n (true_equals y (pos 0) e)),
)
decides Overflow op lo hi w x y = overflow_decides op lo hi w x y
decides Shift op lo hi w x y = (
  λ e. let u = and_parts (int_le (pos 0) y) (int_lt y (pos w)) e in let l = u.0 in let h = u.1 in (omega (arith, ints), omega (arith, ints)),
  λ (p : (pos 0 ≤ℤ y) × (y <ℤ pos w)). let l = p.0 in let h = p.1 in and_from (int_le (pos 0) y) (int_lt y (pos w)) (sym (omega (arith, ints))) (sym (omega (arith, ints))),
)

decides_if : (check : Option Check) (op : Operator) (lo hi : ℤ) (w : ℕ) (x y : ℤ) → (passes_if check op lo hi w x y ≡ true) ↔ PassesIf check op lo hi w x y
decides_if None op lo hi w x y = (λ e. tt, λ u. refl)
decides_if (Some check) op lo hi w x y = decides check op lo hi w x y

-- a test that is visited and not passed
visited_decides : (v p : Bool) (P : Type 0) → ((p ≡ true) ↔ P) → ((v && not p) ≡ true) ↔ ((v ≡ true) × (P → ⊥))
visited_decides v p P d = (
  λ e. let u = and_parts v (not p) e in (u.0, λ q. lacks p u.1 (d.1 q)),
  λ (u : (v ≡ true) × (P → ⊥)). and_from v (not p) u.0 (not_from p (λ e. u.1 (d.0 e))),
)

fails_decides : (check : Option Check) (op : Operator) (ty : IntType) (x y : ℤ) → (fails check op ty x y ≡ true) ↔ Fails check op ty x y
fails_decides check op ty x y =
    visited_decides (is_visited_if (least ty) true check) (passes_if check op (least ty) (pos (greatest ty)) (width ty) x y)
    (PassesIf check op (least ty) (pos (greatest ty)) (width ty) x y) (decides_if check op (least ty) (pos (greatest ty)) (width ty) x y)

one_stops : (b : Bool) (v : ℤ) (P : Type 0) → ((b ≡ true) ↔ P) → IsNoneExactly P (cond b None (Some v)) v
one_stops true v P d = ((λ e. d.0 refl, λ p. refl), λ n. absurd (n (d.0 refl)))
one_stops false v P d = ((λ e. absurd (cc), λ p. absurd (false≢true (d.1 p))), λ n. refl)

either_decides : (b c : Bool) (P Q : Type 0) → ((b ≡ true) ↔ P) → ((c ≡ true) ↔ Q) → ((b || c) ≡ true) ↔ (P ⊎ Q)
either_decides true c P Q d e = (λ _. inl (d.0 refl), λ _. refl)
either_decides false c P Q d e = (λ f. inr (e.0 f), ⊎_elim (λ p. absurd (false≢true (d.1 p))) (λ q. e.1 q))

-- ---- the law

checked_stops : (op : Operator) (ty : IntType) (x y : ℤ) → IsNoneExactly (Stops op ty x y) (checked op ty x y) (value_of op (least ty) (width ty) x y)
unfolding checked
checked_stops op ty x y =
    one_stops (fails (first_check op) op ty x y || fails (second_check op) op ty x y) (value_of op (least ty) (width ty) x y) (Stops op ty x y)
    (either_decides (fails (first_check op) op ty x y) (fails (second_check op) op ty x y) (Fails (first_check op) op ty x y) (Fails (second_check op) op ty x y)
    (fails_decides (first_check op) op ty x y) (fails_decides (second_check op) op ty x y))

right_true : (op : Operator) (ty : IntType) (y : ℤ) → IsRightOperand op (least ty) (pos (greatest ty)) y → (is_shift op || is_number ty y) ≡ true
right_true O.Add ty y i = among_true (least ty) (pos (greatest ty)) y i
right_true O.Sub ty y i = among_true (least ty) (pos (greatest ty)) y i
right_true O.Mul ty y i = among_true (least ty) (pos (greatest ty)) y i
right_true O.Div ty y i = among_true (least ty) (pos (greatest ty)) y i
right_true O.Rem ty y i = among_true (least ty) (pos (greatest ty)) y i
right_true O.Shl ty y i = refl
right_true O.Shr ty y i = refl
right_true O.And ty y i = among_true (least ty) (pos (greatest ty)) y i
right_true O.Or ty y i = among_true (least ty) (pos (greatest ty)) y i
right_true O.Xor ty y i = among_true (least ty) (pos (greatest ty)) y i

true_right : (op : Operator) (ty : IntType) (y : ℤ) → (is_shift op || is_number ty y) ≡ true → IsRightOperand op (least ty) (pos (greatest ty)) y
true_right O.Add ty y e = true_among (least ty) (pos (greatest ty)) y e
true_right O.Sub ty y e = true_among (least ty) (pos (greatest ty)) y e
true_right O.Mul ty y e = true_among (least ty) (pos (greatest ty)) y e
true_right O.Div ty y e = true_among (least ty) (pos (greatest ty)) y e
true_right O.Rem ty y e = true_among (least ty) (pos (greatest ty)) y e
true_right O.Shl ty y e = tt
true_right O.Shr ty y e = tt
true_right O.And ty y e = true_among (least ty) (pos (greatest ty)) y e
true_right O.Or ty y e = true_among (least ty) (pos (greatest ty)) y e
true_right O.Xor ty y e = true_among (least ty) (pos (greatest ty)) y e

operated_checked : (op : Operator) (ty : IntType) (x y : ℤ) → IsWithin (least ty) (pos (greatest ty)) x → IsRightOperand op (least ty) (pos (greatest ty)) y → operated op ty x y ≡ checked op ty x y
unfolding operated
operated_checked op ty x y i j =
    ap (λ (b : Bool). cond b (checked op ty x y) None)
    (and_from (is_number ty x) (is_shift op || is_number ty y) (among_true (least ty) (pos (greatest ty)) x i) (right_true op ty y j))

binary_value : (op : Operator) (ty : IntType) (l r : Option ℤ) (x y : ℤ) → l ≡ Some x → r ≡ Some y → node_value ty (N.Binary (written op) l r) ≡ operated op ty x y
unfolding binary_result
binary_value O.Add ty l r x y e f = rw (e, f) refl
binary_value O.Sub ty l r x y e f = rw (e, f) refl
binary_value O.Mul ty l r x y e f = rw (e, f) refl
binary_value O.Div ty l r x y e f = rw (e, f) refl
binary_value O.Rem ty l r x y e f = rw (e, f) refl
binary_value O.Shl ty l r x y e f = rw (e, f) refl
binary_value O.Shr ty l r x y e f = rw (e, f) refl
binary_value O.And ty l r x y e f = rw (e, f) refl
binary_value O.Or ty l r x y e f = rw (e, f) refl
binary_value O.Xor ty l r x y e f = rw (e, f) refl

pub binary_stops : BinaryStops
unfolding evaluated
binary_stops op ty site l r x y e f i j =
    subst (λ (o : Option ℤ). IsNoneExactly (Stops op ty x y) o (value_of op (least ty) (width ty) x y))
    (sym (fold-roll-Expr (Option ℤ) value_step (record { ty = ty; site = site; node = N.Binary (written op) l r }) ∙ binary_value op ty (evaluated l) (evaluated r) x y e f ∙ operated_checked op ty x y i j))
    (checked_stops op ty x y)

unary_decides : (op : UnaryOperator) (ty : IntType) (x : ℤ) → (unary_fails op ty x ≡ true) ↔ StopsUnary op ty x
unary_decides Negate ty x =
    visited_decides (is_visited_if (least ty) true (Some Overflow)) (is_number ty (neg_ℤ x)) (IsWithin (least ty) (pos (greatest ty)) (neg_ℤ x))
    (true_among (least ty) (pos (greatest ty)) (neg_ℤ x), among_true (least ty) (pos (greatest ty)) (neg_ℤ x))
unary_decides Complement ty x = (λ e. absurd (false≢true e), λ (u : (false ≡ true) × (Unit {0} → ⊥)). u.0)

unary_node_value : (op : UnaryOperator) (ty : IntType) (e : Option ℤ) (x : ℤ) → e ≡ Some x → node_value ty (N.Unary (unary_written op) e) ≡ unary_operated op ty x
unary_node_value Negate ty e x f = rw f refl
unary_node_value Complement ty e x f = rw f refl

unary_operated_stops : (op : UnaryOperator) (ty : IntType) (x : ℤ) → IsNoneExactly (StopsUnary op ty x) (unary_operated op ty x) (unary_value op (least ty) (width ty) x)
unfolding unary_operated
unary_operated_stops op ty x = one_stops (unary_fails op ty x) (unary_value op (least ty) (width ty) x) (StopsUnary op ty x) (unary_decides op ty x)

pub unary_stops : UnaryStops
unfolding evaluated
unary_stops op ty site e x f =
    subst (λ (o : Option ℤ). IsNoneExactly (StopsUnary op ty x) o (unary_value op (least ty) (width ty) x))
    (sym (fold-roll-Expr (Option ℤ) value_step (record { ty = ty; site = site; node = N.Unary (unary_written op) e }) ∙ unary_node_value op ty (evaluated e) x f))
    (unary_operated_stops op ty x)

-- ---- the code's forms

stop : (s n : Bool) (v : ℤ) → cond (((s && true) && not n) || false) None (Some v) ≡ cond (s && not n) None (Some v)
stop true true v = refl
stop true false v = refl
stop false n v = refl

checked_add : (ty : IntType) (x y : ℤ) → checked O.Add ty x y ≡ kept ty (x +ℤ y)
unfolding checked value_of
checked_add ty x y = stop (has_negative ty) (is_number ty (x +ℤ y)) (brought ty (x +ℤ y))

checked_sub : (ty : IntType) (x y : ℤ) → checked O.Sub ty x y ≡ kept ty (x -ℤ y)
unfolding checked value_of
checked_sub ty x y = stop (has_negative ty) (is_number ty (x -ℤ y)) (brought ty (x -ℤ y))

checked_mul : (ty : IntType) (x y : ℤ) → checked O.Mul ty x y ≡ kept ty (x *ℤ y)
unfolding checked value_of
checked_mul ty x y = stop (has_negative ty) (is_number ty (x *ℤ y)) (brought ty (x *ℤ y))

unary_stop : (s n : Bool) (v : ℤ) → cond ((s && true) && not n) None (Some v) ≡ cond (s && not n) None (Some v)
unary_stop true n v = refl
unary_stop false n v = refl

checked_negate : (ty : IntType) (x : ℤ) → unary_operated Negate ty x ≡ kept ty (neg_ℤ x)
unfolding unary_operated unary_value
checked_negate ty x = unary_stop (has_negative ty) (is_number ty (neg_ℤ x)) (brought ty (neg_ℤ x))

division : (z s q : Bool) (v : ℤ) → cond ((true && not (not z)) || ((s && true) && not (not q))) None (Some v) ≡ cond (not z && not (s && q)) (Some v) None
division true s q v = refl
division false true true v = refl
division false true false v = refl
division false false q v = refl

pub checked_div : (ty : IntType) (x y : ℤ) → checked O.Div ty x y ≡ cond (divides ty x y) (Some (brought_if ty (int_div x y))) None
unfolding checked value_of
checked_div ty x y = division (is_zero y) (has_negative ty) (equals x (least ty) && equals y (negsuc 0)) (brought_if ty (int_div x y))

pub checked_rem : (ty : IntType) (x y : ℤ) → checked O.Rem ty x y ≡ cond (divides ty x y) (Some (brought_if ty (int_rem x y))) None
unfolding checked value_of
checked_rem ty x y = division (is_zero y) (has_negative ty) (equals x (least ty) && equals y (negsuc 0)) (brought_if ty (int_rem x y))

-- a number is past the bound in no type
kept_none : (s n : Bool) (v : ℤ) → s ≡ true → n ≡ false → cond (s && not n) None (Some v) ≡ None
kept_none true true v e f = absurd (false≢true (sym f))
kept_none true false v e f = refl
kept_none false n v e f = absurd (false≢true e)

kept_if_kept : (ty : IntType) (z : ℤ) → has_negative ty ≡ true → kept_if ty (bounded z) ≡ kept ty z
kept_if_kept ty z s = ⊎_elim
    (λ (far : 2 ^ 126 < unsigned_abs z). ap (kept_if ty) (bounded_out z far) ∙ sym (kept_none (has_negative ty) (is_number ty z) (brought ty z) s
    (not_true (is_number ty z) (λ e. let n : unsigned_abs z < 2 ^ 64 = within_short ty z (true_among (least ty) (pos (greatest ty)) z e) in omega arith))))
    (λ (near : unsigned_abs z ≤ 2 ^ 126). ap (kept_if ty) (bounded_in z near))
    (cases_lt (2 ^ 126) (unsigned_abs z))

kept_natural : (ty : IntType) (z : ℤ) → has_negative ty ≡ false → kept ty z ≡ Some (brought ty z)
kept_natural ty z n = ap (λ (s : Bool). cond (s && not (is_number ty z)) None (Some (brought ty z))) n

kept_near : (ty : IntType) (z : ℤ) → unsigned_abs z ≤ 2 ^ 126 → kept_if ty (bounded z) ≡ kept ty z
kept_near ty z near = ap (kept_if ty) (bounded_in z near)

pub add_kept : (ty : IntType) (x y : ℤ) → unsigned_abs x < 2 ^ 64 → unsigned_abs y < 2 ^ 64 → kept_if ty (bounded (x +ℤ y)) ≡ checked O.Add ty x y
add_kept ty x y h k = kept_near ty (x +ℤ y) (omega (arith, ints)) ∙ sym (checked_add ty x y)

pub sub_kept : (ty : IntType) (x y : ℤ) → unsigned_abs x < 2 ^ 64 → unsigned_abs y < 2 ^ 64 → kept_if ty (bounded (x -ℤ y)) ≡ checked O.Sub ty x y
sub_kept ty x y h k = kept_near ty (x -ℤ y) (omega (arith, ints)) ∙ sym (checked_sub ty x y)

pub negate_kept : (ty : IntType) (x : ℤ) → unsigned_abs x < 2 ^ 64 → kept_if ty (bounded (neg_ℤ x)) ≡ unary_operated Negate ty x
negate_kept ty x h = kept_near ty (neg_ℤ x) (omega (arith, ints)) ∙ sym (checked_negate ty x)

-- a number of a type without negative ones is its absolute value
natural_abs : (ty : IntType) (x : ℤ) → has_negative ty ≡ false → is_number ty x ≡ true → pos (unsigned_abs x) ≡ x
natural_abs ty x n i =
    let l = (true_among (least ty) (pos (greatest ty)) x i).0 in
    let e = least_natural ty n in
    omega (arith, ints)

pub mul_signed : (ty : IntType) (x y : ℤ) → has_negative ty ≡ true → kept_if ty (bounded (x *ℤ y)) ≡ checked O.Mul ty x y
mul_signed ty x y s = kept_if_kept ty (x *ℤ y) s ∙ sym (checked_mul ty x y)

pub mul_natural : (ty : IntType) (x y : ℤ) → has_negative ty ≡ false → are_operands O.Mul ty x y ≡ true
    → Some (brought ty (pos (unsigned_abs x) *ℤ pos (unsigned_abs y))) ≡ checked O.Mul ty x y
mul_natural ty x y n o =
    let u = and_parts (is_number ty x) (is_number ty y) o in
    let e = natural_abs ty x n u.0 in
    let f = natural_abs ty y n u.1 in
    ap (λ (z : ℤ). Some (brought ty (z *ℤ pos (unsigned_abs y)))) e ∙ ap (λ (z : ℤ). Some (brought ty (x *ℤ z))) f
    ∙ sym (kept_natural ty (x *ℤ y) n) ∙ sym (checked_mul ty x y)

-- `<<`
not_shift : (p f : Bool) (v : ℤ) → p ≡ false → cond ((true && not p) || f) None (Some v) ≡ None
not_shift true f v e = absurd (false≢true (sym e))
not_shift false f v e = refl

natural_shift : (p s q : Bool) (v : ℤ) → p ≡ true → s ≡ false → cond ((true && not p) || ((s && true) && not q)) None (Some v) ≡ Some v
natural_shift true true q v e f = absurd (false≢true (sym f))
natural_shift true false q v e f = refl
natural_shift false s q v e f = absurd (false≢true e)

signed_form : (p s a n l b : Bool) (v : ℤ) → p ≡ true → s ≡ true → n ≡ not a → (a ≡ true → l ≡ true)
    → cond n None (cond (s && not (l && b)) None (Some v)) ≡ cond ((true && not p) || ((s && true) && not (a && b))) None (Some v)
signed_form p s true n l b v e f g h = rw (e, f, g, h refl) refl
signed_form p s false n l b v e f g h = rw (e, f, g) refl

opposite : (a n : Bool) → (a ≡ true → n ≡ false) → (a ≡ false → n ≡ true) → n ≡ not a
opposite true n f g = f refl
opposite false n f g = g refl

below_zero : (x : ℤ) → int_lt x (pos 0) ≡ not (int_le (pos 0) x)
below_zero x = opposite (int_le (pos 0) x) (int_lt x (pos 0)) (λ (h : int_le (pos 0) x ≡ true). not_true (int_lt x (pos 0)) (λ (k : int_lt x (pos 0) ≡ true). omega (arith, ints)))
    (λ (h : int_le (pos 0) x ≡ false). sym (omega (arith, ints)))

shl_natural_number : (ty : IntType) (x : ℤ) (k : ℕ) → int_le (pos 0) x ≡ true → int_le (least ty) (x *ℤ pos k) ≡ true
shl_natural_number ty (pos a) k e =
    let r = range_of_type (least ty) (pos (greatest ty)) (width ty) (is_type ty) in
    sym (omega (arith, ints, r.low))
shl_natural_number ty (negsuc a) k e = absurd (omega (arith, ints))

pub shl_none : (ty : IntType) (x y : ℤ) → is_shift_by ty y ≡ false → None ≡ checked O.Shl ty x y
unfolding checked value_of
shl_none ty x y e = sym (not_shift (is_shift_by ty y) _ (brought ty (shl_of x y)) e)

pub shl_signed : (ty : IntType) (x y : ℤ) (by : ℕ) → is_shift_by ty y ≡ true → has_negative ty ≡ true → by ≡ unsigned_abs y → signed_shift ty x by ≡ checked O.Shl ty x y
unfolding checked value_of
shl_signed ty x y by p s e =
    ap (signed_shift ty x) e ∙ ap (λ (o : Option ℤ). cond (int_lt x (pos 0)) None o) (kept_if_kept ty (shl_of x y) s)
    ∙ signed_form (is_shift_by ty y) (has_negative ty) (int_le (pos 0) x) (int_lt x (pos 0)) (int_le (least ty) (shl_of x y)) (int_le (shl_of x y) (pos (greatest ty)))
    (brought ty (shl_of x y)) p s (below_zero x) (shl_natural_number ty x (2 ^ unsigned_abs y))

pub shl_natural : (ty : IntType) (x y : ℤ) (by : ℕ) → is_shift_by ty y ≡ true → has_negative ty ≡ false → are_operands O.Shl ty x y ≡ true → by ≡ unsigned_abs y
    → Some (brought ty (pos (unsigned_abs x) *ℤ pos (2 ^ by))) ≡ checked O.Shl ty x y
unfolding checked value_of
shl_natural ty x y by p n o e =
    ap (λ (k : ℕ). Some (brought ty (pos (unsigned_abs x) *ℤ pos (2 ^ k)))) e
    ∙ ap (λ (z : ℤ). Some (brought ty (z *ℤ pos (2 ^ unsigned_abs y)))) (natural_abs ty x n (and_parts (is_number ty x) true o).0)
    ∙ sym (natural_shift (is_shift_by ty y) (has_negative ty) _ (brought ty (shl_of x y)) p n)

-- what the code's exact results are
pub ruleset sum_steps = (to_z-of_z, add_kept, sub_kept, negate_kept)

pub ruleset product_steps = (to_z-of_z, mul_signed, mul_natural)

pub ruleset quotient_steps = (to_z-of_z, checked_div, checked_rem)

pub ruleset shift_steps = (to_z-of_z, shl_none, shl_signed, shl_natural)

-- ---- bounds

visited_end : (lo : ℤ) (check : Option Check) → may_end lo true check ≡ true → is_visited_if lo true check ≡ true
visited_end lo None e = e
visited_end lo (Some check) e = (and_parts (is_visited lo true check) (ends_run check) e).0

none_or : (b c : Bool) (v : ℤ) (P : ℤ → Type 0) → (b ≡ false → P v) → IfSome (cond (b || c) None (Some v)) P
none_or true c v P h = tt
none_or false true v P h = tt
none_or false false v P h = h refl

passes_from : (v p : Bool) → (v && not p) ≡ false → v ≡ true → p ≡ true
passes_from true true e f = refl
passes_from true false e f = absurd (false≢true (sym e))
passes_from false p e f = absurd (false≢true f)

abbrev pub IsShort : ℤ → Type 0
IsShort z = unsigned_abs z < 2 ^ 64

pub checked_short : (op : Operator) (ty : IntType) (x y : ℤ) → are_operands op ty x y ≡ true → IfSome (checked op ty x y) IsShort
unfolding checked
checked_short op ty x y o =
    let u = and_parts (is_number ty x) (is_shift op || is_number ty y) o in
    none_or (fails (first_check op) op ty x y) (fails (second_check op) op ty x y) (value_of op (least ty) (width ty) x y) IsShort
    (λ e. within_short ty (value_of op (least ty) (width ty) x y)
    (value_is_typed op (least ty) (pos (greatest ty)) (width ty) true x y (is_type ty) (true_among (least ty) (pos (greatest ty)) x u.0) (true_right op ty y u.1)
    (λ m. (decides_if (first_check op) op (least ty) (pos (greatest ty)) (width ty) x y).0
    (passes_from (is_visited_if (least ty) true (first_check op)) (passes_if (first_check op) op (least ty) (pos (greatest ty)) (width ty) x y) e (visited_end (least ty) (first_check op) m)))).0)
