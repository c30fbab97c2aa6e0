-- Checks that are passed as tests are passed.
use Rattle.std.proofs.Common.{◌≡◌, ◌≢◌, ℕ, ℤ, pos, negsuc, ◌+ℤ◌, ◌-ℤ◌, ◌*ℤ◌, int_le, int_lt, Bool, true, false, not, ◌&&◌}
use Rattle.std.proofs.Common.{sym, arith}
use Rattle.std.proofs.lemmas.Int.{ints}
use Rattle.std.proofs.lemmas.Bool.{and_parts, and_from, false≢true}
use Rattle.machine_ints.specs.Operators.{Passes, shl_of}
use Rattle.machine_ints.specs.declared.operators.Check.{Check}
use Rattle.machine_ints.specs.declared.operators.Check.TheVariants.{Division, Overflow, Shift}
use Rattle.machine_ints.specs.declared.operators.Operator.{Operator}
use Rattle.machine_ints.specs.declared.operators.Operator.TheVariants as O
use Rattle.c_rules.proofs.Evaluations.{true_among}
use Rattle.c_rules.specs.Constants.{equals, is_zero, passes_overflow, passes}

equals_true : (x y : ℤ) → x ≡ y → equals x y ≡ true
equals_true x y e =
    and_from (int_le x y) (int_le y x) (sym (omega (arith, ints))) (sym (omega (arith, ints)))

lacks : (b : Bool) → not b ≡ true → b ≡ true → ⊥
lacks true e f = false≢true e
lacks false e f = false≢true f

quotient_passed : (lo x y : ℤ) → not (equals x lo && equals y (negsuc 0)) ≡ true → x ≡ lo → y ≢ negsuc 0
quotient_passed lo x y e p q =
    lacks (equals x lo && equals y (negsuc 0)) e (and_from _ _ (equals_true x lo p) (equals_true y (negsuc 0) q))

overflow_passed : (op : Operator) (lo hi : ℤ) (w : ℕ) (x y : ℤ) → passes_overflow op lo hi x y ≡ true
    → Passes Overflow op lo hi w x y
overflow_passed O.Add lo hi w x y e = true_among lo hi (x +ℤ y) e
overflow_passed O.Sub lo hi w x y e = true_among lo hi (x -ℤ y) e
overflow_passed O.Mul lo hi w x y e = true_among lo hi (x *ℤ y) e
overflow_passed O.Div lo hi w x y e = quotient_passed lo x y e
overflow_passed O.Rem lo hi w x y e = quotient_passed lo x y e
overflow_passed O.Shl lo hi w x y e =
    let u = and_parts (int_le (pos 0) x) (int_le (shl_of x y) hi) e in
    let l = u.0 in
    let h = u.1 in
    (omega (arith, ints), omega (arith, ints))
overflow_passed O.Shr lo hi w x y e = tt
overflow_passed O.And lo hi w x y e = tt
overflow_passed O.Or lo hi w x y e = tt
overflow_passed O.Xor lo hi w x y e = tt

pub check_passed : (check : Check) (op : Operator) (lo hi : ℤ) (w : ℕ) (x y : ℤ) → passes check op lo hi w x y ≡ true
    → Passes check op lo hi w x y
check_passed Division op lo hi w x y e = λ p. lacks (is_zero y) e (equals_true y (pos 0) p)
check_passed Overflow op lo hi w x y e = overflow_passed op lo hi w x y e
check_passed Shift op lo hi w x y e =
    let u = and_parts (int_le (pos 0) y) (int_lt y (pos w)) e in
    let l = u.0 in
    let h = u.1 in
    (omega (arith, ints), omega (arith, ints))
