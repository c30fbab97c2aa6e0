-- Results of operators on numbers of a type are numbers of the type.
use Rattle.std.proofs.Common.{◌≡◌, zero, suc, ℕ, ◌-◌, ◌^◌, ℤ, pos, negsuc, neg_ℤ, ◌+ℤ◌, ◌-ℤ◌, ◌≤ℤ◌}
use Rattle.std.proofs.Common.{◌<ℤ◌, unsigned_abs, int_div, int_rem, int_lt, Bool, true, false, cond, refl, sym, ◌∙◌, arith, ⊎_elim}
use Rattle.std.proofs.lemmas.Int.{ints, clamps, by_lt_z}
use Rattle.std.proofs.lemmas.Bool.{false≢true}
use Rattle.std.proofs.Math.Nat.{div-le_self}
use lib.Pow.{pow_pos}
use Rattle.machine_ints.specs.Bits.{not_of, and_of, or_of, xor_of}
use Rattle.machine_ints.specs.Convert.{IsType, wrap}
use Rattle.machine_ints.specs.Operators.{IsWithin, PassesDivision, PassesQuotient, PassesIf, shl_of, shr_of, exact_of}
use Rattle.machine_ints.specs.Operators.{exact_unary, first_check, second_check, may_end, is_wrapped, value_of, unary_value, complement_sum}
use Rattle.machine_ints.specs.Results.{BoolIsTyped, IsRightOperand, TypedAreOperands, ExactIsValue, ValueIsTyped, UnaryIsTyped, ComplementIs, WrapIsTyped}
use Rattle.machine_ints.specs.declared.operators.Operator.{Operator}
use Rattle.machine_ints.specs.declared.operators.Operator.TheVariants.{Add, Sub, Mul, Div, Rem, Shl, Shr, And, Or, Xor}
use Rattle.machine_ints.proofs.BitLaws.{IsSigned, and_low, or_low, xor_low, and_signed, or_signed, xor_signed, not-is}
use Rattle.machine_ints.proofs.Choices.{choose}
use Rattle.machine_ints.proofs.Conversions.{wrap_low, wrap_high, wrap_is, wrap_same, range_of_type}
use Rattle.machine_ints.proofs.Products.{mul_le, mul_comm}
use Rattle.machine_ints.proofs.Quotients.{quotient_within, rem_above, rem_below_zero}

-- the two kinds of types
abbrev IsUnsignedType : ℤ → ℤ → ℕ → Type 0
IsUnsignedType lo hi width = (lo ≡ pos 0) × (hi ≡ pos (2 ^ width - 1))

abbrev IsSignedType : ℤ → ℤ → ℕ → Type 0
IsSignedType lo hi width = (lo ≡ neg_ℤ (pos (2 ^ (width - 1)))) × (hi ≡ pos (2 ^ (width - 1) - 1))

-- ---- operator by operator

module _ (lo hi : ℤ) (width : ℕ) (t : IsType lo hi width) where
  pub wrap_within : (z : ℤ) → IsWithin lo hi (wrap lo width z)
  wrap_within z = (wrap_low lo width z, wrap_high lo hi width z (range_of_type lo hi width t).span)

  pub wrap_kept : (z : ℤ) → IsWithin lo hi z → wrap lo width z ≡ z
  wrap_kept z i = wrap_same lo hi width z (range_of_type lo hi width t).span i.0 i.1

  -- of a signed type the divisor may be any number
  pub signed_quotient : (x y : ℤ) → lo <ℤ pos 0 → IsWithin lo hi x → PassesDivision y → PassesQuotient lo x y → IsWithin lo hi (int_div x y)
  signed_quotient x y s i n q = ⊎_elim
      (λ (u : IsUnsignedType lo hi width). let a = u.0 in absurd (omega (arith, ints)))
      (λ (u : IsSignedType lo hi width). let a = u.0 in let b = u.1 in let p = pow_pos (width - 1) in
      let d = quotient_within x y (2 ^ (width - 1)) p n (λ m. q (m ∙ sym a)) (omega (arith, ints, i.0)) (omega (arith, ints, i.1)) in (omega (arith, ints, d.0), omega (arith, ints, d.1)))
      t.2

  pub natural_quotient : (x y : ℤ) → pos 0 ≤ℤ lo → IsWithin lo hi x → IsWithin lo hi y → IsWithin lo hi (int_div x y)
  natural_quotient (pos a) (pos b) s i j = let r = range_of_type lo hi width t in let q = div-le_self a b in (omega (arith, ints, r.low), omega (arith, ints, i.1))
  natural_quotient (pos a) (negsuc b) s i j = absurd (omega (arith, ints, j.0))
  natural_quotient (negsuc a) y s i j = absurd (omega (arith, ints, i.0))

  pub remainder_within : (x y : ℤ) → IsWithin lo hi x → PassesDivision y → IsWithin lo hi (int_rem x y)
  remainder_within x y i n = let r = range_of_type lo hi width t in by_lt_z x (pos 0)
      (λ (l : x <ℤ pos 0). let z = rem_below_zero x y (unsigned_abs y) n (omega arith) (omega (arith, ints)) in (omega (arith, ints, i.0, z.1), omega (arith, ints, r.high, z.0)))
      (λ (l : pos 0 ≤ℤ x). let z = rem_above x y (unsigned_abs y) n (omega arith) l in (omega (arith, ints, r.low, z.0), omega (arith, ints, i.1, z.1)))

  pub shl_within : (x y : ℤ) → pos 0 ≤ℤ x → shl_of x y ≤ℤ hi → IsWithin lo hi (shl_of x y)
  shl_within x y l m = let r = range_of_type lo hi width t in
      let o = mul_le (pos 1) (pos (2 ^ unsigned_abs y)) x (omega (arith, ints, pow_pos (unsigned_abs y))) l in
      let c = mul_comm (pos (2 ^ unsigned_abs y)) x in
      let d = mul_comm (pos 1) x in
      (omega (arith, ints, r.low), m)

  pub shr_within : (x y : ℤ) → IsWithin lo hi x → IsWithin lo hi (shr_of x y)
  shr_within (pos a) y i = let r = range_of_type lo hi width t in let q = div-le_self a (2 ^ unsigned_abs y) in (omega (arith, ints, r.low), omega (arith, ints, i.1))
  shr_within (negsuc a) y i = let r = range_of_type lo hi width t in let q = div-le_self a (2 ^ unsigned_abs y) in (omega (arith, ints, i.0), omega (arith, ints, r.high))

  -- an operator that keeps to signed and to natural ranges
  bits_within : (exact : ℤ → ℤ → ℤ) → ((k : ℕ) (x y : ℤ) → IsSigned k x → IsSigned k y → IsSigned k (exact x y))
      → ((k : ℕ) (x y : ℤ) → pos 0 ≤ℤ x → pos 0 ≤ℤ y → x <ℤ pos (2 ^ k) → y <ℤ pos (2 ^ k) → IsWithin (pos 0) (pos (2 ^ k - 1)) (exact x y))
      → (x y : ℤ) → IsWithin lo hi x → IsWithin lo hi y → IsWithin lo hi (exact x y)
  bits_within exact signed natural x y i j = ⊎_elim
      (λ (u : IsUnsignedType lo hi width). let a = u.0 in let b = u.1 in let p = pow_pos width in
      let n = natural width x y (omega (arith, ints, i.0)) (omega (arith, ints, j.0)) (omega (arith, ints, i.1)) (omega (arith, ints, j.1)) in (omega (arith, ints, n.0), omega (arith, ints, n.1)))
      (λ (u : IsSignedType lo hi width). let a = u.0 in let b = u.1 in let p = pow_pos (width - 1) in
      let n = signed (width - 1) x y (record { low = omega (arith, ints, i.0); high = omega (arith, ints, i.1) })
      (record { low = omega (arith, ints, j.0); high = omega (arith, ints, j.1) }) in (omega (arith, ints, n.low), omega (arith, ints, n.high)))
      t.2

  pub and_within : (x y : ℤ) → IsWithin lo hi x → IsWithin lo hi y → IsWithin lo hi (and_of x y)
  and_within = bits_within and_of and_signed (λ k u v h l f g. let n = and_low u v h l in (n.0, omega (arith, ints, clamps, n.1)))

  pub or_within : (x y : ℤ) → IsWithin lo hi x → IsWithin lo hi y → IsWithin lo hi (or_of x y)
  or_within = bits_within or_of or_signed (λ k u v h l f g. let n = or_low u v k h l f g in (n.0, omega (arith, ints, n.1)))

  pub xor_within : (x y : ℤ) → IsWithin lo hi x → IsWithin lo hi y → IsWithin lo hi (xor_of x y)
  xor_within = bits_within xor_of xor_signed (λ k u v h l f g. let n = xor_low u v k h l f g in (n.0, omega (arith, ints, n.1)))

  -- `~` of a number of the type
  pub complement_is : (x : ℤ) → IsWithin lo hi x → wrap lo width (not_of x) ≡ complement_sum lo hi -ℤ x
  complement_is x i = ⊎_elim
      (λ (u : IsUnsignedType lo hi width). let a = u.0 in by_sign (int_lt lo (pos 0)) refl (λ n. absurd (omega (arith, ints)))
      (λ _. wrap_is lo hi width (not_of x) (hi -ℤ x) (negsuc 0) span (omega (arith, ints, i.1)) (omega (arith, ints, i.0)) (omega (arith, ints, not-is x, span))))
      (λ (u : IsSignedType lo hi width). let a = u.0 in let b = u.1 in let p = pow_pos (width - 1) in by_sign (int_lt lo (pos 0)) refl
      (λ _. wrap_is lo hi width (not_of x) (negsuc 0 -ℤ x) (pos 0) span (omega (arith, ints, i.1)) (omega (arith, ints, i.0)) (omega (arith, ints, not-is x)))
      (λ n. absurd (omega (arith, ints))))
      t.2
    where
      span : hi +ℤ pos 1 ≡ lo +ℤ pos (2 ^ width)
      span = (range_of_type lo hi width t).span

      by_sign : (b : Bool) → int_lt lo (pos 0) ≡ b → (b ≡ true → wrap lo width (not_of x) ≡ negsuc 0 -ℤ x) → (b ≡ false → wrap lo width (not_of x) ≡ hi -ℤ x)
          → wrap lo width (not_of x) ≡ cond b (negsuc 0) hi -ℤ x
      by_sign true e f g = f refl
      by_sign false e f g = g refl

-- ---- all operators

exact_within : (op : Operator) (lo hi : ℤ) (width : ℕ) (x y : ℤ) → IsType lo hi width → IsWithin lo hi x → IsRightOperand op lo hi y → PassesIf (first_check op) op lo hi width x y
    → PassesIf (second_check op) op lo hi width x y → IsWithin lo hi (exact_of op x y)
exact_within Add lo hi width x y t i j p q = p
exact_within Sub lo hi width x y t i j p q = p
exact_within Mul lo hi width x y t i j p q = p
exact_within Div lo hi width x y t i j p q = by_lt_z lo (pos 0) (λ (s : lo <ℤ pos 0). signed_quotient lo hi width t x y s i p q) (λ (s : pos 0 ≤ℤ lo). natural_quotient lo hi width t x y s i j)
exact_within Rem lo hi width x y t i j p q = remainder_within lo hi width t x y i p
exact_within Shl lo hi width x y t i j p q = shl_within lo hi width t x y q.0 q.1
exact_within Shr lo hi width x y t i j p q = shr_within lo hi width t x y i
exact_within And lo hi width x y t i j p q = and_within lo hi width t x y i j
exact_within Or lo hi width x y t i j p q = or_within lo hi width t x y i j
exact_within Xor lo hi width x y t i j p q = xor_within lo hi width t x y i j

pub typed_are_operands : TypedAreOperands
typed_are_operands Add lo hi x y i j = tt
typed_are_operands Sub lo hi x y i j = tt
typed_are_operands Mul lo hi x y i j = tt
typed_are_operands Div lo hi x y i j = i
typed_are_operands Rem lo hi x y i j = i
typed_are_operands Shl lo hi x y i j = i
typed_are_operands Shr lo hi x y i j = tt
typed_are_operands And lo hi x y i j = (i, j)
typed_are_operands Or lo hi x y i j = (i, j)
typed_are_operands Xor lo hi x y i j = (i, j)

pub exact_is_value : ExactIsValue
unfolding value_of
exact_is_value op lo hi width x y t i j p q = let e = exact_within op lo hi width x y t i j p q in
    (e, choose (λ z. z ≡ exact_of op x y) (is_wrapped op lo) _ _ (λ _. wrap_kept lo hi width t (exact_of op x y) e) (λ _. refl))

-- what isn't brought into the type is there
unwrapped_within : (op : Operator) (lo hi : ℤ) (width : ℕ) (overflow : Bool) (x y : ℤ) → IsType lo hi width → IsWithin lo hi x → IsRightOperand op lo hi y
    → (may_end lo overflow (first_check op) ≡ true → PassesIf (first_check op) op lo hi width x y) → is_wrapped op lo ≡ false → IsWithin lo hi (exact_of op x y)
unwrapped_within Add lo hi width overflow x y t i j p e = absurd (false≢true (sym e))
unwrapped_within Sub lo hi width overflow x y t i j p e = absurd (false≢true (sym e))
unwrapped_within Mul lo hi width overflow x y t i j p e = absurd (false≢true (sym e))
unwrapped_within Div lo hi width overflow x y t i j p e = natural_quotient lo hi width t x y (omega (arith, ints)) i j
unwrapped_within Rem lo hi width overflow x y t i j p e = remainder_within lo hi width t x y i (p refl)
unwrapped_within Shl lo hi width overflow x y t i j p e = absurd (false≢true (sym e))
unwrapped_within Shr lo hi width overflow x y t i j p e = shr_within lo hi width t x y i
unwrapped_within And lo hi width overflow x y t i j p e = and_within lo hi width t x y i j
unwrapped_within Or lo hi width overflow x y t i j p e = or_within lo hi width t x y i j
unwrapped_within Xor lo hi width overflow x y t i j p e = xor_within lo hi width t x y i j

pub value_is_typed : ValueIsTyped
unfolding value_of
value_is_typed op lo hi width overflow x y t i j p = choose (λ z. IsWithin lo hi z × (z ≡ wrap lo width (exact_of op x y))) (is_wrapped op lo) _ _
    (λ _. (wrap_within lo hi width t (exact_of op x y), refl))
    (λ e. let u = unwrapped_within op lo hi width overflow x y t i j p e in (u, sym (wrap_kept lo hi width t (exact_of op x y) u)))

pub unary_is_typed : UnaryIsTyped
unfolding unary_value
unary_is_typed op lo hi width x t = (wrap_within lo hi width t (exact_unary op x), wrap_kept lo hi width t (exact_unary op x))

pub complement_value : ComplementIs
unfolding unary_value
complement_value lo hi width x t i = complement_is lo hi width t x i

pub wrap_is_typed : WrapIsTyped
wrap_is_typed lo hi width z t = (wrap_within lo hi width t z, wrap_kept lo hi width t z)

pub bool_is_typed : BoolIsTyped
bool_is_typed (pos zero) = (omega (arith, ints), omega (arith, ints))
bool_is_typed (pos (suc k)) = (omega (arith, ints), omega (arith, ints))
bool_is_typed (negsuc k) = (omega (arith, ints), omega (arith, ints))
