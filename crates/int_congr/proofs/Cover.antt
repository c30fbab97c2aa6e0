-- What the answers stand for, operator by operator.
use Rattle.std.proofs.Common.{◌≡◌, ℕ, ◌^◌, ◌<◌, ℤ, pos, neg_ℤ, ◌+ℤ◌, ◌-ℤ◌, ◌*ℤ◌, unsigned_abs, nat_eq, nat_le, int_div}
use Rattle.std.proofs.Common.{int_rem, IsTrue, Some, None, Bool, true, false, cond, ◌&&◌, ap, subst, ◌∙◌, sym, arith}
use Rattle.std.proofs.lemmas.Int.{ints, unsigned_abs-mul}
use Rattle.std.proofs.lemmas.Bool.{and_parts, and_from, eqb-true, eqb-false}
use lib.IntN.{*ℤ-zero}
use Rattle.machine_ints.specs.Bits.{and_of, or_of, xor_of}
use Rattle.machine_ints.specs.Bound.{is_small, bounded}
use Rattle.machine_ints.specs.Convert.{wrap}
use Rattle.machine_ints.specs.Divisors.{divides, gcd_of, residue_of, IsMultiple}
use Rattle.machine_ints.specs.Operators.{shl_of, shr_of}
use Rattle.machine_ints.proofs.Choices.{choose}
use Rattle.machine_ints.proofs.Congruences.{multiple_add, multiple_sub, multiple_neg, multiple_trans, multiple-divides}
use Rattle.machine_ints.proofs.Congruences.{multiple_one, multiple_left, multiple_right, multiple_self, multiple_times, product_gap}
use Rattle.machine_ints.proofs.Conversions.{wrap_multiple}
use Rattle.machine_ints.proofs.Residues.{residue_split}
use Rattle.machine_ints.proofs.Results.{complement_is}
use Rattle.int_interval.specs.Shapes.{top_of}
use Rattle.int_congr.specs.declared.congr.Congr.{Congr}
use Rattle.int_congr.specs.Laws.{Holds, Covers, ContainsIsMember, JoinIsUpper, IncludedIsSubset, MeetsIfCommon, CoversComplement, CoversConversion}
use Rattle.int_congr.specs.Rows.{unknown_of, only, modulo, modulo_period, congr_of, period, is_only, by_only, join_from, join_row, included_row, contains_row, may_meet, not_row}
use Rattle.int_congr.specs.Rows.{convert_row, negative_row, sum_row, difference_row, product_from, product_row, is_zero, quotient_row, remainder_row, shl_row, shr_row, and_row, or_row, xor_row}

-- ---- forms

-- a multiple, by another name of the number
pub renamed : (m x y : ℤ) → x ≡ y → IsMultiple m x → IsMultiple m y
renamed m x y e (k, f) = (k, sym e ∙ f)

period_holds : (r z : ℤ) (m : ℕ) → 0 < m → IsMultiple (pos m) (z -ℤ r) → Holds (modulo_period r m) z
period_holds r z m h k =
    let s = residue_split r m h in
    choose (λ c. Holds c z) (nat_le m (2 ^ 126)) _ _
    (λ _. renamed (pos m) ((z -ℤ r) +ℤ (r -ℤ pos (residue_of r m))) (z -ℤ pos (residue_of r m)) (omega (arith, ints))
    (multiple_add (pos m) (z -ℤ r) (r -ℤ pos (residue_of r m)) k (s.0, omega (arith, ints, s.1))))
    (λ _. multiple_one (z -ℤ pos 0))

pub congr_holds : (r z : ℤ) (m : ℕ) → IsMultiple (pos m) (z -ℤ r) → Holds (congr_of r m) z
congr_holds r z m k = by_size (is_small r)
  where
    by_size : (b : Bool) → Holds (modulo (cond b (Some r) None) m) z
    by_size false = multiple_one (z -ℤ pos 0)
    by_size true = choose (λ c. Holds c z) (nat_eq m 0) (only r) (modulo_period r m)
        (λ e. subst (λ (n : ℕ). IsMultiple (pos n) (z -ℤ r)) (eqb-true m 0 e) k)
        (λ e. period_holds r z m (omega (arith, eqb-false m 0 e)) k)

-- a number by itself
pub itself : (m r : ℤ) → IsMultiple m (r -ℤ r)
itself m r = (pos 0, omega (arith, ints))

exactly : (r : ℤ) (m : ℕ) → Holds (congr_of r m) r
exactly r m = congr_holds r r m (itself (pos m) r)

pub only_same : (c : Congr) (z : ℤ) → is_only c ≡ true → Holds c z → z ≡ c.rem
only_same c z e (k, f) = let p : period c ≡ 0 = eqb-true (period c) 0 e in
    let g : k *ℤ pos (period c) ≡ pos 0 = ap (λ (n : ℕ). k *ℤ pos n) p ∙ *ℤ-zero k in omega (arith, ints)

only_holds : (f : ℤ → ℤ → Congr) (exact : ℤ → ℤ → ℤ) → ((x y : ℤ) → Holds (f x y) (exact x y)) → Covers (by_only f) exact
only_holds f exact g a b x y h k = choose (λ c. Holds c (exact x y)) (is_only a && is_only b) (f a.rem b.rem) unknown_of
    (λ e. let t = and_parts (is_only a) (is_only b) e in rw (only_same a x t.0 h, only_same b y t.1 k) (g a.rem b.rem))
    (λ _. multiple_one (exact x y -ℤ pos 0))

-- ---- sets

pub contains_member : ContainsIsMember
unfolding contains_row
contains_member c z = multiple-divides (period c) (z -ℤ c.rem)

join_within : (a b : Congr) (z : ℤ) → IsMultiple (pos (gcd_of (period a) (gcd_of (period b) (unsigned_abs (a.rem -ℤ b.rem))))) (z -ℤ a.rem) → Holds (join_row a b) z
unfolding join_row
join_within a b z k = by_size (is_small (a.rem -ℤ b.rem))
  where
    by_size : (c : Bool) → Holds (join_from (cond c (Some (a.rem -ℤ b.rem)) None) a b) z
    by_size false = multiple_one (z -ℤ pos 0)
    by_size true = congr_holds a.rem z (gcd_of (period a) (gcd_of (period b) (unsigned_abs (a.rem -ℤ b.rem)))) k

pub join_upper : JoinIsUpper
join_upper a b z = (
  λ h. join_within a b z (multiple_left (period a) rest (z -ℤ a.rem) h),
  λ h. join_within a b z (renamed _ ((z -ℤ b.rem) -ℤ far) (z -ℤ a.rem) (omega (arith, ints)) (multiple_sub (pos (gcd_of (period a) rest)) (z -ℤ b.rem) far
      (multiple_right (period a) rest (z -ℤ b.rem) (multiple_left (period b) (unsigned_abs far) (z -ℤ b.rem) h))
      (multiple_right (period a) rest far (multiple_right (period b) (unsigned_abs far) far (multiple_self far))))),
)
  where
    far : ℤ
    far = a.rem -ℤ b.rem

    rest : ℕ
    rest = gcd_of (period b) (unsigned_abs far)

pub included_subset : IncludedIsSubset
unfolding included_row
included_subset a b = (there, back)
  where
    there : IsTrue (included_row a b) → (z : ℤ) → Holds a z → Holds b z
    there e z h =
        let t = and_parts (divides (period b) (period a)) (divides (period b) (unsigned_abs (a.rem -ℤ b.rem))) e in
        let m = multiple_trans (pos (period b)) (pos (period a)) (z -ℤ a.rem) ((multiple-divides (period b) (pos (period a))).0 t.0) h in
        renamed (pos (period b)) ((z -ℤ a.rem) +ℤ (a.rem -ℤ b.rem)) (z -ℤ b.rem) (omega (arith, ints))
        (multiple_add (pos (period b)) (z -ℤ a.rem) (a.rem -ℤ b.rem) m ((multiple-divides (period b) (a.rem -ℤ b.rem)).0 t.1))

    back : ((z : ℤ) → Holds a z → Holds b z) → IsTrue (included_row a b)
    back f =
        let first : IsMultiple (pos (period b)) (a.rem -ℤ b.rem) = f a.rem (itself (pos (period a)) a.rem) in
        let next : IsMultiple (pos (period b)) (a.rem +ℤ pos (period a) -ℤ b.rem) = f (a.rem +ℤ pos (period a)) (pos 1, omega (arith, ints)) in
        and_from _ _
        ((multiple-divides (period b) (pos (period a))).1 (renamed (pos (period b)) ((a.rem +ℤ pos (period a) -ℤ b.rem) -ℤ (a.rem -ℤ b.rem)) (pos (period a)) (omega (arith, ints))
        (multiple_sub (pos (period b)) (a.rem +ℤ pos (period a) -ℤ b.rem) (a.rem -ℤ b.rem) next first)))
        ((multiple-divides (period b) (a.rem -ℤ b.rem)).1 first)

pub meets_common : MeetsIfCommon
unfolding may_meet
meets_common a b z h k = (multiple-divides g (a.rem -ℤ b.rem)).1
    (renamed (pos g) ((z -ℤ b.rem) -ℤ (z -ℤ a.rem)) (a.rem -ℤ b.rem) (omega (arith, ints))
    (multiple_sub (pos g) (z -ℤ b.rem) (z -ℤ a.rem) (multiple_right (period a) (period b) (z -ℤ b.rem) k) (multiple_left (period a) (period b) (z -ℤ a.rem) h)))
  where
    g : ℕ
    g = gcd_of (period a) (period b)

-- ---- arithmetic

pub negative_holds : (a : Congr) (x : ℤ) → Holds a x → Holds (negative_row a) (neg_ℤ x)
unfolding negative_row
negative_holds a x h = congr_holds (neg_ℤ a.rem) (neg_ℤ x) (period a) (renamed _ (neg_ℤ (x -ℤ a.rem)) _ (omega (arith, ints)) (multiple_neg (pos (period a)) (x -ℤ a.rem) h))

pub sum_holds : Covers sum_row ◌+ℤ◌
unfolding sum_row
sum_holds a b x y h k = congr_holds (a.rem +ℤ b.rem) (x +ℤ y) g
    (renamed (pos g) ((x -ℤ a.rem) +ℤ (y -ℤ b.rem)) ((x +ℤ y) -ℤ (a.rem +ℤ b.rem)) (omega (arith, ints))
    (multiple_add (pos g) (x -ℤ a.rem) (y -ℤ b.rem) (multiple_left (period a) (period b) (x -ℤ a.rem) h) (multiple_right (period a) (period b) (y -ℤ b.rem) k)))
  where
    g : ℕ
    g = gcd_of (period a) (period b)

pub difference_holds : Covers difference_row ◌-ℤ◌
unfolding difference_row
difference_holds a b x y h k = congr_holds (a.rem -ℤ b.rem) (x -ℤ y) g
    (renamed (pos g) ((x -ℤ a.rem) -ℤ (y -ℤ b.rem)) ((x -ℤ y) -ℤ (a.rem -ℤ b.rem)) (omega (arith, ints))
    (multiple_sub (pos g) (x -ℤ a.rem) (y -ℤ b.rem) (multiple_left (period a) (period b) (x -ℤ a.rem) h) (multiple_right (period a) (period b) (y -ℤ b.rem) k)))
  where
    g : ℕ
    g = gcd_of (period a) (period b)

-- a product of multiples, by absolute values
times : (m n x y : ℤ) → IsMultiple (pos (unsigned_abs m)) x → IsMultiple (pos (unsigned_abs n)) y → IsMultiple (pos (unsigned_abs (m *ℤ n))) (x *ℤ y)
times m n x y h k = subst (λ (p : ℕ). IsMultiple (pos p) (x *ℤ y)) (sym (unsigned_abs-mul m n)) (multiple_times x y (pos (unsigned_abs m)) (pos (unsigned_abs n)) h k)

pub product_holds : Covers product_row ◌*ℤ◌
unfolding product_row
product_holds a b x y h k = by_size (is_small (a.modulus *ℤ b.modulus)) (is_small (a.modulus *ℤ b.rem)) (is_small (b.modulus *ℤ a.rem))
  where
    p : ℕ
    p = unsigned_abs (a.modulus *ℤ b.modulus)

    q : ℕ
    q = unsigned_abs (a.modulus *ℤ b.rem)

    s : ℕ
    s = unsigned_abs (b.modulus *ℤ a.rem)

    u : ℤ
    u = x -ℤ a.rem

    v : ℤ
    v = y -ℤ b.rem

    g : ℤ
    g = pos (gcd_of p (gcd_of q s))

    gap : x *ℤ y -ℤ a.rem *ℤ b.rem ≡ u *ℤ v +ℤ (u *ℤ b.rem +ℤ v *ℤ a.rem)
    gap = product_gap x y a.rem b.rem u v (omega (arith, ints)) (omega (arith, ints))

    whole : IsMultiple g (x *ℤ y -ℤ a.rem *ℤ b.rem)
    whole = renamed g _ _ (sym gap) (multiple_add g (u *ℤ v) (u *ℤ b.rem +ℤ v *ℤ a.rem)
        (multiple_left p (gcd_of q s) (u *ℤ v) (times a.modulus b.modulus u v h k))
        (multiple_add g (u *ℤ b.rem) (v *ℤ a.rem)
        (multiple_right p (gcd_of q s) (u *ℤ b.rem) (multiple_left q s (u *ℤ b.rem) (times a.modulus b.rem u b.rem h (multiple_self b.rem))))
        (multiple_right p (gcd_of q s) (v *ℤ a.rem) (multiple_right q s (v *ℤ a.rem) (times b.modulus a.rem v a.rem k (multiple_self a.rem))))))

    by_size : (c d e : Bool) → Holds (product_from (cond c (Some (a.modulus *ℤ b.modulus)) None) (cond d (Some (a.modulus *ℤ b.rem)) None) (cond e (Some (b.modulus *ℤ a.rem)) None)
        (bounded (a.rem *ℤ b.rem))) (x *ℤ y)
    by_size false d e = multiple_one (x *ℤ y -ℤ pos 0)
    by_size true false e = multiple_one (x *ℤ y -ℤ pos 0)
    by_size true true false = multiple_one (x *ℤ y -ℤ pos 0)
    by_size true true true = congr_holds (a.rem *ℤ b.rem) (x *ℤ y) (gcd_of p (gcd_of q s)) whole

pub quotient_holds : Covers quotient_row int_div
unfolding quotient_row
quotient_holds = only_holds (λ x y. cond (is_zero y) unknown_of (congr_of (int_div x y) 0)) int_div
    (λ x y. choose (λ c. Holds c (int_div x y)) (is_zero y) unknown_of (congr_of (int_div x y) 0) (λ _. multiple_one (int_div x y -ℤ pos 0)) (λ _. exactly (int_div x y) 0))

pub remainder_holds : Covers remainder_row int_rem
unfolding remainder_row
remainder_holds = only_holds (λ x y. cond (is_zero y) unknown_of (congr_of (int_rem x y) 0)) int_rem
    (λ x y. choose (λ c. Holds c (int_rem x y)) (is_zero y) unknown_of (congr_of (int_rem x y) 0) (λ _. multiple_one (int_rem x y -ℤ pos 0)) (λ _. exactly (int_rem x y) 0))

-- ---- shifts and bits

pub shl_holds : Covers shl_row shl_of
unfolding shl_row
shl_holds a b x y h k = choose (λ c. Holds c (shl_of x y)) (is_only b) (product_row a (only (pos (2 ^ unsigned_abs b.rem)))) unknown_of
    (λ e. rw (only_same b y e k) (product_holds a (only (pos (2 ^ unsigned_abs b.rem))) x (pos (2 ^ unsigned_abs b.rem)) h (itself (pos 0) (pos (2 ^ unsigned_abs b.rem)))))
    (λ _. multiple_one (shl_of x y -ℤ pos 0))

pub shr_holds : Covers shr_row shr_of
unfolding shr_row
shr_holds = only_holds (λ x y. congr_of (shr_of x y) 0) shr_of (λ x y. exactly (shr_of x y) 0)

pub not_holds : CoversComplement
unfolding not_row
not_holds shape a x t i h = rw (complement_is shape.lo shape.hi shape.width t x i)
    (congr_holds (top_of shape -ℤ a.rem) (top_of shape -ℤ x) (period a)
    (renamed (pos (period a)) (neg_ℤ (x -ℤ a.rem)) ((top_of shape -ℤ x) -ℤ (top_of shape -ℤ a.rem)) (omega (arith, ints)) (multiple_neg (pos (period a)) (x -ℤ a.rem) h)))

pub and_holds : Covers and_row and_of
unfolding and_row
and_holds = only_holds (λ x y. congr_of (and_of x y) 0) and_of (λ x y. exactly (and_of x y) 0)

pub or_holds : Covers or_row or_of
unfolding or_row
or_holds = only_holds (λ x y. congr_of (or_of x y) 0) or_of (λ x y. exactly (or_of x y) 0)

pub xor_holds : Covers xor_row xor_of
unfolding xor_row
xor_holds = only_holds (λ x y. congr_of (xor_of x y) 0) xor_of (λ x y. exactly (xor_of x y) 0)

-- ---- conversion

pub convert_holds : CoversConversion
unfolding convert_row
convert_holds shape a x h = choose (λ c. Holds c w) (is_only a) (congr_of (wrap shape.lo shape.width a.rem) 0) (congr_of a.rem g)
    (λ e. rw (only_same a x e h) (exactly (wrap shape.lo shape.width a.rem) 0))
    (λ _. congr_holds a.rem w g (renamed (pos g) ((w -ℤ x) +ℤ (x -ℤ a.rem)) (w -ℤ a.rem) (omega (arith, ints))
    (multiple_add (pos g) (w -ℤ x) (x -ℤ a.rem) (multiple_right (period a) (2 ^ shape.width) (w -ℤ x) (wrap_multiple shape.lo shape.width x))
    (multiple_left (period a) (2 ^ shape.width) (x -ℤ a.rem) h))))
  where
    w : ℤ
    w = wrap shape.lo shape.width x

    g : ℕ
    g = gcd_of (period a) (2 ^ shape.width)
