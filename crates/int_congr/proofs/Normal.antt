-- Answers have their remainders below their moduli, and a join is the least upper bound.
use Rattle.std.proofs.Common.{◌≡◌, ℕ, ◌^◌, ◌≤◌, ℤ, pos, neg_ℤ, ◌-ℤ◌, ◌+ℤ◌, ◌*ℤ◌, unsigned_abs, nat_eq, nat_le, int_div}
use Rattle.std.proofs.Common.{int_rem, IsTrue, Option, Some, None, ◌&&◌, refl, sym, subst, ◌∙◌, arith, inl, inr}
use Rattle.std.specs.Int.{◌∣◌}
use Rattle.std.proofs.lemmas.Int.{ints}
use Rattle.std.proofs.lemmas.Bool.{eqb-true, eqb-false, le-leb, false≢true}
use Rattle.machine_ints.specs.Bound.{bounded}
use Rattle.machine_ints.specs.Bits.{and_of, or_of, xor_of}
use Rattle.machine_ints.specs.Convert.{wrap}
use Rattle.machine_ints.specs.Operators.{shr_of}
use Rattle.machine_ints.specs.Divisors.{gcd_of, residue_of, IsMultiple}
use Rattle.machine_ints.proofs.Choices.{choose}
use Rattle.machine_ints.proofs.BoundLaws.{bounded_in}
use Rattle.machine_ints.proofs.Congruences.{multiple_add, multiple_sub, multiple_trans, multiple_of_dvd, dvd_of_multiple}
use Rattle.machine_ints.proofs.Gcds.{divides_gcd, gcd_le}
use Rattle.machine_ints.proofs.Products.{mul-neg}
use Rattle.machine_ints.proofs.Residues.{residue_below, residue_split}
use Rattle.int_interval.specs.Shapes.{top_of}
use Rattle.int_interval.specs.declared.shape.Shape.{Shape}
use Rattle.int_congr.specs.declared.congr.Congr.{Congr}
use Rattle.int_congr.specs.Laws.{Holds, IsNormal, IsAlwaysNormal, JoinIsLeast}
use Rattle.int_congr.specs.Rows.{unknown_of, only, modulo, modulo_period, congr_of, period, is_only, by_only, join_from, join_row, included_row, negative_row, sum_row}
use Rattle.int_congr.specs.Rows.{difference_row, product_from, product_row, is_zero, quotient_row, remainder_row, shl_row, shr_row, not_row, and_row, or_row, xor_row, convert_row}
use Rattle.int_congr.proofs.Cover.{renamed, itself, included_subset}

pub unknown_normal : IsNormal unknown_of
unknown_normal = inr (omega (arith, ints), omega (arith, ints))

pub modulo_normal : (o : Option ℤ) (m : ℕ) → IsNormal (modulo o m)
modulo_normal None m = unknown_normal
modulo_normal (Some r) m = choose IsNormal (nat_eq m 0) (only r) (modulo_period r m) (λ _. inl refl)
    (λ e. choose IsNormal (nat_le m (2 ^ 126)) _ _
    (λ _. let n = eqb-false m 0 e in inr (omega (arith, ints), omega (arith, ints, residue_below r m (omega arith))))
    (λ _. unknown_normal))

congr_normal : (r : ℤ) (m : ℕ) → IsNormal (congr_of r m)
congr_normal r m = modulo_normal (bounded r) m

only_normal : (f : ℤ → ℤ → Congr) → ((x y : ℤ) → IsNormal (f x y)) → IsAlwaysNormal (by_only f)
only_normal f g a b = choose IsNormal (is_only a && is_only b) _ _ (λ _. g a.rem b.rem) (λ _. unknown_normal)

pub join_normal : IsAlwaysNormal join_row
unfolding join_row
join_normal a b = from (bounded (a.rem -ℤ b.rem))
  where
    from : (o : Option ℤ) → IsNormal (join_from o a b)
    from None = unknown_normal
    from (Some far) = congr_normal a.rem (gcd_of (period a) (gcd_of (period b) (unsigned_abs far)))

pub negative_normal : (a : Congr) → IsNormal (negative_row a)
unfolding negative_row
negative_normal a = congr_normal (neg_ℤ a.rem) (period a)

pub sum_normal : IsAlwaysNormal sum_row
unfolding sum_row
sum_normal a b = congr_normal (a.rem +ℤ b.rem) (gcd_of (period a) (period b))

pub difference_normal : IsAlwaysNormal difference_row
unfolding difference_row
difference_normal a b = congr_normal (a.rem -ℤ b.rem) (gcd_of (period a) (period b))

pub product_normal : IsAlwaysNormal product_row
unfolding product_row
product_normal a b = from (bounded (a.modulus *ℤ b.modulus)) (bounded (a.modulus *ℤ b.rem)) (bounded (b.modulus *ℤ a.rem)) (bounded (a.rem *ℤ b.rem))
  where
    from : (p q s r : Option ℤ) → IsNormal (product_from p q s r)
    from None q s r = unknown_normal
    from (Some p) None s r = unknown_normal
    from (Some p) (Some q) None r = unknown_normal
    from (Some p) (Some q) (Some s) r = modulo_normal r (gcd_of (unsigned_abs p) (gcd_of (unsigned_abs q) (unsigned_abs s)))

pub quotient_normal : IsAlwaysNormal quotient_row
unfolding quotient_row
quotient_normal = only_normal _ (λ x y. choose IsNormal (is_zero y) _ _ (λ _. unknown_normal) (λ _. congr_normal (int_div x y) 0))

pub remainder_normal : IsAlwaysNormal remainder_row
unfolding remainder_row
remainder_normal = only_normal _ (λ x y. choose IsNormal (is_zero y) _ _ (λ _. unknown_normal) (λ _. congr_normal (int_rem x y) 0))

pub shl_normal : IsAlwaysNormal shl_row
unfolding shl_row
shl_normal a b = choose IsNormal (is_only b) _ _ (λ _. product_normal a (only (pos (2 ^ unsigned_abs b.rem)))) (λ _. unknown_normal)

pub shr_normal : IsAlwaysNormal shr_row
unfolding shr_row
shr_normal = only_normal _ (λ x y. congr_normal (shr_of x y) 0)

pub not_normal : (shape : Shape) (a : Congr) → IsNormal (not_row shape a)
unfolding not_row
not_normal shape a = congr_normal (top_of shape -ℤ a.rem) (period a)

pub and_normal : IsAlwaysNormal and_row
unfolding and_row
and_normal = only_normal _ (λ x y. congr_normal (and_of x y) 0)

pub or_normal : IsAlwaysNormal or_row
unfolding or_row
or_normal = only_normal _ (λ x y. congr_normal (or_of x y) 0)

pub xor_normal : IsAlwaysNormal xor_row
unfolding xor_row
xor_normal = only_normal _ (λ x y. congr_normal (xor_of x y) 0)

pub convert_normal : (shape : Shape) (a : Congr) → IsNormal (convert_row shape a)
unfolding convert_row
convert_normal shape a = choose IsNormal (is_only a) _ _ (λ _. congr_normal (wrap shape.lo shape.width a.rem) 0) (λ _. congr_normal a.rem (gcd_of (period a) (2 ^ shape.width)))

-- ---- the join

-- what is in a congruence by its parts differs from its first remainder by a multiple
period_back : (r z : ℤ) (m : ℕ) → m ≤ 2 ^ 126 → Holds (modulo (Some r) m) z → IsMultiple (pos m) (z -ℤ r)
period_back r z m h = choose Back (nat_eq m 0) (only r) (modulo_period r m)
    (λ e k. subst (λ (n : ℕ). IsMultiple (pos n) (z -ℤ r)) (sym (eqb-true m 0 e)) k)
    (λ e. choose Back (nat_le m (2 ^ 126)) _ _
    (λ _ k. let s = residue_split r m (omega (arith, eqb-false m 0 e)) in
    renamed (pos m) ((z -ℤ pos (residue_of r m)) +ℤ ((neg_ℤ s.0) *ℤ pos m)) (z -ℤ r) (omega (arith, ints, s.1, mul-neg s.0 (pos m)))
    (multiple_add (pos m) (z -ℤ pos (residue_of r m)) ((neg_ℤ s.0) *ℤ pos m) k (neg_ℤ s.0, refl)))
    (λ n. absurd (false≢true (sym n ∙ le-leb m (2 ^ 126) h))))
  where
    Back : Congr → Type 0
    Back c = Holds c z → IsMultiple (pos m) (z -ℤ r)

pub join_least : JoinIsLeast
unfolding join_row
join_least a b c (ra, pa) (rb, pb) i j = rw same ((included_subset (congr_of a.rem g) c).1 within)
  where
    far : ℤ
    far = a.rem -ℤ b.rem

    g : ℕ
    g = gcd_of (period a) (gcd_of (period b) (unsigned_abs far))

    same : join_from (bounded far) a b ≡ congr_of a.rem g
    same = let e : bounded far ≡ Some far = bounded_in far (omega (arith, ints)) in rw e refl

    small : g ≤ 2 ^ 126
    small = omega (arith, ints, gcd_le (period a) (gcd_of (period b) (unsigned_abs far)), gcd_le (period b) (unsigned_abs far))

    -- c has the first congruence's remainder and, one modulus on, the number after it
    at : (x : Congr) → IsTrue (included_row x c) → IsMultiple (pos (period c)) (x.rem -ℤ c.rem)
    at x e = (included_subset x c).0 e x.rem (itself (pos (period x)) x.rem)

    modulus : (x : Congr) → IsTrue (included_row x c) → period c ∣ period x
    modulus x e =
        let next : Holds c (x.rem +ℤ pos (period x)) = (included_subset x c).0 e (x.rem +ℤ pos (period x)) (pos 1, omega (arith, ints)) in
        dvd_of_multiple (period c) (pos (period x)) (renamed (pos (period c)) ((x.rem +ℤ pos (period x) -ℤ c.rem) -ℤ (x.rem -ℤ c.rem)) (pos (period x)) (omega (arith, ints))
        (multiple_sub (pos (period c)) (x.rem +ℤ pos (period x) -ℤ c.rem) (x.rem -ℤ c.rem) next (at x e)))

    apart : period c ∣ unsigned_abs far
    apart = dvd_of_multiple (period c) far (renamed (pos (period c)) ((a.rem -ℤ c.rem) -ℤ (b.rem -ℤ c.rem)) far (omega (arith, ints))
        (multiple_sub (pos (period c)) (a.rem -ℤ c.rem) (b.rem -ℤ c.rem) (at a i) (at b j)))

    divided : IsMultiple (pos (period c)) (pos g)
    divided = multiple_of_dvd (period c) (pos g) (divides_gcd (period c) (period a) (gcd_of (period b) (unsigned_abs far)) (modulus a i)
        (divides_gcd (period c) (period b) (unsigned_abs far) (modulus b j) apart))

    within : (z : ℤ) → Holds (congr_of a.rem g) z → Holds c z
    within z h =
        let e : bounded a.rem ≡ Some a.rem = bounded_in a.rem (omega arith) in
        let k = period_back a.rem z g small (subst (λ o. Holds (modulo o g) z) e h) in
        renamed (pos (period c)) ((z -ℤ a.rem) +ℤ (a.rem -ℤ c.rem)) (z -ℤ c.rem) (omega (arith, ints))
        (multiple_add (pos (period c)) (z -ℤ a.rem) (a.rem -ℤ c.rem) (multiple_trans (pos (period c)) (pos g) (z -ℤ a.rem) divided k) (at a i))
