-- Operators on intervals of a type leave the type only where a check speaks of it.
use Rattle.std.proofs.Common.{◌≡◌, ℕ, ◌-◌, ◌^◌, max, ℤ, pos, neg_ℤ, ◌-ℤ◌, ◌≤ℤ◌}
use Rattle.std.proofs.Common.{unsigned_abs, int_div, int_rem, int_le, int_lt, true, cond, sym, ◌∙◌, arith, ⊎_elim}
use Rattle.std.specs.Int.{int_min, int_max}
use Rattle.std.proofs.lemmas.Int.{ints, clamps}
use Rattle.std.proofs.lemmas.Bool.{and_parts, and_from, false≢true}
use lib.Pow.{pow_mono, pow_pos}
use Rattle.machine_ints.specs.Bits.{and_of, or_of, xor_of, length_of}
use Rattle.machine_ints.specs.Convert.{wrap}
use Rattle.machine_ints.specs.Corners.{least4, greatest4}
use Rattle.machine_ints.specs.Operators.{IsWithin, shr_of}
use Rattle.machine_ints.proofs.BitLaws.{length_least}
use Rattle.machine_ints.proofs.Choices.{choose}
use Rattle.machine_ints.proofs.Conversions.{range_of_type}
use Rattle.machine_ints.proofs.Results.{wrap_within, natural_quotient, remainder_within, shr_within, and_within, or_within, xor_within, complement_is}
use Rattle.int_interval.specs.declared.shape.Shape.{Shape}
use Rattle.int_interval.specs.declared.interval.Interval.{Interval}
use Rattle.int_interval.specs.declared.interval.Interval.TheVariants.{Empty, Within, All}
use Rattle.int_interval.specs.Rows.{cut, by_ends, corner_cut, is_one, are_one, are_natural, is_inside, join_row, meet_row, quotients_below, quotients_above, quotient_row}
use Rattle.int_interval.specs.Rows.{reach, remainder_low, remainder_high, remainders, remainder_row, shr_row, mask, by_bits, not_row, and_row, or_row, xor_row, convert_row}
use Rattle.int_interval.specs.Shapes.{IsShape, IsShift, IsTyped, top_of}
use Rattle.int_interval.proofs.Cuts.{cut_in}

-- both ends lie in the type; their order isn't asked
abbrev pub IsEnclosed : Shape → Interval → Type 0
IsEnclosed shape Empty = Unit {0}
IsEnclosed shape (Within lo hi) = (shape.lo ≤ℤ lo) × (hi ≤ℤ shape.hi)
IsEnclosed shape All = ⊥

pub typed_enclosed : (shape : Shape) (a : Interval) → IsTyped shape a → IsEnclosed shape a
typed_enclosed shape Empty u = tt
typed_enclosed shape (Within p q) u = (u.0, u.2)
typed_enclosed shape All u = u

ends_enclosed : (shape : Shape) (f : ℤ → ℤ → ℤ → ℤ → Interval) (a b : Interval) → IsTyped shape a → IsTyped shape b
    → ((p q r s : ℤ) → IsTyped shape (Within p q) → IsTyped shape (Within r s) → IsEnclosed shape (f p q r s)) → IsEnclosed shape (by_ends f a b)
ends_enclosed shape f Empty b u v g = tt
ends_enclosed shape f (Within p q) Empty u v g = tt
ends_enclosed shape f (Within p q) (Within r s) u v g = g p q r s u v
ends_enclosed shape f (Within p q) All u v g = absurd v
ends_enclosed shape f All b u v g = absurd u

pub meet_enclosed : (shape : Shape) (a b : Interval) → IsEnclosed shape a → IsEnclosed shape (meet_row a b)
unfolding meet_row
meet_enclosed shape Empty b u = tt
meet_enclosed shape (Within p q) Empty u = tt
meet_enclosed shape (Within p q) (Within r s) u = choose (IsEnclosed shape) (int_le (int_max p r) (int_min q s)) _ _
    (λ _. (omega (arith, ints, clamps, u.0), omega (arith, ints, clamps, u.1))) (λ _. tt)
meet_enclosed shape (Within p q) All u = u
meet_enclosed shape All b u = absurd u

pub meet_type_enclosed : (shape : Shape) (a : Interval) → IsEnclosed shape (meet_row a (Within shape.lo shape.hi))
unfolding meet_row
meet_type_enclosed shape Empty = tt
meet_type_enclosed shape (Within p q) = choose (IsEnclosed shape) (int_le (int_max p shape.lo) (int_min q shape.hi)) _ _
    (λ _. (omega (arith, ints, clamps), omega (arith, ints, clamps))) (λ _. tt)
meet_type_enclosed shape All = (omega (arith, ints), omega (arith, ints))

module _ (shape : Shape) (t : IsShape shape) where
  pub cut_enclosed : (p q : ℤ) → IsWithin shape.lo shape.hi p → IsWithin shape.lo shape.hi q → IsEnclosed shape (cut p q)
  cut_enclosed p q i j = let r = range_of_type shape.lo shape.hi shape.width t in
      rw (cut_in p q (omega (arith, ints, i.0, i.1, r.least, r.greatest)) (omega (arith, ints, j.0, j.1, r.least, r.greatest))) (i.0, j.1)

  low_end : IsWithin shape.lo shape.hi shape.lo
  low_end = let r = range_of_type shape.lo shape.hi shape.width t in (omega (arith, ints), omega (arith, ints, r.low, r.high))

  high_end : IsWithin shape.lo shape.hi shape.hi
  high_end = let r = range_of_type shape.lo shape.hi shape.width t in (omega (arith, ints, r.low, r.high), omega (arith, ints))

  zero_in : IsWithin shape.lo shape.hi (pos 0)
  zero_in = let r = range_of_type shape.lo shape.hi shape.width t in (r.low, r.high)

  pub corner_enclosed : (f : ℤ → ℤ → ℤ) (p q r s : ℤ) → IsWithin shape.lo shape.hi (f p r) → IsWithin shape.lo shape.hi (f p s) → IsWithin shape.lo shape.hi (f q r)
      → IsWithin shape.lo shape.hi (f q s) → IsEnclosed shape (corner_cut f p q r s)
  unfolding corner_cut
  corner_enclosed f p q r s i j k l = cut_enclosed (least4 (f p r) (f p s) (f q r) (f q s)) (greatest4 (f p r) (f p s) (f q r) (f q s)) (least (f p r) (f p s) (f q r) (f q s) i j k l)
      (greatest (f p r) (f p s) (f q r) (f q s) i j k l)
    where
      least : (u v w z : ℤ) → IsWithin shape.lo shape.hi u → IsWithin shape.lo shape.hi v → IsWithin shape.lo shape.hi w → IsWithin shape.lo shape.hi z → IsWithin shape.lo shape.hi (least4 u v w z)
      least u v w z i j k l = (omega (arith, ints, clamps, i.0, j.0, k.0, l.0), omega (arith, ints, clamps, i.1))

      greatest : (u v w z : ℤ) → IsWithin shape.lo shape.hi u → IsWithin shape.lo shape.hi v → IsWithin shape.lo shape.hi w → IsWithin shape.lo shape.hi z
          → IsWithin shape.lo shape.hi (greatest4 u v w z)
      greatest u v w z i j k l = (omega (arith, ints, clamps, i.0), omega (arith, ints, clamps, i.1, j.1, k.1, l.1))

  pub join_enclosed : (a b : Interval) → IsTyped shape a → IsTyped shape b → IsEnclosed shape (join_row a b)
  unfolding join_row
  join_enclosed Empty b u v = typed_enclosed shape b v
  join_enclosed (Within p q) Empty u v = (u.0, u.2)
  join_enclosed (Within p q) (Within r s) u v = cut_enclosed (int_min p r) (int_max q s)
      (omega (arith, ints, clamps, u.0, v.0), omega (arith, ints, clamps, u.1, u.2)) (omega (arith, ints, clamps, u.0, u.1), omega (arith, ints, clamps, u.2, v.2))
  join_enclosed (Within p q) All u v = absurd v
  join_enclosed All b u v = absurd u

  pub convert_enclosed : (a : Interval) → IsEnclosed shape (convert_row shape a)
  unfolding convert_row
  convert_enclosed Empty = tt
  convert_enclosed (Within p q) = choose (IsEnclosed shape) (is_inside p q shape.lo shape.hi) _ _
      (λ e. let i = and_parts (int_le shape.lo p) (int_le q shape.hi) e in let l = i.0 in let m = i.1 in (omega (arith, ints), omega (arith, ints)))
      (λ _. choose (IsEnclosed shape) (is_one p q) _ _
      (λ _. let w = wrap_within shape.lo shape.hi shape.width t p in cut_enclosed (wrap shape.lo shape.width p) (wrap shape.lo shape.width p) w w)
      (λ _. cut_enclosed shape.lo shape.hi low_end high_end))
  convert_enclosed All = cut_enclosed shape.lo shape.hi low_end high_end

  -- ---- `/` of an unsigned type, and `%`

  pub quotient_enclosed : (a b : Interval) → pos 0 ≤ℤ shape.lo → IsTyped shape a → IsTyped shape b → IsEnclosed shape (quotient_row a b)
  unfolding quotient_row quotients_below quotients_above join_row
  quotient_enclosed a b n u v = ends_enclosed shape _ a b u v (λ p q r s i j.
      choose (λ w. IsEnclosed shape (join_row w (cond (int_lt (pos 0) s) (corner_cut int_div p q (int_max r (pos 1)) s) Empty))) (int_lt r (pos 0)) _ Empty
      (λ e. absurd (omega (arith, ints, j.0)))
      (λ _. choose (IsEnclosed shape) (int_lt (pos 0) s) _ Empty
      (λ e. let left : IsWithin shape.lo shape.hi p = (i.0, omega (arith, ints, i.1, i.2)) in let right : IsWithin shape.lo shape.hi q = (omega (arith, ints, i.0, i.1), i.2) in
      let from : IsWithin shape.lo shape.hi (int_max r (pos 1)) = (omega (arith, ints, clamps, j.0), omega (arith, ints, clamps, j.1, j.2)) in
      let to : IsWithin shape.lo shape.hi s = (omega (arith, ints, j.0, j.1), j.2) in
      corner_enclosed int_div p q (int_max r (pos 1)) s (divided p (int_max r (pos 1)) n left from) (divided p s n left to) (divided q (int_max r (pos 1)) n right from) (divided q s n right to))
      (λ _. tt)))
    where
      divided : (x y : ℤ) → pos 0 ≤ℤ shape.lo → IsWithin shape.lo shape.hi x → IsWithin shape.lo shape.hi y → IsWithin shape.lo shape.hi (int_div x y)
      divided = natural_quotient shape.lo shape.hi shape.width t

  lowest_within : (a : ℤ) (m : ℕ) → IsWithin shape.lo shape.hi a → IsWithin shape.lo shape.hi (remainder_low a m)
  lowest_within a m i = choose (IsWithin shape.lo shape.hi) (int_le (pos 0) a) _ _ (λ _. zero_in) (λ e. (omega (arith, ints, clamps, i.0), let z = zero_in in omega (arith, ints, clamps, z.1)))

  highest_within : (b : ℤ) (m : ℕ) → IsWithin shape.lo shape.hi b → IsWithin shape.lo shape.hi (remainder_high b m)
  highest_within b m i = choose (IsWithin shape.lo shape.hi) (int_le b (pos 0)) _ _ (λ _. zero_in) (λ e. (let z = zero_in in omega (arith, ints, clamps, z.0), omega (arith, ints, clamps, i.1)))

  pub remainder_enclosed : (a b : Interval) → IsTyped shape a → IsTyped shape b → IsEnclosed shape (remainder_row a b)
  unfolding remainder_row remainders
  remainder_enclosed a b u v = ends_enclosed shape _ a b u v (λ p q r s i j.
      let left : IsWithin shape.lo shape.hi p = (i.0, omega (arith, ints, i.1, i.2)) in let right : IsWithin shape.lo shape.hi q = (omega (arith, ints, i.0, i.1), i.2) in
      choose (IsEnclosed shape) (are_one r (pos 0) s (pos 0)) _ _ (λ _. tt)
      (λ n. choose (IsEnclosed shape) (are_one p q r s) _ _
      (λ e. let w = remainder_within shape.lo shape.hi shape.width t p r left (λ z. absurd (false≢true (sym n ∙ only_zero r s z (and_parts (is_one p q) (is_one r s) e).1))) in
      cut_enclosed (int_rem p r) (int_rem p r) w w)
      (λ _. cut_enclosed (remainder_low p (reach r s)) (remainder_high q (reach r s)) (lowest_within p (reach r s) left) (highest_within q (reach r s) right))))
    where
      only_zero : (r s : ℤ) → r ≡ pos 0 → is_one r s ≡ true → are_one r (pos 0) s (pos 0) ≡ true
      only_zero r s z e = let w = and_parts (int_le r s) (int_le s r) e in let k = w.0 in let l = w.1 in
          and_from (is_one r (pos 0)) (is_one s (pos 0))
          (and_from (int_le r (pos 0)) (int_le (pos 0) r) (sym (omega (arith, ints))) (sym (omega (arith, ints))))
          (and_from (int_le s (pos 0)) (int_le (pos 0) s) (sym (omega (arith, ints))) (sym (omega (arith, ints))))

  -- ---- `>>` and the bit operators

  pub shr_enclosed : (a b : Interval) → IsTyped shape a → IsShift shape b → IsEnclosed shape (shr_row a b)
  unfolding shr_row
  shr_enclosed Empty b u v = tt
  shr_enclosed (Within p q) Empty u v = tt
  shr_enclosed (Within p q) (Within r s) u v =
      let left : IsWithin shape.lo shape.hi p = (u.0, omega (arith, ints, u.1, u.2)) in let right : IsWithin shape.lo shape.hi q = (omega (arith, ints, u.0, u.1), u.2) in
      corner_enclosed shr_of p q r s (shifted p r left) (shifted p s left) (shifted q r right) (shifted q s right)
    where
      shifted : (x y : ℤ) → IsWithin shape.lo shape.hi x → IsWithin shape.lo shape.hi (shr_of x y)
      shifted = shr_within shape.lo shape.hi shape.width t
  shr_enclosed (Within p q) All u v = absurd v
  shr_enclosed All b u v = absurd u

  pub not_enclosed : (a : Interval) → IsTyped shape a → IsEnclosed shape (not_row shape a)
  unfolding not_row
  not_enclosed Empty u = tt
  not_enclosed (Within p q) u = cut_enclosed (top_of shape -ℤ q) (top_of shape -ℤ p) (turned q (omega (arith, ints, u.0, u.1), u.2)) (turned p (u.0, omega (arith, ints, u.1, u.2)))
    where
      turned : (x : ℤ) → IsWithin shape.lo shape.hi x → IsWithin shape.lo shape.hi (top_of shape -ℤ x)
      turned x i = rw (← complement_is shape.lo shape.hi shape.width t x i) (wrap_within shape.lo shape.hi shape.width t _)
  not_enclosed All u = absurd u

  -- the mask of numbers of the type is one
  mask_within : (b d : ℤ) → pos 0 ≤ℤ b → pos 0 ≤ℤ d → b ≤ℤ shape.hi → d ≤ℤ shape.hi → IsWithin shape.lo shape.hi (mask b d)
  mask_within b d h k i j = let r = range_of_type shape.lo shape.hi shape.width t in ⊎_elim
      (λ (u : (shape.lo ≡ pos 0) × (shape.hi ≡ pos (2 ^ shape.width - 1))). let e = u.1 in (omega (arith, ints, r.low), below shape.width e))
      (λ (u : (shape.lo ≡ neg_ℤ (pos (2 ^ (shape.width - 1)))) × (shape.hi ≡ pos (2 ^ (shape.width - 1) - 1))). let e = u.1 in (omega (arith, ints, r.low), below (shape.width - 1) e))
      t.2
    where
      n : ℕ
      n = max (unsigned_abs b) (unsigned_abs d)

      below : (w : ℕ) → shape.hi ≡ pos (2 ^ w - 1) → mask b d ≤ℤ shape.hi
      below w e = let p = pow_pos w in let l = length_least n w (omega (arith, ints)) in let m = pow_mono {i = length_of n} {j = w} l in omega (arith, ints)

  bits_enclosed : (exact : ℤ → ℤ → ℤ) (low : ℤ → ℤ → ℤ → ℤ → Interval) (a b : Interval)
      → ((x y : ℤ) → IsWithin shape.lo shape.hi x → IsWithin shape.lo shape.hi y → IsWithin shape.lo shape.hi (exact x y))
      → ((p q r s : ℤ) → IsTyped shape (Within p q) → IsTyped shape (Within r s) → pos 0 ≤ℤ p → pos 0 ≤ℤ r → IsEnclosed shape (low p q r s)) → IsTyped shape a → IsTyped shape b
      → IsEnclosed shape (by_bits shape exact low a b)
  bits_enclosed exact low a b g f u v = ends_enclosed shape _ a b u v (λ p q r s i j.
      choose (IsEnclosed shape) (are_one p q r s) _ _
      (λ _. let w = g p r (i.0, omega (arith, ints, i.1, i.2)) (j.0, omega (arith, ints, j.1, j.2)) in cut_enclosed (exact p r) (exact p r) w w)
      (λ _. choose (IsEnclosed shape) (are_natural p r) (low p q r s) (cut shape.lo shape.hi)
      (λ n. let m = and_parts (int_le (pos 0) p) (int_le (pos 0) r) n in let k = m.0 in let l = m.1 in f p q r s i j (omega (arith, ints)) (omega (arith, ints)))
      (λ _. cut_enclosed shape.lo shape.hi low_end high_end)))

  pub and_enclosed : (a b : Interval) → IsTyped shape a → IsTyped shape b → IsEnclosed shape (and_row shape a b)
  unfolding and_row
  and_enclosed a b = bits_enclosed and_of (λ a b c d. cut (pos 0) (int_min b d)) a b (and_within shape.lo shape.hi shape.width t)
      (λ p q r s i j h k. cut_enclosed (pos 0) (int_min q s) zero_in (omega (arith, ints, clamps, i.0, i.1, j.0, j.1), omega (arith, ints, clamps, i.2)))

  pub or_enclosed : (a b : Interval) → IsTyped shape a → IsTyped shape b → IsEnclosed shape (or_row shape a b)
  unfolding or_row
  or_enclosed a b = bits_enclosed or_of (λ a b c d. cut (int_max a c) (mask b d)) a b (or_within shape.lo shape.hi shape.width t)
      (λ p q r s i j h k. cut_enclosed (int_max p r) (mask q s) (omega (arith, ints, clamps, i.0), omega (arith, ints, clamps, i.1, i.2, j.1, j.2))
      (mask_within q s (omega (arith, ints, i.1)) (omega (arith, ints, j.1)) i.2 j.2))

  pub xor_enclosed : (a b : Interval) → IsTyped shape a → IsTyped shape b → IsEnclosed shape (xor_row shape a b)
  unfolding xor_row
  xor_enclosed a b = bits_enclosed xor_of (λ a b c d. cut (pos 0) (mask b d)) a b (xor_within shape.lo shape.hi shape.width t)
      (λ p q r s i j h k. cut_enclosed (pos 0) (mask q s) zero_in (mask_within q s (omega (arith, ints, i.1)) (omega (arith, ints, j.1)) i.2 j.2))
