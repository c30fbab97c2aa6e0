-- A check that is passed at the ends of the operands' ranges is passed by all their numbers, and only then.
use Rattle.std.proofs.Common.{◌≡◌, ◌≢◌, ◌↔◌, ℕ, ◌^◌, ◌≤◌, ◌<◌, ℤ, pos, negsuc, neg_ℤ, ◌+ℤ◌, ◌-ℤ◌, ◌*ℤ◌, ◌≤ℤ◌}
use Rattle.std.proofs.Common.{◌<ℤ◌, unsigned_abs, int_le, int_lt, nat_lt, Bool, true, false, not, ◌&&◌, cond, refl, sym, subst, arith, ⊎_elim}
use Rattle.std.proofs.lemmas.Int.{ints, clamps}
use Rattle.std.proofs.lemmas.Bool.{and_parts, and_from, false≢true, cases_lt, ltb-false}
use lib.Pow.{pow_mono, pow_pos}
use Rattle.machine_ints.specs.Bits.{not_of}
use Rattle.machine_ints.specs.Bound.{bounded}
use Rattle.machine_ints.specs.Convert.{IsType}
use Rattle.machine_ints.specs.Decided.{IsOrdered, IsAmong, AlwaysPasses, UnaryAlwaysPasses}
use Rattle.machine_ints.specs.Operators.{PassesOverflow, shl_of}
use Rattle.machine_ints.specs.declared.decided.Ends.{Ends}
use Rattle.machine_ints.specs.declared.operators.Check.{Check}
use Rattle.machine_ints.specs.declared.operators.Check.TheVariants.{Division, Overflow, Shift}
use Rattle.machine_ints.specs.declared.operators.Operator.{Operator}
use Rattle.machine_ints.specs.declared.operators.Operator.TheVariants.{Add, Sub, Mul, Div, Rem, Shl, Shr, And, Or, Xor}
use Rattle.machine_ints.specs.declared.operators.UnaryOperator.{UnaryOperator}
use Rattle.machine_ints.specs.declared.operators.UnaryOperator.TheVariants.{Negate, Complement}
use Rattle.machine_ints.specs.inner.Decided.{is_among, is_given_among, are_given_among, reach, is_shifted_among, ends_fit, ends_pass, unary_ends_fit}
use Rattle.machine_ints.proofs.BitLaws.{not-is}
use Rattle.machine_ints.proofs.BoundLaws.{bounded_in, bounded_out}
use Rattle.machine_ints.proofs.Choices.{choose}
use Rattle.machine_ints.proofs.Conversions.{range_of_type}
use Rattle.machine_ints.proofs.Corners.{Cornered, cornered_mul}
use Rattle.machine_ints.proofs.Products.{mul_le, mul_comm}

-- ---- the tests

among_true : (e : Ends) (z : ℤ) → IsAmong e z → is_among e z ≡ true
among_true e z (l, h) = and_from (int_le e.lo z) (int_le z e.hi) (sym (omega (arith, ints))) (sym (omega (arith, ints)))

true_among : (e : Ends) (z : ℤ) → is_among e z ≡ true → IsAmong e z
true_among e z t = let p = and_parts (int_le e.lo z) (int_le z e.hi) t in let l = p.0 in let h = p.1 in (omega (arith, ints), omega (arith, ints))

lacks : (b : Bool) → b ≡ true → not b ≡ true → ⊥
lacks true e f = false≢true f
lacks false e f = false≢true e

not_from : (b : Bool) → (b ≡ true → ⊥) → not b ≡ true
not_from true n = absurd (n refl)
not_from false n = refl

module _ (t : Ends) (width : ℕ) (is_type : IsType t.lo t.hi width) where
  given_true : (z : ℤ) → IsAmong t z → is_given_among t (bounded z) ≡ true
  given_true z i = let r = range_of_type t.lo t.hi width is_type in
      let e : bounded z ≡ _ = bounded_in z (omega (arith, ints, i.0, i.1, r.least, r.greatest)) in
      rw e (among_true t z i)

  true_given : (z : ℤ) → is_given_among t (bounded z) ≡ true → IsAmong t z
  true_given z = ⊎_elim
      (λ (far : 2 ^ 126 < unsigned_abs z). rw (bounded_out z far) (λ e. absurd (false≢true e)))
      (λ (near : unsigned_abs z ≤ 2 ^ 126). rw (bounded_in z near) (true_among t z))
      (cases_lt (2 ^ 126) (unsigned_abs z))

  both_true : (p q : ℤ) → IsAmong t p → IsAmong t q → are_given_among t (bounded p) (bounded q) ≡ true
  both_true p q i j = and_from _ _ (given_true p i) (given_true q j)

  true_both : (p q : ℤ) → are_given_among t (bounded p) (bounded q) ≡ true → IsAmong t p × IsAmong t q
  true_both p q e = let u = and_parts (is_given_among t (bounded p)) (is_given_among t (bounded q)) e in (true_given p u.0, true_given q u.1)

  -- ---- operator by operator, on ranges that have a number

  module _ (a b : Ends) (f : IsOrdered a) (g : IsOrdered b) where
    low : IsAmong a a.lo
    low = (omega (arith, ints), f)

    high : IsAmong a a.hi
    high = (f, omega (arith, ints))

    low' : IsAmong b b.lo
    low' = (omega (arith, ints), g)

    high' : IsAmong b b.hi
    high' = (g, omega (arith, ints))

    abbrev Decides : Bool → ((x y : ℤ) → Type 0) → Type 0
    Decides test passes = (test ≡ true) ↔ ((x y : ℤ) → IsAmong a x → IsAmong b y → passes x y)

    add_decides : Decides (ends_fit Add t a b) (λ x y. IsAmong t (x +ℤ y))
    add_decides = (
      λ e x y i j. let u = true_both (a.lo +ℤ b.lo) (a.hi +ℤ b.hi) e in let l = u.0 in let m = u.1 in (omega (arith, ints, i.0, j.0, l.0), omega (arith, ints, i.1, j.1, m.1)),
      λ all. both_true (a.lo +ℤ b.lo) (a.hi +ℤ b.hi) (all a.lo b.lo low low') (all a.hi b.hi high high'),
    )

    sub_decides : Decides (ends_fit Sub t a b) (λ x y. IsAmong t (x -ℤ y))
    sub_decides = (
      λ e x y i j. let u = true_both (a.lo -ℤ b.hi) (a.hi -ℤ b.lo) e in let l = u.0 in let m = u.1 in (omega (arith, ints, i.0, j.1, l.0), omega (arith, ints, i.1, j.0, m.1)),
      λ all. both_true (a.lo -ℤ b.hi) (a.hi -ℤ b.lo) (all a.lo b.hi low high') (all a.hi b.lo high low'),
    )

    mul_decides : Decides (ends_fit Mul t a b) (λ x y. IsAmong t (x *ℤ y))
    mul_decides = (
      λ e x y i j. let u = and_parts (are_given_among t (bounded (a.lo *ℤ b.lo)) (bounded (a.lo *ℤ b.hi))) (are_given_among t (bounded (a.hi *ℤ b.lo)) (bounded (a.hi *ℤ b.hi))) e in
          let v = true_both (a.lo *ℤ b.lo) (a.lo *ℤ b.hi) u.0 in let w = true_both (a.hi *ℤ b.lo) (a.hi *ℤ b.hi) u.1 in
          between (a.lo *ℤ b.lo) (a.lo *ℤ b.hi) (a.hi *ℤ b.lo) (a.hi *ℤ b.hi) (x *ℤ y) v.0 v.1 w.0 w.1 (cornered_mul a.lo a.hi b.lo b.hi x y i.0 i.1 j.0 j.1),
      λ all. and_from _ _ (both_true (a.lo *ℤ b.lo) (a.lo *ℤ b.hi) (all a.lo b.lo low low') (all a.lo b.hi low high'))
          (both_true (a.hi *ℤ b.lo) (a.hi *ℤ b.hi) (all a.hi b.lo high low') (all a.hi b.hi high high')),
    )
      where
        between : (p q r s z : ℤ) → IsAmong t p → IsAmong t q → IsAmong t r → IsAmong t s → Cornered p q r s z → IsAmong t z
        between p q r s z i j k l c = (omega (arith, ints, clamps, i.0, j.0, k.0, l.0, c.low), omega (arith, ints, clamps, i.1, j.1, k.1, l.1, c.high))

    quotient_decides : Decides (not (is_among a t.lo && is_among b (negsuc 0))) (λ x y. x ≡ t.lo → y ≢ negsuc 0)
    quotient_decides = (
      λ e x y i j p q. lacks (is_among a t.lo && is_among b (negsuc 0)) (and_from _ _ (among_true a t.lo (subst (IsAmong a) p i)) (among_true b (negsuc 0) (subst (IsAmong b) q j))) e,
      λ all. not_from (is_among a t.lo && is_among b (negsuc 0))
          (λ e. let u = and_parts (is_among a t.lo) (is_among b (negsuc 0)) e in all t.lo (negsuc 0) (true_among a t.lo u.0) (true_among b (negsuc 0) u.1) refl refl),
    )

    divisor_decides : Decides (not (is_among b (pos 0))) (λ x y. y ≢ pos 0)
    divisor_decides = (
      λ e x y i j p. lacks (is_among b (pos 0)) (among_true b (pos 0) (subst (IsAmong b) p j)) e,
      λ all. not_from (is_among b (pos 0)) (λ e. all a.lo (pos 0) low (true_among b (pos 0) e) refl),
    )

    shift_decides : Decides (int_le (pos 0) b.lo && int_lt b.hi (pos width)) (λ x y. (pos 0 ≤ℤ y) × (y <ℤ pos width))
    shift_decides = (
      λ e x y i j. let u = and_parts (int_le (pos 0) b.lo) (int_lt b.hi (pos width)) e in let l = u.0 in let m = u.1 in (omega (arith, ints, j.0), omega (arith, ints, j.1)),
      λ all. let l = (all a.lo b.lo low low').0 in let m = (all a.lo b.hi low high').1 in
          and_from (int_le (pos 0) b.lo) (int_lt b.hi (pos width)) (sym (omega (arith, ints))) (sym (omega (arith, ints))),
    )

    farthest : (P : ℕ → Type 0) → P (unsigned_abs b.lo) → P (unsigned_abs b.hi) → P (reach b)
    farthest P p q = ⊎_elim
        (λ (l : unsigned_abs b.lo < unsigned_abs b.hi). let e : unsigned_abs b.hi ≡ reach b = omega arith in subst P e q)
        (λ (l : unsigned_abs b.hi ≤ unsigned_abs b.lo). let e : unsigned_abs b.lo ≡ reach b = omega arith in subst P e p)
        (cases_lt (unsigned_abs b.lo) (unsigned_abs b.hi))

    nearer : (y : ℤ) → IsAmong b y → unsigned_abs y ≤ reach b
    nearer y j = omega (arith, ints, j.0, j.1)

    shifts_below : is_shifted_among t a.hi (reach b) ≡ true → (x y : ℤ) → pos 0 ≤ℤ x → x ≤ℤ a.hi → IsAmong b y → shl_of x y ≤ℤ t.hi
    shifts_below e x y l h j = by_test (int_le a.hi (pos 0)) refl (nat_lt (reach b) 127) e
      where
        by_test : (c : Bool) → int_le a.hi (pos 0) ≡ c → (d : Bool) → cond c true (cond d (is_given_among t (bounded (a.hi *ℤ pos (2 ^ reach b)))) false) ≡ true → shl_of x y ≤ℤ t.hi
        by_test true s d e = let z : x ≡ pos 0 = omega (arith, ints) in let r = range_of_type t.lo t.hi width is_type in rw z (omega (arith, ints, r.high))
        by_test false s true e =
            let top = (true_given (a.hi *ℤ pos (2 ^ reach b)) e).1 in
            let up = mul_le x a.hi (pos (2 ^ unsigned_abs y)) h (omega (arith, ints)) in
            let far = mul_le (pos (2 ^ unsigned_abs y)) (pos (2 ^ reach b)) a.hi (omega (arith, ints, pow_mono {i = unsigned_abs y} {j = reach b} (nearer y j))) (omega (arith, ints)) in
            let c = mul_comm (pos (2 ^ unsigned_abs y)) a.hi in let d = mul_comm (pos (2 ^ reach b)) a.hi in
            chain (shl_of x y) (a.hi *ℤ pos (2 ^ unsigned_abs y)) (pos (2 ^ unsigned_abs y) *ℤ a.hi) (pos (2 ^ reach b) *ℤ a.hi) (a.hi *ℤ pos (2 ^ reach b)) t.hi up c far d top
          where
            chain : (u v v' w w' z : ℤ) → u ≤ℤ v → v' ≡ v → v' ≤ℤ w → w ≡ w' → w' ≤ℤ z → u ≤ℤ z
            chain u v v' w w' z f g h i j = omega (arith, ints)
        by_test false s false e = absurd (false≢true e)

    shifts_fit : (a.hi *ℤ pos (2 ^ reach b)) ≤ℤ t.hi → is_shifted_among t a.hi (reach b) ≡ true
    shifts_fit m = choose (λ v. v ≡ true) (int_le a.hi (pos 0)) true _ (λ _. refl) (λ s.
        choose (λ v. v ≡ true) (nat_lt (reach b) 127) _ false
        (λ _. given_true (a.hi *ℤ pos (2 ^ reach b)) (small (2 ^ reach b) (pow_pos (reach b)) s m))
        (λ n. absurd (large (reach b) (2 ^ reach b) (pow_mono {i = 127} {j = reach b} (ltb-false (reach b) 127 n)) s m)))
      where
        grown : (p : ℕ) → int_le a.hi (pos 0) ≡ false → pos p ≤ℤ (a.hi *ℤ pos p)
        grown p s = let o = mul_le (pos 1) a.hi (pos p) (omega (arith, ints)) (omega (arith, ints)) in omega (arith, ints)

        small : (p : ℕ) → 0 < p → int_le a.hi (pos 0) ≡ false → (a.hi *ℤ pos p) ≤ℤ t.hi → IsAmong t (a.hi *ℤ pos p)
        small p h s m = let r = range_of_type t.lo t.hi width is_type in let o = grown p s in (lower (a.hi *ℤ pos p) o, m)
          where
            lower : (z : ℤ) → pos p ≤ℤ z → t.lo ≤ℤ z
            lower z o = let r = range_of_type t.lo t.hi width is_type in omega (arith, ints, r.low)

        large : (n p : ℕ) → 2 ^ 127 ≤ p → int_le a.hi (pos 0) ≡ false → (a.hi *ℤ pos p) ≤ℤ t.hi → ⊥
        large n p h s m = let r = range_of_type t.lo t.hi width is_type in let o = grown p s in clash (a.hi *ℤ pos p) o m
          where
            clash : (z : ℤ) → pos p ≤ℤ z → z ≤ℤ t.hi → ⊥
            clash z o m = let r = range_of_type t.lo t.hi width is_type in absurd (omega (arith, ints, r.greatest))

    shl_decides : Decides (int_le (pos 0) a.lo && is_shifted_among t a.hi (reach b)) (λ x y. (pos 0 ≤ℤ x) × (shl_of x y ≤ℤ t.hi))
    shl_decides = (
      λ e x y i j. let u = and_parts (int_le (pos 0) a.lo) (is_shifted_among t a.hi (reach b)) e in let l = u.0 in let n : pos 0 ≤ℤ x = omega (arith, ints, i.0) in (n, shifts_below u.1 x y n i.1 j),
      λ all. let l = (all a.lo b.lo low low').0 in
          let m = farthest (λ n. (a.hi *ℤ pos (2 ^ n)) ≤ℤ t.hi) (all a.hi b.lo high low').1 (all a.hi b.hi high high').1 in
          and_from (int_le (pos 0) a.lo) (is_shifted_among t a.hi (reach b)) (sym (omega (arith, ints))) (shifts_fit m),
    )

    always : Decides true (λ x y. Unit {0})
    always = (λ e x y i j. tt, λ all. refl)

    overflow_decides : (op : Operator) → Decides (ends_fit op t a b) (PassesOverflow op t.lo t.hi)
    overflow_decides Add = add_decides
    overflow_decides Sub = sub_decides
    overflow_decides Mul = mul_decides
    overflow_decides Div = quotient_decides
    overflow_decides Rem = quotient_decides
    overflow_decides Shl = shl_decides
    overflow_decides Shr = always
    overflow_decides And = always
    overflow_decides Or = always
    overflow_decides Xor = always

    pub ends_decide : (check : Check) (op : Operator) → (ends_pass check op t width a b ≡ true) ↔ AlwaysPasses check op t width a b
    ends_decide Division op = divisor_decides
    ends_decide Overflow op = overflow_decides op
    ends_decide Shift op = shift_decides

  pub unary_ends_decide : (op : UnaryOperator) (a : Ends) → IsOrdered a → (unary_ends_fit op t a ≡ true) ↔ UnaryAlwaysPasses op t a
  unary_ends_decide Negate a f = (
    λ e x i. let u = true_both (neg_ℤ a.hi) (neg_ℤ a.lo) e in let l = u.0 in let m = u.1 in (omega (arith, ints, i.1, l.0), omega (arith, ints, i.0, m.1)),
    λ all. both_true (neg_ℤ a.hi) (neg_ℤ a.lo) (all a.hi (f, omega (arith, ints))) (all a.lo (omega (arith, ints), f)),
  )
  unary_ends_decide Complement a f = (
    λ e x i. let u = and_parts (is_among t (not_of a.hi)) (is_among t (not_of a.lo)) e in let l = true_among t (not_of a.hi) u.0 in let m = true_among t (not_of a.lo) u.1 in
        (omega (arith, ints, i.1, l.0, not-is x, not-is a.hi), omega (arith, ints, i.0, m.1, not-is x, not-is a.lo)),
    λ all. and_from _ _ (among_true t (not_of a.hi) (all a.hi (f, omega (arith, ints)))) (among_true t (not_of a.lo) (all a.lo (omega (arith, ints), f))),
  )
