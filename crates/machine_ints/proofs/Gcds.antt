-- The greatest common divisor: it divides both numbers, and Euclid's loop finds it.
use Rattle.std.proofs.Common.{◌≡◌, ℕ, zero, suc, ◌%◌, ◌≤◌, ◌<◌, max, Bool, true, ◌&&◌, sym, subst, arith, inl, inr, ⊎_elim}
use Rattle.std.specs.Int.{IsGcd, ◌∣◌}
use Rattle.std.proofs.lemmas.Nat.Gcd.{IsGcd-from_zero, IsGcd-from_mod, dvd_of_mod-eq-zero, mod-eq-zero_of_dvd, le_of_dvd, dvd-zero}
use Rattle.std.proofs.lemmas.Nat.{mod_below}
use Rattle.std.proofs.lemmas.Bool.{eqb-true, eq-eqb, and_parts, and_from, cases_lt}
use Rattle.machine_ints.specs.Divisors.{divides, greatest, gcd_of}
use Rattle.machine_ints.proofs.Greatest.{IsLast, greatest_last, last_same}

pub divides-true : (d n : ℕ) → divides d n ≡ true → d ∣ n
divides-true d n e = dvd_of_mod-eq-zero d (eqb-true (n % d) 0 e)

pub true-divides : (d n : ℕ) → d ∣ n → divides d n ≡ true
true-divides d n h = eq-eqb (n % d) 0 (mod-eq-zero_of_dvd d h)

positive : (g a : ℕ) → 0 < a → g ∣ a → 0 < g
positive zero a h d = absurd (omega (arith, mod-eq-zero_of_dvd 0 d))
positive (suc g) a h d = omega arith

within : (g a : ℕ) → 0 < a → g ∣ a → g ≤ a
within g a h d = le_of_dvd h d

-- what is the greatest by divisibility is the greatest by order
gcd_last : (a b g : ℕ) → IsGcd a b g → IsLast (λ d. divides d a && divides d b) (max a b) g
gcd_last a b g (d, e, all) = (top, inr (and_from _ _ (true-divides g a d) (true-divides g b e)), below)
  where
    positive_in : 0 < max a b → 0 < g
    positive_in h = ⊎_elim (λ (p : 0 < a). positive g a p d) (λ (p : a ≤ 0). positive g b (omega arith) e) (cases_lt 0 a)

    none : a ≡ 0 → b ≡ 0 → g ≤ max a b
    none z y = ⊎_elim (λ (p : 0 < g). absurd (omega (
      arith,
      le_of_dvd p
          (all (suc g) (subst (λ n. suc g ∣ n) (sym z) (dvd-zero (suc g))) (subst (λ n. suc g ∣ n) (sym y) (dvd-zero (suc g)))),
    ))) (λ (p : g ≤ 0). omega arith) (cases_lt 0 g)

    top : g ≤ max a b
    top = ⊎_elim (λ (p : 0 < a). omega (arith, within g a p d))
        (λ (p : a ≤ 0). ⊎_elim (λ (q : 0 < b). omega (arith, within g b q e)) (λ (q : b ≤ 0). none (omega arith) (omega arith)) (cases_lt 0 b)) (cases_lt 0 a)

    below : (k : ℕ) → k ≤ max a b → (divides k a && divides k b) ≡ true → k ≤ g
    below k h p = let parts = and_parts _ _ p in ⊎_elim (λ (q : 0 < max a b). le_of_dvd (positive_in q) (all k (divides-true k a parts.0) (divides-true k b parts.1)))
        (λ (q : max a b ≤ 0). omega arith) (cases_lt 0 (max a b))

-- what Euclid's loop finds is the greatest common divisor
pub gcd_is : (a b g : ℕ) → IsGcd a b g → g ≡ gcd_of a b
unfolding gcd_of
gcd_is a b g i =
    let test : ℕ → Bool = λ d. divides d a && divides d b in
    let mine = gcd_last a b g i in
    let last = greatest_last test (max a b) in
    omega (arith, last_same test (max a b) g _ mine last, last_same test (max a b) _ g last mine)

-- it divides both
pub gcd-divides : (a b : ℕ) → (gcd_of a b ∣ a) × (gcd_of a b ∣ b)
unfolding gcd_of
gcd-divides a b = ⊎_elim
    (λ none. let d = last.2 1 in (none_left a none (λ h. d h (by_one a b)) (omega arith), none_left b none (λ h. d h (by_one a b)) (omega arith)))
    (λ passes. let parts = and_parts _ _ passes in (divides-true _ a parts.0, divides-true _ b parts.1))
    last.1
  where
    last : IsLast (λ d. divides d a && divides d b) (max a b) (greatest (λ d. divides d a && divides d b) (max a b))
    last = greatest_last (λ d. divides d a && divides d b) (max a b)

    by_one : (a b : ℕ) → (divides 1 a && divides 1 b) ≡ true
    by_one a b = and_from _ _ (eq-eqb (a % 1) 0 (omega arith)) (eq-eqb (b % 1) 0 (omega arith))

    none_left : (n : ℕ) → greatest (λ d. divides d a && divides d b) (max a b) ≡ 0 → (1 ≤ max a b → 1 ≤ greatest (λ d. divides d a && divides d b) (max a b)) → n ≤ max a b
        → greatest (λ d. divides d a && divides d b) (max a b) ∣ n
    none_left n none h le = ⊎_elim (λ (q : 1 ≤ max a b). absurd (omega (arith, h q)))
        (λ (q : max a b < 1). let z : n ≡ 0 = omega arith in rw z (dvd-zero _)) (⊎_elim inr (λ (q : 1 ≤ max a b). inl q) (cases_lt (max a b) 1))

-- Euclid's steps end
gcd_exists : (fuel a b : ℕ) → b ≤ fuel → (g : ℕ) × IsGcd a b g
gcd_exists zero a b h = (a, IsGcd-from_zero a b (omega arith))
gcd_exists (suc n) a b h = ⊎_elim
    (λ (p : 0 < b). let rest = gcd_exists n b (a % b) (omega (arith, mod_below a b p)) in (rest.0, IsGcd-from_mod a b rest.0 rest.1))
    (λ (p : b ≤ 0). (a, IsGcd-from_zero a b (omega arith)))
    (cases_lt 0 b)

-- what divides both divides it
pub divides_gcd : (d a b : ℕ) → d ∣ a → d ∣ b → d ∣ gcd_of a b
divides_gcd d a b h k =
    let found = gcd_exists b a b (omega arith) in
    subst (λ (n : ℕ). d ∣ n) (gcd_is a b found.0 found.1) (found.1.2 d h k)

pub gcd_le : (a b : ℕ) → gcd_of a b ≤ max a b
unfolding gcd_of
gcd_le a b = (greatest_last (λ d. divides d a && divides d b) (max a b)).0
