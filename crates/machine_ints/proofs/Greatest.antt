-- The greatest number that passes a test.
use Rattle.std.proofs.Common.{◌≡◌, ℕ, zero, suc, ◌≤◌, ◌<◌, Bool, true, false, cond, ◌⊎◌, refl, sym, subst, ◌∙◌, arith, inl, inr, ⊎_elim}
use Rattle.std.proofs.lemmas.Bool.{false≢true, cases_lt}
use Rattle.machine_ints.specs.Divisors.{greatest}

-- g passes or is 0, and is the last up to n that passes
abbrev pub IsLast : (ℕ → Bool) → ℕ → ℕ → Type 0
IsLast test n g = (g ≤ n) × ((g ≡ 0) ⊎ (test g ≡ true)) × ((d : ℕ) → d ≤ n → test d ≡ true → d ≤ g)

pub greatest_last : (test : ℕ → Bool) (n : ℕ) → IsLast test n (greatest test n)
greatest_last test zero = (omega arith, inl refl, λ d h _. h)
greatest_last test (suc n) = chosen (greatest test n) (greatest_last test n) (test (suc n)) refl
  where
    chosen : (g : ℕ) → IsLast test n g → (b : Bool) → test (suc n) ≡ b → IsLast test (suc n) (cond b (suc n) g)
    chosen g last true e = (omega arith, inr e, λ d h _. h)
    chosen g (in_n, passes, above) false e = (
      omega arith,
      passes,
      λ d h p. ⊎_elim (λ (q : d < suc n). above d (omega arith) p)
          (λ (q : suc n ≤ d). let same : d ≡ suc n = omega arith in absurd (false≢true (sym e ∙ subst (λ x. test x ≡ true) same p))) (cases_lt d (suc n)),
    )

pub last_same : (test : ℕ → Bool) (n g k : ℕ) → IsLast test n g → IsLast test n k → g ≤ k
last_same test n g k (in_n, here, above) last = ⊎_elim (λ none. omega arith) (λ p. last.2 g in_n p) here
