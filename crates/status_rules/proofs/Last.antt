-- The last change of a verdict.
use Rattle.std.proofs.Common.{◌≡◌, ℕ, zero, suc, Bool, true, false, cond, length, refl, inl, inr, arith}
use Rattle.std.proofs.lemmas.Bool.{cases_lt}
use denote.Enum.Bare.{sameb, same_true, same_false}
use Rattle.fc_base.specs.declared.verdict.Verdict.{Verdict}
use Rattle.fc_base.specs.contracts.verdict.Verdict.{the_type}
use Rattle.status_rules.specs.Holds.{basis_of}
use Rattle.status_rules.specs.Verdicts.{verdict_of}
use Rattle.status_rules.specs.Changed.{ChangedIsLast, IsLastChange, last_change, prefix_of, changed_of}

one_more : (f : ℕ → Verdict) (n k : ℕ) (b : Bool) → sameb the_type (f (suc n)) (f n) ≡ b → IsLastChange f n k → IsLastChange f (suc n) (cond b k (suc n))
one_more f n k true is last = record {
  within = omega (arith, last.within);
  same_later = λ j from to. elim (cases_lt j n) [
    | inl below ↦ last.same_later j from below
    | inr above ↦ let e : j ≡ n = omega arith in rw e (same_true the_type tt (f (suc n)) (f n) is)
  ];
  differs = last.differs;
}
one_more f n k false is last = record {
  within = omega arith;
  same_later = λ j from to. absurd (omega arith);
  differs = λ j e same. let back : j ≡ n = omega arith in same_false the_type (f (suc n)) (f n) is (rw back at same);
}

last_is : (f : ℕ → Verdict) (n : ℕ) → IsLastChange f n (last_change f n)
last_is f zero = record {
  within = omega arith;
  same_later = λ j from to. absurd (omega arith);
  differs = λ j e same. absurd (omega arith);
}
last_is f (suc n) = one_more f n (last_change f n) (sameb the_type (f (suc n)) (f n)) refl (last_is f n)

pub changed_last : ChangedIsLast
unfolding changed_of
changed_last h t p = last_is (λ k. verdict_of (basis_of (prefix_of h k) t) p) (length h.changes)
