-- Bounds on chains of calls.
use Rattle.std.proofs.Common.{◌≡◌, ◌<◌, ℕ, zero, suc, List, [], ◌∷◌, Bool, true, false, ◌&&◌, length, get_or, refl, ◌∙◌, ap, arith}
use Rattle.std.specs.List.{list_all}
use Rattle.call_cycles.specs.Calls.{callees, ends}
use Rattle.call_cycles.specs.Laws.{EndWithMore}

-- what a list_all says of an element, and how it follows
both : (a b : Bool) → (a && b) ≡ true → (a ≡ true) × (b ≡ true)
both true b h = (refl, h)
both false b h = absurd (cc)

at_each : (p : ℕ → Bool) (xs : List ℕ) (i : ℕ) → i < length xs → list_all p xs ≡ true → p (get_or xs i 0) ≡ true
at_each p [] i h all = absurd (omega arith)
at_each p (x ∷ xs) zero h all = (both (p x) (list_all p xs) all).0
at_each p (x ∷ xs) (suc i) h all = at_each p xs i (omega arith) (both (p x) (list_all p xs) all).1

pub each_passes : (p : ℕ → Bool) (xs : List ℕ) → ((i : ℕ) → i < length xs → p (get_or xs i 0) ≡ true) → list_all p xs ≡ true
each_passes p [] h = refl
each_passes p (x ∷ xs) h = ap (λ (b : Bool). b && list_all p xs) (h 0 (omega arith)) ∙ each_passes p xs (λ i below. h (suc i) (omega arith))

pub end_with_more : EndWithMore
end_with_more g zero f h = absurd (cc)
end_with_more g (suc k) f h = each_passes (ends (suc k) g) (callees g f) (λ i below. end_with_more g k (get_or (callees g f) i 0) (at_each (ends k g) (callees g f) i below h))
