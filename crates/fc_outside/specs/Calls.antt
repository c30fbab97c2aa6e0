-- Calls that are to fail, by their numbers, which count from 1 over the calls of one object.
use Rattle.std.specs.Prelude.{◌≡◌, ◌+◌, ◌-◌, ◌^◌, ℕ, zero, suc, Bool, true, false, List, [], ◌∷◌, min, nat_eq, nat_lt, ◌&&◌, if◌then◌else◌, refl}
use Rattle.std.specs.List.{list_any}
use Rattle.std.proofs.lemmas.Bool.{false≢true}

-- a call with this number fails
abbrev pub is_listed : List ℕ → ℕ → Bool
is_listed fails call = list_any (λ n. nat_eq n call) fails

-- after so many calls the next fails; no call past number 2 ^ 64 - 1 does
abbrev pub fails_next : List ℕ → ℕ → Bool
fails_next fails made = is_listed fails (made + 1) && nat_lt made (2 ^ 64 - 1)

-- one call more, where the count stands still at 2 ^ 64 - 1
abbrev pub counted : ℕ → ℕ
counted made = min (made + 1) (2 ^ 64 - 1)

-- how many of the first so many calls failed
abbrev pub failed_calls : List ℕ → ℕ → ℕ
failed_calls fails zero = 0
failed_calls fails (suc made) = if is_listed fails (suc made) then failed_calls fails made + 1 else failed_calls fails made

-- no call is to fail
abbrev pub is_nothing : List ℕ → Bool
is_nothing [] = true
is_nothing (n ∷ ns) = false

-- then none failed
pub none_failed : (fails : List ℕ) (made : ℕ) → is_nothing fails ≡ true → failed_calls fails made ≡ 0
none_failed [] zero h = refl
none_failed [] (suc made) h = none_failed [] made h
none_failed (n ∷ ns) made h = absurd (false≢true h)
