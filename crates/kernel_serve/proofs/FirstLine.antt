-- The first line of a text.
use Rattle.std.proofs.Common.{◌≡◌, ℕ, ◌+◌, ◌<◌, List, [], ◌∷◌, Bool, true, false, cond, Option, Some, None, take, drop, length, refl, sym, ◌∙◌}
use Rattle.std.specs.Bool.{nat_lt}
use Rattle.std.specs.List.{slice_split, position, position_from, position_or_len}
use Rattle.std.proofs.lemmas.List.Splits.{slice_split_first}
use Rattle.std.proofs.lemmas.Iterator.Adapters.{position_from-zero}
use borrow.Author.Tests.{ltb-true}

by_place : {X : Type 0} (p : X → Bool) (xs : List X) (n : ℕ) (b : Bool)
    → nat_lt (position_or_len p xs) (length xs) ≡ b → cond b (Some (position_or_len p xs)) None ≡ Some n
    → (position_or_len p xs < length xs) × (position_or_len p xs ≡ n)
by_place p xs n true t e = (ltb-true _ _ t, cc)
by_place p xs n false t e = absurd cc

pub split_some : (p : ℕ → Bool) (xs : List ℕ) (n : ℕ) → position p xs ≡ Some n → slice_split p xs
    ≡ take n xs ∷ slice_split p (drop (n + 1) xs)
split_some p xs n e =
    let at = by_place p xs n (nat_lt (position_or_len p xs) (length xs)) refl e in
    rw (← at.1) (slice_split_first p xs 0 at.0)

no_place : (b : Bool) (i : ℕ) (rest : Option ℕ) → cond b (Some i) rest ≡ None → (b ≡ false) × (rest ≡ None)
no_place true i rest e = absurd cc
no_place false i rest e = (refl, e)

whole : (p : ℕ → Bool) (i : ℕ) (xs : List ℕ) → position_from p i xs ≡ None → slice_split p xs ≡ xs ∷ []
whole p i [] e = refl
whole p i (x ∷ xs) e = let none = no_place (p x) i (position_from p (i + 1) xs) e in rw
    (none.0, whole p (i + 1) xs none.1) refl

pub split_none : (p : ℕ → Bool) (xs : List ℕ) → position p xs ≡ None → slice_split p xs ≡ xs ∷ []
split_none p xs e = whole p 0 xs (sym (position_from-zero p xs) ∙ e)
