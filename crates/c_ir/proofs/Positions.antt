-- The first place at which a test passes.
use Rattle.std.proofs.Common.{◌≡◌, ℕ, ◌≤◌, Bool, List, drop, sym, arith}
use Rattle.std.specs.List.{position, position_from}
use Rattle.std.proofs.lemmas.Iterator.Adapters.{position_from-zero}

pub first_from_start : {X : Type 0} (test : X → Bool) (i : ℕ) (xs : List X) → i ≤ 0 → position_from test i (drop i xs) ≡ position test xs
first_from_start test i xs h = let e : i ≡ 0 = omega arith in rw e (sym (position_from-zero test xs))
