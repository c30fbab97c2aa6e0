-- The numbers of parameters.
use Rattle.std.proofs.Common.{◌≡◌, ◌<◌, ℕ, List, [], ◌∷◌, true, refl, arith}
use Rattle.std.specs.Prelude.{nat_lt}
use Rattle.std.specs.List.{list_all}
use Rattle.param_book.specs.Table.{Param, number_in, number_of, params}

below : (name : List ℕ) (ps : List Param) → list_all (λ p. nat_lt p.number 16) ps ≡ true → number_in ps name < 16
below name [] h = omega arith
below name (p ∷ ps) h = grind (arith, below name ps)

pub number_below : (name : List ℕ) → number_of name < 16
unfolding number_of
number_below name = below name params refl
