use Rattle.std.proofs.Common.{◌≡◌, bytes_eq}
use Rattle.std.specs.List.{position_from}
use Rattle.acsl_terms.proofs.sight.bound_place.Given as goal

abbrev pub invariant-walk : goal.invariant-walk
invariant-walk l = position_from (λ y. bytes_eq l.name y) l.between l.left ≡ position_from (λ y. bytes_eq l.name y) 0 l.bound
