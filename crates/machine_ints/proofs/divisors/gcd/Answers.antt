use Rattle.std.proofs.Common.{arith, subst}
use Rattle.std.specs.Int.{IsGcd}
use Rattle.std.proofs.lemmas.Nat.Gcd.{IsGcd-from_zero, IsGcd-from_mod}
use Rattle.machine_ints.proofs.Gcds.{gcd_is}
use Rattle.machine_ints.proofs.divisors.gcd.Goals as goal

pub dividing-preserved : goal.dividing-preserved
dividing-preserved c g h = c.dividing.invariant g (IsGcd-from_mod _ _ g (subst (λ n. IsGcd c.dividing.smaller n g) c.rest_of-rest.ensures h))

pub returns : goal.returns
returns c = gcd_is _ _ _ (c.dividing.invariant _ (IsGcd-from_zero _ _ (omega arith)))
