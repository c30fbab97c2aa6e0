use Rattle.std.proofs.Common.{ℕ}
use Rattle.std.specs.Int.{IsGcd}
use Rattle.machine_ints.proofs.divisors.gcd.Given as goal

abbrev pub invariant-dividing : goal.invariant-dividing
invariant-dividing l = (g : ℕ) → IsGcd l.larger l.smaller g → IsGcd l.fn.left l.fn.right g

abbrev pub decreases-dividing : goal.decreases-dividing
decreases-dividing l = l.smaller
