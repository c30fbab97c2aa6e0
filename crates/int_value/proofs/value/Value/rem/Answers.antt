use Rattle.std.proofs.Common.{subst, sym}
use Rattle.int_value.specs.Typed.{IsReduced}
use Rattle.int_value.proofs.Typed.{remainder_reduced}
use Rattle.int_value.proofs.value.Value.rem.Goals as goal

pub divided-requires-clause-exact : goal.divided-requires-clause-exact
divided-requires-clause-exact c = subst IsReduced (sym c.remainder-exact.ensures) (remainder_reduced c.args.self.now c.args.other.now)
