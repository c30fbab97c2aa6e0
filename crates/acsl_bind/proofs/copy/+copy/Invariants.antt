use Rattle.std.proofs.Common.{◌≡◌, ◌++◌, drop}
use Rattle.acsl_bind.proofs.copy.+copy.Given as goal

abbrev pub invariant-exprs-loop-e : goal.invariant-exprs-loop-e
invariant-exprs-loop-e l = l.copies ++ drop l.e-index l.all ≡ l.all
