use Rattle.std.proofs.Common.{◌≡◌, length}
use Rattle.c_typing.specs.Functions.{same_types}
use Rattle.c_typing.proofs.function.same_types.Given as goal

abbrev pub invariant-loop-ty : goal.invariant-loop-ty
invariant-loop-ty l = same_types l.left l.right ≡ same_types l.types l.others

abbrev pub decreases-loop-ty : goal.decreases-loop-ty
decreases-loop-ty l = length l.left
