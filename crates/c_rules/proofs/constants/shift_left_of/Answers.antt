use Rattle.std.proofs.Common.{arith}
use Rattle.std.proofs.lemmas.Int.{to_z-of_z}
use Rattle.c_rules.proofs.Evaluations.{shl_natural}
use Rattle.c_rules.proofs.constants.shift_left_of.Goals as goal

pub returns-else-has_negative : goal.returns-else-has_negative
returns-else-has_negative c = grind (arith, to_z-of_z, shl_natural)
