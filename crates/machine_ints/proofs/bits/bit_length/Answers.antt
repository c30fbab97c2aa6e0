use Rattle.std.proofs.Common.{refl, arith}
use Rattle.machine_ints.proofs.BitLaws.{length_from}
use Rattle.machine_ints.proofs.bits.bit_length.Goals as goal

pub returns-clause-value : goal.returns-clause-value
returns-clause-value c = length_from c.args.value _ (omega arith) refl
