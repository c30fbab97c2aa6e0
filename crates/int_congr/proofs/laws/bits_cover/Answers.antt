use Rattle.int_congr.proofs.Cover.{not_holds, and_holds, or_holds, xor_holds}
use Rattle.int_congr.proofs.laws.bits_cover.Goals as goal

pub returns-clause-invert : goal.returns-clause-invert
returns-clause-invert c = not_holds

pub returns-clause-and : goal.returns-clause-and
returns-clause-and c = and_holds

pub returns-clause-or : goal.returns-clause-or
returns-clause-or c = or_holds

pub returns-clause-xor : goal.returns-clause-xor
returns-clause-xor c = xor_holds
