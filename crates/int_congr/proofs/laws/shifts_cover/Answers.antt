use Rattle.int_congr.proofs.Cover.{shl_holds, shr_holds}
use Rattle.int_congr.proofs.laws.shifts_cover.Goals as goal

pub returns-clause-shl : goal.returns-clause-shl
returns-clause-shl c = shl_holds

pub returns-clause-shr : goal.returns-clause-shr
returns-clause-shr c = shr_holds
