use Rattle.int_interval.proofs.Cover.{shl_holds, shr_holds}
use Rattle.int_interval.proofs.laws.shifts_cover.Goals as goal

pub returns-clause-shl : goal.returns-clause-shl
returns-clause-shl c = shl_holds

pub returns-clause-shr : goal.returns-clause-shr
returns-clause-shr c = shr_holds
