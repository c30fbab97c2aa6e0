use Rattle.int_value.proofs.Decides.{div_overflow_decides, rem_overflow_decides, shl_overflow_decides}
use Rattle.int_value.proofs.laws.second_marks_decide.Goals as goal

pub returns-clause-div : goal.returns-clause-div
returns-clause-div c = div_overflow_decides

pub returns-clause-rem : goal.returns-clause-rem
returns-clause-rem c = rem_overflow_decides

pub returns-clause-shl : goal.returns-clause-shl
returns-clause-shl c = shl_overflow_decides
