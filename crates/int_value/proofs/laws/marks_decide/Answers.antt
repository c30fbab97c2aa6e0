use Rattle.int_value.proofs.Decides.{neg_decides, add_decides, sub_decides, mul_decides, div_decides, rem_decides, shl_decides, shr_decides}
use Rattle.int_value.proofs.laws.marks_decide.Goals as goal

pub returns-clause-neg : goal.returns-clause-neg
returns-clause-neg c = neg_decides

pub returns-clause-add : goal.returns-clause-add
returns-clause-add c = add_decides

pub returns-clause-sub : goal.returns-clause-sub
returns-clause-sub c = sub_decides

pub returns-clause-mul : goal.returns-clause-mul
returns-clause-mul c = mul_decides

pub returns-clause-div : goal.returns-clause-div
returns-clause-div c = div_decides

pub returns-clause-rem : goal.returns-clause-rem
returns-clause-rem c = rem_decides

pub returns-clause-shl : goal.returns-clause-shl
returns-clause-shl c = shl_decides

pub returns-clause-shr : goal.returns-clause-shr
returns-clause-shr c = shr_decides
