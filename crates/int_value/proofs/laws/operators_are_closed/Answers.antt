use Rattle.int_value.proofs.Typed.{neg_closed, invert_closed, add_closed, sub_closed, mul_closed, div_closed, rem_closed, shl_closed, shr_closed, and_closed, or_closed, xor_closed}
use Rattle.int_value.proofs.laws.operators_are_closed.Goals as goal

pub returns-clause-neg : goal.returns-clause-neg
returns-clause-neg c = neg_closed

pub returns-clause-invert : goal.returns-clause-invert
returns-clause-invert c = invert_closed

pub returns-clause-add : goal.returns-clause-add
returns-clause-add c = add_closed

pub returns-clause-sub : goal.returns-clause-sub
returns-clause-sub c = sub_closed

pub returns-clause-mul : goal.returns-clause-mul
returns-clause-mul c = mul_closed

pub returns-clause-div : goal.returns-clause-div
returns-clause-div c = div_closed

pub returns-clause-rem : goal.returns-clause-rem
returns-clause-rem c = rem_closed

pub returns-clause-shl : goal.returns-clause-shl
returns-clause-shl c = shl_closed

pub returns-clause-shr : goal.returns-clause-shr
returns-clause-shr c = shr_closed

pub returns-clause-and : goal.returns-clause-and
returns-clause-and c = and_closed

pub returns-clause-or : goal.returns-clause-or
returns-clause-or c = or_closed

pub returns-clause-xor : goal.returns-clause-xor
returns-clause-xor c = xor_closed
