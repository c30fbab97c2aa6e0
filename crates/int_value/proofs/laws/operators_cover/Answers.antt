use Rattle.int_value.proofs.Checked.{add_covers, sub_covers, mul_covers, div_covers, rem_covers, shl_covers, shr_covers, and_covers, or_covers, xor_covers}
use Rattle.int_value.proofs.laws.operators_cover.Goals as goal

pub returns-clause-add : goal.returns-clause-add
returns-clause-add c = add_covers

pub returns-clause-sub : goal.returns-clause-sub
returns-clause-sub c = sub_covers

pub returns-clause-mul : goal.returns-clause-mul
returns-clause-mul c = mul_covers

pub returns-clause-div : goal.returns-clause-div
returns-clause-div c = div_covers

pub returns-clause-rem : goal.returns-clause-rem
returns-clause-rem c = rem_covers

pub returns-clause-shl : goal.returns-clause-shl
returns-clause-shl c = shl_covers

pub returns-clause-shr : goal.returns-clause-shr
returns-clause-shr c = shr_covers

pub returns-clause-and : goal.returns-clause-and
returns-clause-and c = and_covers

pub returns-clause-or : goal.returns-clause-or
returns-clause-or c = or_covers

pub returns-clause-xor : goal.returns-clause-xor
returns-clause-xor c = xor_covers
