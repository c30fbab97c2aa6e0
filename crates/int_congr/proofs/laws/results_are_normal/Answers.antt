use Rattle.int_congr.proofs.Normal.{negative_normal, sum_normal, difference_normal, product_normal, quotient_normal, remainder_normal, shl_normal}
use Rattle.int_congr.proofs.Normal.{shr_normal, not_normal, and_normal, or_normal, xor_normal, join_normal, convert_normal}
use Rattle.int_congr.proofs.laws.results_are_normal.Goals as goal

pub returns-clause-neg : goal.returns-clause-neg
returns-clause-neg c = negative_normal

pub returns-clause-add : goal.returns-clause-add
returns-clause-add c = sum_normal

pub returns-clause-sub : goal.returns-clause-sub
returns-clause-sub c = difference_normal

pub returns-clause-mul : goal.returns-clause-mul
returns-clause-mul c = product_normal

pub returns-clause-div : goal.returns-clause-div
returns-clause-div c = quotient_normal

pub returns-clause-rem : goal.returns-clause-rem
returns-clause-rem c = remainder_normal

pub returns-clause-shl : goal.returns-clause-shl
returns-clause-shl c = shl_normal

pub returns-clause-shr : goal.returns-clause-shr
returns-clause-shr c = shr_normal

pub returns-clause-invert : goal.returns-clause-invert
returns-clause-invert c = not_normal

pub returns-clause-and : goal.returns-clause-and
returns-clause-and c = and_normal

pub returns-clause-or : goal.returns-clause-or
returns-clause-or c = or_normal

pub returns-clause-xor : goal.returns-clause-xor
returns-clause-xor c = xor_normal

pub returns-clause-join : goal.returns-clause-join
returns-clause-join c = join_normal

pub returns-clause-convert : goal.returns-clause-convert
returns-clause-convert c = convert_normal
