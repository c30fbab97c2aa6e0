use Rattle.int_interval.proofs.Cover.{negative_holds, sum_holds, difference_holds, product_holds, quotient_holds, remainder_holds}
use Rattle.int_interval.proofs.laws.arithmetic_covers.Goals as goal

pub returns-clause-neg : goal.returns-clause-neg
returns-clause-neg c = negative_holds

pub returns-clause-add : goal.returns-clause-add
returns-clause-add c = sum_holds

pub returns-clause-sub : goal.returns-clause-sub
returns-clause-sub c = difference_holds

pub returns-clause-mul : goal.returns-clause-mul
returns-clause-mul c = product_holds

pub returns-clause-div : goal.returns-clause-div
returns-clause-div c = quotient_holds

pub returns-clause-rem : goal.returns-clause-rem
returns-clause-rem c = remainder_holds
