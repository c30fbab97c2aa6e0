use Rattle.int_value.proofs.Cover.{number_covers, negation_covers, sum_covers, difference_covers, product_covers, quotient_covers, remainder_covers}
use Rattle.int_value.proofs.laws.terms_cover.Goals as goal

pub returns-clause-number : goal.returns-clause-number
returns-clause-number c = number_covers

pub returns-clause-negation : goal.returns-clause-negation
returns-clause-negation c = negation_covers

pub returns-clause-sum : goal.returns-clause-sum
returns-clause-sum c = sum_covers

pub returns-clause-difference : goal.returns-clause-difference
returns-clause-difference c = difference_covers

pub returns-clause-product : goal.returns-clause-product
returns-clause-product c = product_covers

pub returns-clause-quotient : goal.returns-clause-quotient
returns-clause-quotient c = quotient_covers

pub returns-clause-remainder : goal.returns-clause-remainder
returns-clause-remainder c = remainder_covers
