use Rattle.int_value.proofs.Typed.{number_reduced, negation_reduced, sum_reduced, difference_reduced, product_reduced, quotient_reduced, remainder_reduced}
use Rattle.int_value.proofs.Included.{reduce_stable}
use Rattle.int_value.proofs.laws.terms_are_reduced.Goals as goal

pub returns-clause-number : goal.returns-clause-number
returns-clause-number c = number_reduced

pub returns-clause-negation : goal.returns-clause-negation
returns-clause-negation c = negation_reduced

pub returns-clause-sum : goal.returns-clause-sum
returns-clause-sum c = sum_reduced

pub returns-clause-difference : goal.returns-clause-difference
returns-clause-difference c = difference_reduced

pub returns-clause-product : goal.returns-clause-product
returns-clause-product c = product_reduced

pub returns-clause-quotient : goal.returns-clause-quotient
returns-clause-quotient c = quotient_reduced

pub returns-clause-remainder : goal.returns-clause-remainder
returns-clause-remainder c = remainder_reduced

pub returns-clause-stable : goal.returns-clause-stable
returns-clause-stable c = reduce_stable
