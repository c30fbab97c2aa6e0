use Rattle.std.proofs.Common.{◌≡◌, ◌<◌, ◌+◌, ◌*◌, length}
use Rattle.acsl_read.specs.Table.{Binary, More, Relations, Links, operand, inner, rank}
use Rattle.acsl_read.specs.inner.Outcome.{read}
use Rattle.acsl_read.specs.inner.Lists.{joins_after, links_after}
use Rattle.acsl_read.proofs.formula.+formula.Given as goal

-- the tokens that are left, and then how tightly a production binds

abbrev pub decreases-binary_at : goal.decreases-binary_at
decreases-binary_at l = 40 * length l.tokens.now + (2 * rank (Binary l.level) + 1)

abbrev pub decreases-operand_at : goal.decreases-operand_at
decreases-operand_at l = 40 * length l.tokens.now + (2 * rank (operand l.level) + 2)

abbrev pub decreases-join_at : goal.decreases-join_at
decreases-join_at l = 40 * length l.tokens.now

abbrev pub decreases-implication_at : goal.decreases-implication_at
decreases-implication_at l = 40 * length l.tokens.now + 19

abbrev pub decreases-conjunct_at : goal.decreases-conjunct_at
decreases-conjunct_at l = 40 * length l.tokens.now + 13

abbrev pub decreases-quantified_at : goal.decreases-quantified_at
decreases-quantified_at l = 40 * length l.tokens.now + 1

abbrev pub decreases-relations_at : goal.decreases-relations_at
decreases-relations_at l = 40 * length l.tokens.now + 11

abbrev pub decreases-link_at : goal.decreases-link_at
decreases-link_at l = 40 * length l.tokens.now

abbrev pub decreases-factor_at : goal.decreases-factor_at
decreases-factor_at l = 40 * length l.tokens.now + 5

abbrev pub decreases-primary_at : goal.decreases-primary_at
decreases-primary_at l = 40 * length l.tokens.now + 3

abbrev pub decreases-variable_at : goal.decreases-variable_at
decreases-variable_at l = 40 * length l.tokens.now + 1

abbrev pub decreases-old_at : goal.decreases-old_at
decreases-old_at l = 40 * length l.tokens.now + 1

abbrev pub decreases-parens_at : goal.decreases-parens_at
decreases-parens_at l = 40 * length l.tokens.now + 1

-- the loops

abbrev pub invariant-binary_at-joining : goal.invariant-binary_at-joining
invariant-binary_at-joining l = record {
  read : read l.bytes (Binary l.level) l.depth l.tokens ≡ joins_after l.left (read l.bytes (More (inner l.level)) l.depth l.rest);
  shorter : length l.rest < length l.tokens;
}

abbrev pub decreases-binary_at-joining : goal.decreases-binary_at-joining
decreases-binary_at-joining l = length l.rest

abbrev pub invariant-relations_at-linking : goal.invariant-relations_at-linking
invariant-relations_at-linking l = record {
  read : read l.bytes Relations l.depth l.tokens ≡ links_after l.first l.end l.links (read l.bytes (Links l.direction) l.depth l.rest);
  shorter : length l.rest < length l.tokens;
}

abbrev pub decreases-relations_at-linking : goal.decreases-relations_at-linking
decreases-relations_at-linking l = length l.rest
