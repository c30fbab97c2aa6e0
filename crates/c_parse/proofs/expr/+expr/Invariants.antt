use Rattle.std.proofs.Common.{◌≡◌, ◌<◌, ◌+◌, ◌*◌, length}
use Rattle.c_parse.specs.Table.{Binary, More, Suffixes, Postfix, MoreArgs, Args, operand, rank}
use Rattle.c_parse.specs.inner.Outcome.{read}
use Rattle.c_parse.specs.inner.Lists.{joins_after, ends_after, exprs_after}
use Rattle.c_parse.proofs.expr.+expr.Given as goal

-- the tokens that are left, and then how tightly a production binds

abbrev pub decreases-args_at : goal.decreases-args_at
decreases-args_at l = 40 * length l.tokens.now + 30

abbrev pub decreases-assign_at : goal.decreases-assign_at
decreases-assign_at l = 40 * length l.tokens.now + 29

abbrev pub decreases-cond_at : goal.decreases-cond_at
decreases-cond_at l = 40 * length l.tokens.now + 28

abbrev pub decreases-binary_at : goal.decreases-binary_at
decreases-binary_at l = 40 * length l.tokens.now + (2 * rank (Binary l.level) + 1)

abbrev pub decreases-operand_at : goal.decreases-operand_at
decreases-operand_at l = 40 * length l.tokens.now + (2 * rank (operand l.level) + 2)

abbrev pub decreases-join_at : goal.decreases-join_at
decreases-join_at l = 40 * length l.tokens.now

abbrev pub decreases-unary_at : goal.decreases-unary_at
decreases-unary_at l = 40 * length l.tokens.now + 5

abbrev pub decreases-cast_at : goal.decreases-cast_at
decreases-cast_at l = 40 * length l.tokens.now + 4

abbrev pub decreases-postfix_at : goal.decreases-postfix_at
decreases-postfix_at l = 40 * length l.tokens.now + 3

abbrev pub decreases-ending_at : goal.decreases-ending_at
decreases-ending_at l = 40 * length l.tokens.now

abbrev pub decreases-next_arg : goal.decreases-next_arg
decreases-next_arg l = 40 * length l.tokens.now

abbrev pub decreases-primary_at : goal.decreases-primary_at
decreases-primary_at l = 40 * length l.tokens.now + 1

-- the loops

abbrev pub invariant-binary_at-joining : goal.invariant-binary_at-joining
invariant-binary_at-joining l = record {
  read : read l.bytes (Binary l.level) l.depth l.tokens ≡ joins_after l.left (read l.bytes (More l.level) l.depth l.rest);
  shorter : length l.rest < length l.tokens;
}

abbrev pub decreases-binary_at-joining : goal.decreases-binary_at-joining
decreases-binary_at-joining l = length l.rest

abbrev pub invariant-postfix_at-ending : goal.invariant-postfix_at-ending
invariant-postfix_at-ending l = record {
  read : read l.bytes Postfix l.depth l.tokens ≡ ends_after l.of (read l.bytes Suffixes l.depth l.rest);
  shorter : length l.rest < length l.tokens;
}

abbrev pub decreases-postfix_at-ending : goal.decreases-postfix_at-ending
decreases-postfix_at-ending l = length l.rest

abbrev pub invariant-args_at-adding : goal.invariant-args_at-adding
invariant-args_at-adding l = record {
  read : read l.bytes Args l.depth l.tokens ≡ exprs_after l.args (read l.bytes MoreArgs l.depth l.rest);
  shorter : length l.rest < length l.tokens;
}

abbrev pub decreases-args_at-adding : goal.decreases-args_at-adding
decreases-args_at-adding l = length l.rest
