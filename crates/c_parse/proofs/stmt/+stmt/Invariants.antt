use Rattle.std.proofs.Common.{◌≡◌, ◌≤◌, ◌+◌, ◌*◌, length}
use Rattle.c_parse.specs.Table.{BlockItems}
use Rattle.c_parse.specs.inner.Outcome.{read}
use Rattle.c_parse.specs.inner.Lists.{stmts_after}
use Rattle.c_parse.proofs.stmt.+stmt.Given as goal

-- the tokens that are left, and then what may stand first

abbrev pub decreases-if_at : goal.decreases-if_at
decreases-if_at l = 8 * length l.tokens.now + 1

abbrev pub decreases-else_at : goal.decreases-else_at
decreases-else_at l = 8 * length l.tokens.now + 1

abbrev pub decreases-while_at : goal.decreases-while_at
decreases-while_at l = 8 * length l.tokens.now + 1

abbrev pub decreases-do_at : goal.decreases-do_at
decreases-do_at l = 8 * length l.tokens.now + 1

abbrev pub decreases-for_at : goal.decreases-for_at
decreases-for_at l = 8 * length l.tokens.now + 1

abbrev pub decreases-block_at : goal.decreases-block_at
decreases-block_at l = 8 * length l.tokens.now + 1

abbrev pub decreases-statement_at : goal.decreases-statement_at
decreases-statement_at l = 8 * length l.tokens.now + 2

abbrev pub decreases-block_item_at : goal.decreases-block_item_at
decreases-block_item_at l = 8 * length l.tokens.now + 3

abbrev pub decreases-sub_at : goal.decreases-sub_at
decreases-sub_at l = 8 * length l.tokens.now + 3

abbrev pub decreases-next_item : goal.decreases-next_item
decreases-next_item l = 8 * length l.tokens.now + 4

abbrev pub decreases-block_items_at : goal.decreases-block_items_at
decreases-block_items_at l = 8 * length l.tokens.now + 5

abbrev pub invariant-block_items_at-adding : goal.invariant-block_items_at-adding
invariant-block_items_at-adding l = record {
  read : stmts_after l.found (read l.bytes BlockItems l.depth l.rest) ≡ read l.bytes BlockItems l.depth l.tokens;
  no_longer : length l.rest ≤ length l.tokens;
}

abbrev pub decreases-block_items_at-adding : goal.decreases-block_items_at-adding
decreases-block_items_at-adding l = length l.rest
