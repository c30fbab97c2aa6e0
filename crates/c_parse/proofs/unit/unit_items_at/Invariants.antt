use Rattle.std.proofs.Common.{◌≡◌, ◌≤◌, length}
use Rattle.c_parse.specs.Table.{UnitItems}
use Rattle.c_parse.specs.inner.Outcome.{read}
use Rattle.c_parse.specs.inner.Lists.{items_after}
use Rattle.c_parse.proofs.unit.unit_items_at.Given as goal

abbrev pub invariant-adding : goal.invariant-adding
invariant-adding l = record {
  read : items_after l.found (read l.bytes UnitItems l.depth l.rest) ≡ read l.bytes UnitItems l.depth l.tokens;
  no_longer : length l.rest ≤ length l.tokens;
}

abbrev pub decreases-adding : goal.decreases-adding
decreases-adding l = length l.rest
