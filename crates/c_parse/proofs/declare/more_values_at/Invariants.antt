use Rattle.std.proofs.Common.{◌≡◌, ◌≤◌, length}
use Rattle.c_parse.specs.Table.{MoreValues}
use Rattle.c_parse.specs.inner.Outcome.{read}
use Rattle.c_parse.specs.inner.Lists.{exprs_after}
use Rattle.c_parse.proofs.declare.more_values_at.Given as goal

abbrev pub invariant-adding : goal.invariant-adding
invariant-adding l = record {
  read : exprs_after l.found (read l.bytes MoreValues l.depth l.rest) ≡ read l.bytes MoreValues l.depth l.tokens;
  no_longer : length l.rest ≤ length l.tokens;
}

abbrev pub decreases-adding : goal.decreases-adding
decreases-adding l = length l.rest
