use Rattle.std.proofs.Common.{◌≡◌, ◌≤◌, length}
use Rattle.c_parse.specs.Table.{MoreDeclrs}
use Rattle.c_parse.specs.inner.Outcome.{read}
use Rattle.c_parse.specs.inner.Lists.{declrs_after}
use Rattle.c_parse.proofs.declare.more_declrs_at.Given as goal

abbrev pub invariant-adding : goal.invariant-adding
invariant-adding l = record {
  read : declrs_after l.found (read l.bytes MoreDeclrs l.depth l.rest) ≡ read l.bytes MoreDeclrs l.depth l.tokens;
  no_longer : length l.rest ≤ length l.tokens;
}

abbrev pub decreases-adding : goal.decreases-adding
decreases-adding l = length l.rest
