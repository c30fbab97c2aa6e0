use Rattle.std.proofs.Common.{◌≡◌, ◌≤◌, length}
use Rattle.c_parse.specs.Table.{Storages}
use Rattle.c_parse.specs.inner.Outcome.{read}
use Rattle.c_parse.specs.inner.Lists.{words_after}
use Rattle.c_parse.proofs.unit.storages_at.Given as goal

abbrev pub invariant-adding : goal.invariant-adding
invariant-adding l = record {
  read : words_after l.found (read l.bytes Storages l.depth l.rest) ≡ read l.bytes Storages l.depth l.tokens;
  no_longer : length l.rest ≤ length l.tokens;
}

abbrev pub decreases-adding : goal.decreases-adding
decreases-adding l = length l.rest
