use Rattle.std.proofs.Common.{◌≡◌, ◌<◌, length}
use Rattle.acsl_read.specs.Table.{Places, MorePlaces}
use Rattle.acsl_read.specs.inner.Outcome.{read}
use Rattle.acsl_read.specs.inner.Lists.{locs_after}
use Rattle.acsl_read.proofs.clause.places_at.Given as goal

abbrev pub invariant-adding : goal.invariant-adding
invariant-adding l = record {
  read : read l.bytes Places l.depth l.tokens ≡ locs_after l.found (read l.bytes MorePlaces l.depth l.rest);
  shorter : length l.rest < length l.tokens;
}

abbrev pub decreases-adding : goal.decreases-adding
decreases-adding l = length l.rest
