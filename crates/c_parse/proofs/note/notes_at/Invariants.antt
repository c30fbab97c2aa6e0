use Rattle.std.proofs.Common.{◌≡◌, ◌≤◌, length}
use Rattle.c_parse.specs.Table.{Notes}
use Rattle.c_parse.specs.inner.Outcome.{read}
use Rattle.c_parse.specs.inner.Lists.{spots_after}
use Rattle.c_parse.proofs.note.notes_at.Given as goal

abbrev pub invariant-adding : goal.invariant-adding
invariant-adding l = record {
  read : spots_after l.found (read l.bytes Notes l.depth l.rest) ≡ read l.bytes Notes l.depth l.tokens;
  no_longer : length l.rest ≤ length l.tokens;
}

abbrev pub decreases-adding : goal.decreases-adding
decreases-adding l = length l.rest
