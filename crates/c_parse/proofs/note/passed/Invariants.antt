use Rattle.std.proofs.Common.{◌≡◌, ◌≤◌, length}
use Rattle.c_parse.specs.Table.{InNote}
use Rattle.c_parse.specs.inner.Outcome.{read}
use Rattle.c_parse.proofs.note.passed.Given as goal

abbrev pub invariant-passing : goal.invariant-passing
invariant-passing l = record {
  read : read l.bytes InNote l.depth l.tokens ≡ read l.bytes InNote l.depth l.rest;
  no_longer : length l.rest ≤ length l.tokens;
}

abbrev pub decreases-passing : goal.decreases-passing
decreases-passing l = length l.rest
