use Rattle.std.proofs.Common.{◌≡◌, ◌≤◌, ◌∷◌, [], length}
use Rattle.c_parse.specs.Places.{spot_of}
use Rattle.c_parse.specs.Words.{spec_word}
use Rattle.c_parse.specs.Table.{MoreWords}
use Rattle.c_parse.specs.inner.Outcome.{read}
use Rattle.c_parse.specs.inner.Lists.{spec_after}
use Rattle.c_parse.proofs.spec.specs_from.Given as goal

abbrev pub invariant-adding : goal.invariant-adding
invariant-adding l = record {
  read : spec_after (spot_of l.fn.first) (spec_word l.fn.first.kind ∷ []) (read l.bytes MoreWords l.depth l.fn.tokens) ≡ spec_after l.at l.words (read l.bytes MoreWords l.depth l.rest);
  no_longer : length l.rest ≤ length l.fn.tokens;
}

abbrev pub decreases-adding : goal.decreases-adding
decreases-adding l = length l.rest
