use Rattle.std.proofs.Common.{◌≡◌, ◌≤◌, length, max}
use Rattle.prop_set.specs.inner.Words.{members_of}
use Rattle.prop_set.proofs.words.extend.Given as goal

abbrev pub invariant-loop-at : goal.invariant-loop-at
invariant-loop-at l = record {
  members : members_of l.words ≡ members_of l.fn.words;
  reached : length l.words ≡ l._at;
  bound : l._at ≤ max l.count (length l.fn.words);
}
