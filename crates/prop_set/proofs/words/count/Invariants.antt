use Rattle.std.proofs.Common.{◌≡◌, ◌≤◌, ◌*◌, length}
use Rattle.prop_set.specs.inner.Words.{has_bit, passing}
use Rattle.prop_set.proofs.words.count.Given as goal

abbrev pub invariant-loop-word : goal.invariant-loop-word
invariant-loop-word l = record {
  count : l.count ≡ length (passing (has_bit l.words) (64 * l.word-index) 0);
  bound : l.count ≤ 64 * l.word-index;
}
