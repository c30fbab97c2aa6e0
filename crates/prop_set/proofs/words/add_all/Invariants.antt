use Rattle.std.proofs.Common.{◌≡◌, ◌<◌, ◌≤◌, ℕ, bit_or, length}
use Rattle.prop_set.specs.inner.Words.{word_at}
use Rattle.prop_set.proofs.words.add_all.Given as goal

abbrev pub invariant-loop-at : goal.invariant-loop-at
invariant-loop-at l = record {
  count : length l.words ≡ length l.fn.words;
  joined : (i : ℕ) → i < l.at → word_at l.words i ≡ bit_or (word_at l.fn.words i) (word_at l.more i);
  rest : (i : ℕ) → l.at ≤ i → word_at l.words i ≡ word_at l.fn.words i;
}
