use Rattle.std.proofs.Common.{◌≡◌, ◌<◌, ℕ, bit_or}
use Rattle.prop_set.specs.inner.Words.{word_at}
use Rattle.prop_set.proofs.words.are_within.Given as goal

abbrev pub invariant-loop-at : goal.invariant-loop-at
invariant-loop-at l = (i : ℕ) → i < l.at → bit_or (word_at l.left i) (word_at l.right i) ≡ word_at l.right i
