use Rattle.std.proofs.Common.{◌≡◌, ◌<◌, ℕ}
use Rattle.prop_set.specs.inner.Words.{word_at}
use Rattle.prop_set.proofs.words.are_same.Given as goal

abbrev pub invariant-loop-at : goal.invariant-loop-at
invariant-loop-at l = (i : ℕ) → i < l.at → word_at l.left i ≡ word_at l.right i
