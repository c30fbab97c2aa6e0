use Rattle.std.proofs.Common.{◌≡◌, drop}
use Rattle.c_rules.specs.Specifiers.{count_from, nothing}
use Rattle.c_rules.proofs.specifiers.count.Given as goal

abbrev pub invariant-loop-word : goal.invariant-loop-word
invariant-loop-word l = count_from l.counts (drop l.word-index l.words) ≡ count_from nothing l.words
