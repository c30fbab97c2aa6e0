use Rattle.std.proofs.Common.{◌≡◌, ◌++◌, drop}
use Rattle.c_parse.specs.Trees.{storages_of}
use Rattle.c_parse.proofs.unit.storages.Given as goal

abbrev pub invariant-loop-word : goal.invariant-loop-word
invariant-loop-word l = l.found ++ storages_of (drop l.word-index l.words) ≡ storages_of l.words
