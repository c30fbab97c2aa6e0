use Rattle.std.proofs.Common.{◌≡◌, drop}
use Rattle.std.specs.List.{list_any}
use Rattle.c_rules.specs.Specifiers.{is_const}
use Rattle.c_rules.proofs.specifiers.is_constant.Given as goal

abbrev pub invariant-loop-word : goal.invariant-loop-word
invariant-loop-word l = list_any is_const (drop l.word-index l.specifiers.words) ≡ list_any is_const l.specifiers.words
