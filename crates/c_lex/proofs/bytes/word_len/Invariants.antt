use Rattle.std.proofs.Common.{◌≡◌, ◌+◌, drop}
use Rattle.std.specs.List.{prefix_len}
use Rattle.c_lex.specs.Spellings.{goes_on}
use Rattle.c_lex.proofs.bytes.word_len.Given as goal

abbrev pub invariant-loop-byte : goal.invariant-loop-byte
invariant-loop-byte l = record {
  counted : l.len + prefix_len (goes_on l.first) (drop l.byte-index l.bytes) ≡ prefix_len (goes_on l.first) l.bytes;
  at : l.len ≡ l.byte-index;
}
