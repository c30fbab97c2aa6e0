use Rattle.std.proofs.Common.{◌≡◌, ◌+◌, drop}
use Rattle.std.specs.List.{prefix_len}
use Rattle.c_lex.specs.Spellings.{is_digit}
use Rattle.c_lex.proofs.bytes.digits_len.Given as goal

abbrev pub invariant-loop-byte : goal.invariant-loop-byte
invariant-loop-byte l = record {
  counted : l.len + prefix_len (is_digit l.form) (drop l.byte-index l.bytes) ≡ prefix_len (is_digit l.form) l.bytes;
  at : l.len ≡ l.byte-index;
}
