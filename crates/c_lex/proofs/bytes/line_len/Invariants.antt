use Rattle.std.proofs.Common.{◌≡◌, ◌+◌, drop}
use Rattle.c_lex.specs.inner.Reading.{line_len}
use Rattle.c_lex.proofs.bytes.line_len.Given as goal

abbrev pub invariant-loop-byte : goal.invariant-loop-byte
invariant-loop-byte l = record {
  counted : l.len + line_len (drop l.byte-index l.bytes) ≡ line_len l.bytes;
  at : l.len ≡ l.byte-index;
}
