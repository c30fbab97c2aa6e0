use Rattle.std.proofs.Common.{◌≡◌, ◌+◌, ◌≤◌, drop}
use Rattle.c_lex.specs.Bytes.{line_ends}
use Rattle.c_lex.proofs.bytes.line_ends.Given as goal

abbrev pub invariant-loop-byte : goal.invariant-loop-byte
invariant-loop-byte l = record {
  counted : l.count + line_ends (drop l.byte-index l.bytes) ≡ line_ends l.bytes;
  bound : l.count ≤ l.byte-index;
}
