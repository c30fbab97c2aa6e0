use Rattle.std.proofs.Common.{◌≡◌, drop}
use Rattle.c_lex.specs.Tokens.{is_marker}
use Rattle.c_lex.proofs.bytes.is_marker.Given as goal

abbrev pub invariant-loop-byte : goal.invariant-loop-byte
invariant-loop-byte l = is_marker l.in_note (drop l.byte-index l.bytes) ≡ is_marker l.in_note l.bytes
