use Rattle.std.proofs.Common.{◌≡◌, ◌+◌, drop, false}
use Rattle.std.specs.Option.{option_map}
use Rattle.c_lex.specs.inner.Reading.{text_len}
use Rattle.c_lex.proofs.bytes.text_len.Given as goal

abbrev pub invariant-loop-byte : goal.invariant-loop-byte
invariant-loop-byte l = record {
  counted : option_map (λ n. l.len + n) (text_len l.escaped (drop l.byte-index l.bytes)) ≡ text_len false l.bytes;
  at : l.len ≡ l.byte-index;
}
