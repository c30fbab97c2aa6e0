use Rattle.std.proofs.Common.{◌≡◌, ◌+◌, length}
use Rattle.std.specs.Option.{option_map}
use Rattle.c_lex.specs.inner.Reading.{inside_len}
use Rattle.c_lex.proofs.bytes.inside_len.Given as goal

abbrev pub invariant-seeking : goal.invariant-seeking
invariant-seeking l = record {
  counted : option_map (λ n. l.len + n) (inside_len l.rest) ≡ inside_len l.bytes;
  at : l.len + length l.rest ≡ length l.bytes;
}

abbrev pub decreases-seeking : goal.decreases-seeking
decreases-seeking l = length l.rest
