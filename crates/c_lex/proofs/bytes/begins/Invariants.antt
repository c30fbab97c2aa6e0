use Rattle.std.proofs.Common.{◌≡◌, ◌+◌, drop, length}
use Rattle.c_lex.specs.Bytes.{begins}
use Rattle.c_lex.proofs.bytes.begins.Given as goal

abbrev pub invariant-loop-wanted : goal.invariant-loop-wanted
invariant-loop-wanted l = record {
  same : begins (drop l.wanted-index l.text) l.rest ≡ begins l.text l.bytes;
  within : l.wanted-index + length l.rest ≡ length l.bytes;
}
