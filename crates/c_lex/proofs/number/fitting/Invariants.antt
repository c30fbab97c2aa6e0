use Rattle.std.proofs.Common.{◌≡◌, drop}
use Rattle.c_lex.specs.inner.Reading.{fitting}
use Rattle.c_lex.proofs.number.fitting.Given as goal

abbrev pub invariant-loop-byte : goal.invariant-loop-byte
invariant-loop-byte l = fitting l.form l.value (drop l.byte-index l.digits) ≡ fitting l.form 0 l.digits
