use Rattle.std.proofs.Common.{◌≡◌, drop}
use Rattle.std.specs.Prelude.{bytes_eq}
use Rattle.std.specs.List.{list_any}
use Rattle.acsl_read.specs.inner.Rows.{texts_of}
use Rattle.acsl_read.proofs.text.is_among.Given as goal

abbrev pub invariant-loop-word : goal.invariant-loop-word
invariant-loop-word l = list_any (λ w. bytes_eq l.text w) (texts_of (drop l.word-index l.words)) ≡ list_any (λ w. bytes_eq l.text w) (texts_of l.words)
