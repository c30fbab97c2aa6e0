use Rattle.std.proofs.Common.{◌≡◌, drop}
use Rattle.acsl_read.specs.Classes.{class_in}
use Rattle.acsl_read.specs.inner.Rows.{words_of}
use Rattle.acsl_read.proofs.class.class_in.Given as goal

abbrev pub invariant-loop-word : goal.invariant-loop-word
invariant-loop-word l = class_in (words_of (drop l.word-index l.rows)) l.text ≡ class_in (words_of l.rows) l.text
