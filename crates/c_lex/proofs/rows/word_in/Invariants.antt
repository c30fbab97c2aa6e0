use Rattle.std.proofs.Common.{◌≡◌, drop}
use Rattle.c_lex.specs.Spellings.{word_in}
use Rattle.c_lex.specs.inner.Reading.{words_of}
use Rattle.c_lex.proofs.rows.word_in.Given as goal

abbrev pub invariant-loop-keyword : goal.invariant-loop-keyword
invariant-loop-keyword l = word_in (words_of (drop l.keyword-index l.rows)) l.text ≡ word_in (words_of l.rows) l.text
