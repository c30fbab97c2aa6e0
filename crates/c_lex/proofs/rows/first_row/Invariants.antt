use Rattle.std.proofs.Common.{◌≡◌, drop}
use Rattle.c_lex.specs.inner.Reading.{first_row, rows_of}
use Rattle.c_lex.proofs.rows.first_row.Given as goal

abbrev pub invariant-loop-text : goal.invariant-loop-text
invariant-loop-text g l = first_row l.in_note (rows_of (drop l.text-index l.rows)) l.bytes ≡ first_row l.in_note (rows_of l.rows) l.bytes
