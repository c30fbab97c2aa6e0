use Rattle.std.proofs.Common.{◌≡◌, ◌++◌, drop}
use Rattle.prop_table.specs.Points.{noted_in_all}
use Rattle.prop_table.proofs.calls.+stmts.Given as goal

abbrev pub invariant-note_stmts-loop-s : goal.invariant-note_stmts-loop-s
invariant-note_stmts-loop-s l = l.found ++ noted_in_all (drop l.s-index l.all) ≡ l.fn.found ++ noted_in_all l.all
