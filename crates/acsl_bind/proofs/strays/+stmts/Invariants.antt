use Rattle.std.proofs.Common.{◌≡◌, ◌++◌, drop}
use Rattle.acsl_bind.specs.Notes.{places_of}
use Rattle.acsl_bind.proofs.strays.+stmts.Given as goal

abbrev pub invariant-add_all-loop-s : goal.invariant-add_all-loop-s
invariant-add_all-loop-s l = l.found ++ places_of (drop l.s-index l.all) ≡ l.fn.found ++ places_of l.all
