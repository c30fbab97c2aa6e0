use Rattle.std.proofs.Common.{◌≡◌, ◌++◌, drop}
use Rattle.c_ir.specs.Calls.{calls_of_stmts}
use Rattle.c_ir.proofs.calls.+stmt_calls.Given as goal

abbrev pub invariant-add_stmts-loop-s : goal.invariant-add_stmts-loop-s
invariant-add_stmts-loop-s l = l.found ++ calls_of_stmts (drop l.s-index l.all) ≡ l.fn.found ++ calls_of_stmts l.all
