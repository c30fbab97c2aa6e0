use Rattle.std.proofs.Common.{◌≡◌, ◌++◌, drop}
use Rattle.c_ir.specs.Calls.{calls_of_all}
use Rattle.prop_table.proofs.calls.+exprs.Given as goal

abbrev pub invariant-add_all-loop-e : goal.invariant-add_all-loop-e
invariant-add_all-loop-e l = l.found ++ calls_of_all (drop l.e-index l.all) ≡ l.fn.found ++ calls_of_all l.all
