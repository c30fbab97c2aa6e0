use Rattle.std.proofs.Common.{drop, ◌≤◌, ◌^◌}
use Rattle.c_ir.specs.Numbers.{stmt_sites_of_all}
use Rattle.prop_table.specs.inner.Fitting.{top}
use Rattle.prop_table.proofs.operators.+stmts.Given as goal

-- if what is left fits, all fits
abbrev pub invariant-see_stmts-loop-s : goal.invariant-see_stmts-loop-s
invariant-see_stmts-loop-s l = top (stmt_sites_of_all (drop l.s-index l.all)) ≤ 2 ^ 32 → top (stmt_sites_of_all l.all) ≤ 2 ^ 32
