use Rattle.std.proofs.Common.{drop, ◌≤◌, ◌^◌}
use Rattle.c_ir.specs.Numbers.{sites_of_all}
use Rattle.prop_table.specs.inner.Fitting.{top}
use Rattle.prop_table.proofs.operators.+exprs.Given as goal

-- if what is left fits, all fits
abbrev pub invariant-see_all-loop-e : goal.invariant-see_all-loop-e
invariant-see_all-loop-e l = top (sites_of_all (drop l.e-index l.all)) ≤ 2 ^ 32 → top (sites_of_all l.all) ≤ 2 ^ 32
