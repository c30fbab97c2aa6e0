use Rattle.std.proofs.Common.{drop, ◌≤◌, ◌^◌}
use Rattle.prop_table.specs.inner.Fitting.{fns_top}
use Rattle.prop_table.proofs.operators.see_fns.Given as goal

-- if what is left fits, all fits
abbrev pub invariant-loop-f : goal.invariant-loop-f
invariant-loop-f l = fns_top (drop l.f-index l.fns) ≤ 2 ^ 32 → fns_top l.fns ≤ 2 ^ 32
