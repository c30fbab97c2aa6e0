use Rattle.std.proofs.Common.{◌≡◌, ◌++◌, drop}
use Rattle.rte_alarms.specs.inner.Opened.{open_of_all}
use Rattle.rte_alarms.proofs.ranges.+exprs.Given as goal

abbrev pub invariant-add_all-loop-e : goal.invariant-add_all-loop-e
invariant-add_all-loop-e l = l.found ++ open_of_all (drop l.e-index l.all) ≡ l.fn.found ++ open_of_all l.all
