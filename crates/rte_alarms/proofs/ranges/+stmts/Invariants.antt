use Rattle.std.proofs.Common.{◌≡◌, ◌++◌, drop}
use Rattle.rte_alarms.specs.inner.Opened.{open_stmts}
use Rattle.rte_alarms.proofs.ranges.+stmts.Given as goal

abbrev pub invariant-add_stmts-loop-s : goal.invariant-add_stmts-loop-s
invariant-add_stmts-loop-s l = l.found ++ open_stmts (drop l.s-index l.all) ≡ l.fn.found ++ open_stmts l.all
