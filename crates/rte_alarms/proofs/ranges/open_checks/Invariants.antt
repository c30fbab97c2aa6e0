use Rattle.std.proofs.Common.{◌≡◌, ◌++◌, drop}
use Rattle.rte_alarms.specs.inner.Opened.{open_fns}
use Rattle.rte_alarms.proofs.ranges.open_checks.Given as goal

abbrev pub invariant-loop-f : goal.invariant-loop-f
invariant-loop-f l = l.found ++ open_fns (drop l.f-index l.program.fns) ≡ open_fns l.program.fns
