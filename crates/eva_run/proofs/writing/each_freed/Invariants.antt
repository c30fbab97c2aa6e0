use Rattle.std.proofs.Common.{◌≡◌, ◌++◌, ◌+◌, ◌-◌, drop, map}
use Rattle.eva_rules.specs.Writing.{each_freed}
use Rattle.eva_run.proofs.writing.each_freed.Given as goal

abbrev pub invariant-loop-number : goal.invariant-loop-number
invariant-loop-number l = l.values ++ each_freed l.function (drop l.number l.infos) (drop l.number l.cells)
    ≡ each_freed l.function l.infos l.cells
