use Rattle.std.proofs.Common.{◌≡◌, ◌++◌, ◌+◌, ◌-◌, drop, map}
use Rattle.eva_rules.specs.Writing.{each_joined}
use Rattle.eva_run.proofs.writing.each_joined.Given as goal

abbrev pub invariant-loop-number : goal.invariant-loop-number
invariant-loop-number l = each_joined l.first l.index l.value l.number (l.end - l.number) l.cells
    ≡ each_joined l.fn.first l.fn.index l.fn.value l.fn.from (l.fn.end - l.fn.from) l.fn.cells
