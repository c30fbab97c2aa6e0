use Rattle.std.proofs.Common.{◌≡◌, ◌++◌, ◌+◌, ◌-◌, drop, map}
use Rattle.eva_rules.specs.Writing.{each_set}
use Rattle.eva_run.proofs.writing.each_set.Given as goal

abbrev pub invariant-loop-number : goal.invariant-loop-number
invariant-loop-number l = each_set (l.first + l.number) (l.count - l.number) l.value l.cells ≡ each_set l.fn.first l.fn.count l.fn.value l.fn.cells
