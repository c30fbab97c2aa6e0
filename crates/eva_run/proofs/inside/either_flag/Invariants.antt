use Rattle.std.proofs.Common.{◌≡◌, ◌++◌, ◌+◌, ◌-◌, drop, map}
use Rattle.eva_rules.specs.Passing.{either_flag}
use Rattle.eva_run.proofs.inside.either_flag.Given as goal

abbrev pub invariant-loop-number : goal.invariant-loop-number
invariant-loop-number l = l.all ++ either_flag (drop l.number l.flags) (drop l.number l.cells) ≡ either_flag l.flags l.cells
