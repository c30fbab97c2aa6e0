use Rattle.std.proofs.Common.{◌≡◌, ◌++◌, drop}
use Rattle.eva_run.specs.Numbered.{keyed_from}
use Rattle.eva_run.proofs.numbers.keyed.Given as goal

abbrev pub invariant-loop-number : goal.invariant-loop-number
invariant-loop-number l =
    l.all ++ keyed_from l.sought l.number (drop l.number l.rows) ≡ keyed_from l.sought 0 l.rows
