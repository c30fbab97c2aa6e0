use Rattle.std.proofs.Common.{◌≡◌, drop}
use Rattle.kernel_serve.specs.Stages.{entry_from}
use Rattle.kernel_serve.proofs.front.entry_of.Given as goal

abbrev pub invariant-loop-number : goal.invariant-loop-number
invariant-loop-number l = entry_from l.name l.number (drop l.number l.all) ≡ entry_from l.name 0 l.all
