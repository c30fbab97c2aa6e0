use Rattle.std.proofs.Common.{◌≡◌, drop}
use Rattle.std.specs.Prelude.{max}
use Rattle.eva_run.specs.Numbered.{past_keys}
use Rattle.eva_run.proofs.numbers.past_keys.Given as goal

abbrev pub invariant-loop-keyed : goal.invariant-loop-keyed
invariant-loop-keyed l = max l.past (past_keys (drop l.keyed-index l.all)) ≡ past_keys l.all
