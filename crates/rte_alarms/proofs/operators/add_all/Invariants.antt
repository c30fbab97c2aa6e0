use Rattle.std.proofs.Common.{◌≡◌, ◌++◌, drop, map}
use Rattle.rte_alarms.specs.Entries.{site_id}
use Rattle.rte_alarms.proofs.operators.add_all.Given as goal

abbrev pub invariant-loop-number : goal.invariant-loop-number
invariant-loop-number l = l.all ++ map site_id (drop l.number-index l.numbers) ≡ l.fn.all
    ++ map site_id l.numbers
