use Rattle.std.proofs.Common.{◌≡◌, ◌++◌, drop, map}
use Rattle.rte_alarms.specs.Entries.{prop_id}
use Rattle.rte_alarms.proofs.links.ids.Given as goal

abbrev pub invariant-loop-number : goal.invariant-loop-number
invariant-loop-number l = l.all ++ map prop_id (drop l.number-index l.numbers) ≡ map prop_id l.numbers
