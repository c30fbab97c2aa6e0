use Rattle.std.proofs.Common.{◌≡◌, map, drop}
use Rattle.status_rules.specs.Verdicts.{has_said}
use Rattle.status_rules.specs.inner.ByProp.{placed}
use Rattle.status_rules.proofs.consolidation.has_said.Given as goal

abbrev pub invariant-loop-found : goal.invariant-loop-found
invariant-loop-found l = has_said l.status (map placed (drop l.found-index l.entries)) ≡ has_said l.status (map placed l.entries)
