use Rattle.std.proofs.Common.{◌≡◌, map, drop}
use Rattle.std.specs.List.{list_any}
use Rattle.status_rules.specs.Holds.{supports}
use Rattle.status_rules.specs.inner.ByProp.{placed}
use Rattle.status_rules.specs.inner.Flags.{flag}
use Rattle.status_rules.proofs.flags.has_support.Given as goal

abbrev pub invariant-loop-found : goal.invariant-loop-found
invariant-loop-found l = list_any (supports l.status (flag l.known)) (map placed (drop l.found-index l.entries)) ≡ list_any (supports l.status (flag l.known)) (map placed l.entries)
