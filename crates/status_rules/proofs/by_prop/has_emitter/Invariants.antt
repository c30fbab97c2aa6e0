use Rattle.std.proofs.Common.{◌≡◌, map, drop}
use Rattle.std.specs.List.{list_any}
use Rattle.status_rules.specs.Counting.{is_same_emitter}
use Rattle.status_rules.specs.inner.ByProp.{placed}
use Rattle.status_rules.proofs.by_prop.has_emitter.Given as goal

abbrev pub invariant-loop-found : goal.invariant-loop-found
invariant-loop-found l = list_any (is_same_emitter (placed l.other)) (map placed (drop l.found-index l.entries)) ≡ list_any (is_same_emitter (placed l.other)) (map placed l.entries)
