use Rattle.std.proofs.Common.{◌≡◌, map, drop}
use Rattle.std.specs.List.{list_any}
use Rattle.fc_base.specs.declared.status.LocalStatus.TheVariants as Status
use Rattle.status_rules.specs.Holds.{nothing, supports}
use Rattle.status_rules.specs.inner.ByProp.{placed}
use Rattle.support_cert.proofs.reading.any_bare.Given as goal

abbrev pub invariant-loop-found : goal.invariant-loop-found
invariant-loop-found l =
    list_any (supports Status.True nothing) (map placed (drop l.found-index l.entries)) ≡ list_any (supports Status.True nothing) (map placed l.entries)
