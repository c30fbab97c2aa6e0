use Rattle.std.proofs.Common.{◌≡◌, map, drop}
use Rattle.std.specs.Prelude.{find}
use Rattle.status_rules.specs.Holds.{nothing}
use Rattle.status_rules.specs.inner.ByProp.{placed}
use Rattle.support_cert.specs.inner.Found.{usable}
use Rattle.support_cert.proofs.reading.first_bare.Given as goal

abbrev pub invariant-loop-found : goal.invariant-loop-found
invariant-loop-found l =
    find (usable 4294967295 nothing) (map placed (drop l.found-index l.entries)) ≡ find (usable 4294967295 nothing) (map placed l.entries)
