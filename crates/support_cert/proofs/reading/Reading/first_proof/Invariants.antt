use Rattle.std.proofs.Common.{◌≡◌, map, drop}
use Rattle.std.specs.Prelude.{find}
use Rattle.status_rules.specs.Holds.{is_sure}
use Rattle.status_rules.specs.inner.ByProp.{placed}
use Rattle.status_rules.specs.inner.Consolidated.{basis}
use Rattle.support_cert.specs.inner.Found.{usable}
use Rattle.support_cert.proofs.reading.Reading.first_proof.Given as goal

abbrev pub invariant-loop-found : goal.invariant-loop-found
invariant-loop-found l =
    let test = usable 4294967295 (is_sure (basis l.self.props.now l.self.values l.self.entries)) in
    find test (map placed (drop l.found-index l.entries)) ≡ find test (map placed l.entries)
