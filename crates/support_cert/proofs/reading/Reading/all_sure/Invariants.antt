use Rattle.std.proofs.Common.{◌≡◌, drop}
use Rattle.std.specs.List.{list_all}
use Rattle.fc_base.specs.declared.ids.PropId.{PropId}
use Rattle.status_rules.specs.Holds.{is_sure}
use Rattle.status_rules.specs.inner.Consolidated.{basis}
use Rattle.support_cert.proofs.reading.Reading.all_sure.Given as goal

abbrev pub invariant-loop-hyp : goal.invariant-loop-hyp
invariant-loop-hyp l =
    let test = λ (q : PropId). is_sure (basis l.self.props.now l.self.values l.self.entries) q.0 in
    list_all test (drop l.hyp-index l.hyps) ≡ list_all test l.hyps
