use Rattle.std.proofs.Common.{◌≡◌, drop}
use Rattle.std.specs.List.{list_all}
use Rattle.fc_base.specs.declared.ids.PropId.{PropId}
use Rattle.status_rules.specs.Holds.{basis_of}
use Rattle.status_rules.specs.Support.{has_plain}
use Rattle.support_cert.proofs.scan.Scan.all_plain.Given as goal

abbrev pub invariant-loop-hyp : goal.invariant-loop-hyp
invariant-loop-hyp l =
    let test = λ (q : PropId). has_plain (basis_of l.self.history.now l.self.props.now) l.steps q.0 in
    list_all test (drop l.hyp-index l.hyps) ≡ list_all test l.hyps
