use Rattle.std.proofs.Common.{◌≡◌, drop}
use Rattle.std.specs.List.{list_all}
use Rattle.fc_base.specs.declared.ids.PropId.{PropId}
use Rattle.status_rules.specs.Holds.{basis_of, is_sure}
use Rattle.status_rows.proofs.reading.Reading.all_sure.Given as goal

abbrev pub invariant-loop-hyp : goal.invariant-loop-hyp
invariant-loop-hyp l =
    let test = λ (q : PropId). is_sure (basis_of l.fn.self.history.now l.fn.self.props.now) q.0 in
    list_all test (drop l.hyp-index l.fn.hyps) ≡ list_all test l.fn.hyps
