use Rattle.std.proofs.Common.{sym, ap, ◌∙◌}
use Rattle.std.specs.List.{list_all}
use Rattle.fc_base.specs.declared.ids.PropId.{PropId}
use Rattle.status_rules.specs.Holds.{basis_of}
use Rattle.status_rules.specs.Support.{has_plain, rests}
use Rattle.support_cert.specs.inner.Scanned.{hyps_pass}
use Rattle.support_cert.proofs.Counted.{by_entry_is}
use Rattle.support_cert.proofs.scan.Scan.rests.Goals as goal

pub returns-in-Some : goal.returns-in-Some
returns-in-Some c =
    let h = c.args.self.now.history.now in
    let t = c.args.self.now.props.now in
    let b = basis_of h t in
    let p = c.args.prop.0 in
    let known = has_plain b c.args.before.now in
    let read = ap (rests b c.args.before.now p) c.in-ByEntry.is ∙ (by_entry_is known h t p c.in-ByEntry.place ∙ sym (ap (hyps_pass known) c.in-Some.ensures)) in
    c.all_plain.ensures ∙ (ap (list_all (λ (q : PropId). known q.0)) c.as_slice.ensures ∙ sym read)
