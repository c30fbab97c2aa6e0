use Rattle.std.proofs.Common.{sym, ap, ◌∙◌}
use Rattle.std.specs.List.{list_all}
use Rattle.fc_base.specs.declared.ids.PropId.{PropId}
use Rattle.status_rules.specs.Holds.{basis_of, nothing}
use Rattle.status_rules.specs.Support.{is_bare}
use Rattle.support_cert.specs.inner.Scanned.{hyps_pass}
use Rattle.support_cert.proofs.Counted.{by_entry_is}
use Rattle.support_cert.proofs.scan.Scan.is_bare.Goals as goal

pub returns-in-Some : goal.returns-in-Some
returns-in-Some c =
    let h = c.args.self.now.history.now in
    let t = c.args.self.now.props.now in
    let p = c.args.prop.0 in
    let read = ap (is_bare (basis_of h t) p) c.in-ByEntry.is ∙ (by_entry_is nothing h t p c.in-ByEntry.place ∙ sym (ap (hyps_pass nothing) c.in-Some.ensures)) in
    c.has_none.ensures ∙ (ap (list_all (λ (q : PropId). nothing q.0)) c.as_slice.ensures ∙ sym read)
