use Rattle.std.proofs.Common.{sym, ap, ◌∙◌}
use Rattle.std.proofs.lemmas.Bool.{OnTrue_from, OnFalse_from, false≢true}
use Rattle.status_rules.specs.Holds.{basis_of}
use Rattle.support_cert.specs.inner.Checked.{is_certificate}
use Rattle.support_cert.proofs.Fits.{certificate_from, certified}
use Rattle.support_cert.proofs.Supports.{supported_hold}
use Rattle.support_cert.proofs.certificate.check.Goals as goal

pub returns-clause-found : goal.returns-clause-found
returns-clause-found c =
    let h = c.args.history.now in
    let t = c.args.props.now in
    let b = basis_of h t in
    let steps = c.args.support.now in
    let is = c.is_certificate.ensures ∙ ap (is_certificate b) c.as_slice.ensures in
    OnTrue_from c.is_certificate.result _ (λ yes_it. let found = certified b steps (sym is ∙ yes_it) in (found.0, found.1, supported_hold h t found.0 steps found.1))

pub returns-clause-only : goal.returns-clause-only
returns-clause-only c =
    let b = basis_of c.args.history.now c.args.props.now in
    let steps = c.args.support.now in
    let is = c.is_certificate.ensures ∙ ap (is_certificate b) c.as_slice.ensures in
    OnFalse_from c.is_certificate.result _ (λ isnt p sound. false≢true (sym isnt ∙ (is ∙ certificate_from b p steps sound)))
