use Rattle.std.proofs.Common.{List, Option, sym, ap, subst, ◌∙◌}
use Rattle.std.proofs.lemmas.Result.{IfOk-weaker}
use Rattle.status_rules.specs.declared.steps.Step.{Step}
use Rattle.status_rules.specs.Holds.{Basis, basis_of}
use Rattle.status_rules.specs.Support.{IsSupportIfHeld}
use Rattle.status_rules.proofs.Known.{basis_is}
use Rattle.support_cert.specs.inner.Found.{support_of}
use Rattle.support_cert.proofs.Made.{support_is}
use Rattle.support_cert.proofs.Supports.{usual}
use Rattle.support_cert.proofs.finding.support.Goals as goal

pub returns : goal.returns
returns c =
    let h = c.args.history.now in
    let t = c.args.props.now in
    let p = c.args.prop.0 in
    let lists = c.in_ok-counted_by_prop.field-0 in
    let same = basis_is h t c.values.result lists c.values.ensures c.in_ok-counted_by_prop.ensures in
    let made = support_is 4294967295 (basis_of h t) (usual h t 4294967295 c.requires) p in
    IfOk-weaker c.support.result _ _
    (λ found is. subst (λ (o : Option (List Step)). IsSupportIfHeld (basis_of h t) p o) (sym (is ∙ ap (λ (b : Basis). support_of 4294967295 b p) same)) made)
    c.support.ensures
