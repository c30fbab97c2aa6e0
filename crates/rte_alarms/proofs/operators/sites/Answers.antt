use Rattle.std.proofs.Common.{◌≡◌, ◌∙◌, ◌≤◌, ◌^◌, ap, length, subst, List, rules}
use Rattle.std.specs.Prelude.{IfOk}
use Rattle.fc_base.specs.declared.ids.SiteId.{SiteId}
use Rattle.c_ir.specs.declared.tree.Fun.{Fun}
use Rattle.c_ir.specs.Programs.{Program}
use Rattle.prop_table.specs.Points.{noted_sites}
use Rattle.rte_alarms.specs.inner.Sites.{exits_top}
use Rattle.rte_alarms.proofs.Pointed.{points_few, all_sites}
use Rattle.rte_alarms.proofs.operators.sites.Goals as goal

pub listed-requires : goal.listed-requires
listed-requires c =
    let p = c.args.program.now in
    let points : c.len-points.result ≡ length p.points = c.len-points.ensures
    ∙ ap (λ (v : Program). length v.points) c.program.view_is in
    let fits : exits_top p.fns ≤ 2 ^ 32 = subst (λ (fs : List Fun). exits_top fs ≤ 2 ^ 32)
    (c.as_slice-fns.ensures ∙ ap (λ (v : Program). v.fns) c.program.view_is) c.see_exits.ensures in
    points_few p c.len-points.result points c.keeps.ensures fits

pub returns : goal.returns
returns c =
    let p = c.args.program.now in
    let points : c.len-points.result ≡ length p.points = c.len-points.ensures
    ∙ ap (λ (v : Program). length v.points) c.program.view_is in
    let noted : c.as_slice.result.now ≡ noted_sites 0 p.sites = first_of (search rules, cc) in
    let all = all_sites p _ c.len-points.result c.as_slice.result.now points noted c.in_ok-by_point.ensures in
    subst (λ (ss : List SiteId). IfOk c.listed.result (λ s. s ≡ ss)) all c.listed.ensures
