use Rattle.std.proofs.Common.{arith}
use Rattle.prop_table.proofs.Numbering.{sites_step, sites_room, added_site}
use Rattle.prop_table.proofs.state.Rows.push_sites.Goals as goal

pub loop-site-preserved : goal.loop-site-preserved
loop-site-preserved c = record {
  goes = λ z h. c.loop-site.invariant.goes z (sites_step _ _ z _ c.args.program.now c.args.at.now.line c.args.sites.now c.loop-site.site-index c.loop-site-test.true c.in_ok-push_site.ensures h);
  room = omega (arith, added_site _ _ _ _ _ _ c.in_ok-push_site.ensures, c.loop-site.invariant.room, sites_room c.args.program.now c.args.sites.now c.loop-site.site-index c.loop-site-test.true);
}
