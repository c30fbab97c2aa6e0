use Rattle.std.proofs.Common.{◌≤◌, ◌^◌, ap, length, arith}
use Rattle.c_ir.specs.Programs.{Program}
use Rattle.prop_table.specs.inner.Fitting.{fns_top}
use Rattle.prop_table.proofs.Fitting.{sites_few}
use Rattle.prop_table.proofs.index.sites_in.Goals as goal

pub number_sites-requires : goal.number_sites-requires
number_sites-requires c =
    let p = c.args.program.now in
    let fits : fns_top p.fns ≤ 2 ^ 32 = omega (arith, c.see_fns.ensures, ap fns_top c.as_slice-fns.ensures, ap (λ (v : Program). fns_top v.fns) c.program.view_is) in
    omega (arith, sites_few p c.keeps.ensures fits, ap length c.as_slice-sites.ensures, ap (λ (v : Program). length v.sites) c.program.view_is)
