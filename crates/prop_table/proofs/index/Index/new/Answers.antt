use Rattle.std.proofs.Common.{◌≡◌, rules, length}
use Rattle.prop_table.specs.Points.{noted_sites, noted_calls}
use Rattle.prop_table.proofs.Counting.{is_index}
use Rattle.prop_table.proofs.index.Index.new.Goals as goal

pub returns : goal.returns
returns c =
    let p = c.args.program.now in
    let points : c.len-points.result ≡ length p.points = first_of (search rules, cc) in
    let sites : c.as_slice-2.result.now ≡ noted_sites 0 p.sites = first_of (search rules, cc) in
    let calls : c.as_slice-3.result.now ≡ noted_calls p.fns = first_of (search rules, cc) in
    is_index p _ c.len-points.result c.as_slice-2.result.now c.as_slice-3.result.now points sites calls c.in_ok-sites.ensures c.in_ok-calls.ensures (first_of (search rules, cc))
