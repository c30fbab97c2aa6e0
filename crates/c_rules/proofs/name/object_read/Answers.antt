use Rattle.std.proofs.Common.{rules}
use Rattle.c_rules.proofs.Named.{object_read_formed}
use Rattle.c_rules.proofs.name.object_read.Goals as goal
use Rattle.c_rules.proofs.Sited.{object_read_sited}

pub returns-clause-formed : goal.returns-clause-formed
returns-clause-formed c =
    let o = c.args.object.now in
    λ l place fits. object_read_formed l place c.args.point o o.length c.args.found.now.sites _ c.site.new.self.sites (search rules) fits

pub returns-clause-sited : goal.returns-clause-sited
returns-clause-sited c =
    let o = c.args.object.now in
    λ infos ext. object_read_sited infos c.args.point o o.length c.args.found.now.sites _ c.site.new.self.sites (search rules) ext
