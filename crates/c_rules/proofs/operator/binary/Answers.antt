use Rattle.std.proofs.Common.{rules}
use Rattle.c_rules.specs.Typing as rule
use Rattle.c_rules.proofs.Formed.{binary_formed}
use Rattle.c_rules.proofs.operator.binary.Goals as goal
use Rattle.c_rules.proofs.Sited.{binary_sited}

pub returns-clause-formed : goal.returns-clause-formed
unfolding rule.binary
returns-clause-formed c =
    λ l place is_left is_right. binary_formed l place c.args.point c.args.op c.args.left c.args.right c.args.found.now.sites _ c.site.new.self.sites (search rules) is_left is_right

pub returns-clause-sited : goal.returns-clause-sited
unfolding rule.binary
returns-clause-sited c =
    let a = c.args in
    λ infos ext is_left is_right. binary_sited infos a.point a.op a.left a.right a.found.now.sites _ c.site.new.self.sites (search rules) ext is_left is_right
