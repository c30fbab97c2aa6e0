use Rattle.std.proofs.Common.{rules}
use Rattle.c_rules.specs.Typing as rule
use Rattle.c_rules.proofs.Formed.{unary_formed}
use Rattle.c_rules.proofs.operator.unary.Goals as goal
use Rattle.c_rules.proofs.Sited.{unary_sited}

pub returns-clause-formed : goal.returns-clause-formed
unfolding rule.unary
returns-clause-formed c =
    λ l place is_of. unary_formed l place c.args.point c.args.op c.args.of c.args.found.now.sites _ c.site.new.self.sites (search rules) is_of

pub returns-clause-sited : goal.returns-clause-sited
unfolding rule.unary
returns-clause-sited c =
    let a = c.args in
    λ infos ext is_of. unary_sited infos a.point a.op a.of a.found.now.sites _ c.site.new.self.sites (search rules) ext is_of
