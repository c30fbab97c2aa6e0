use Rattle.std.proofs.Common.{rules}
use Rattle.c_rules.specs.Typing as rule
use Rattle.c_rules.proofs.Named.{element_formed, element_targeted}
use Rattle.c_rules.proofs.name.element.Goals as goal
use Rattle.c_rules.proofs.Sited.{element_sited}

pub returns-clause-formed : goal.returns-clause-formed
unfolding rule.element
returns-clause-formed c =
    let a = c.args in
    λ l place read fits is_index. element_formed l place a.point a.array a.checked a.index a.found.now.sites _ c.site.new.self.sites (search rules) read fits is_index

pub returns-clause-targeted : goal.returns-clause-targeted
unfolding rule.element
returns-clause-targeted c =
    let a = c.args in
    λ l written fits is_index. element_targeted l a.point a.array a.checked a.index a.found.now.sites _ c.site.new.self.sites (search rules) written fits is_index

pub returns-clause-sited : goal.returns-clause-sited
unfolding rule.element
returns-clause-sited c =
    let a = c.args in
    λ infos ext is_index. element_sited infos a.point a.array a.checked a.index a.found.now.sites _ c.site.new.self.sites (search rules) ext is_index
