use Rattle.std.proofs.Common.{rules, ◌≡◌, true, subst}
use Rattle.c_ir.specs.declared.tree.Expr.{Expr}
use Rattle.c_rules.specs.Fits.{is_target}
use Rattle.c_rules.proofs.Named.{scalar_target}
use Rattle.c_rules.proofs.name.object_written.Goals as goal
use Rattle.c_ir.specs.Sited.{at_sites}
use Rattle.c_rules.proofs.Sited.{object_written_sited}

pub returns-clause-formed : goal.returns-clause-formed
returns-clause-formed c =
    let o = c.args.object.now in
    λ l fits scalar. subst (λ (e : Expr). is_target l e ≡ true) (search rules) (scalar_target l o o.length fits scalar)

pub returns-clause-sited : goal.returns-clause-sited
returns-clause-sited c =
    let o = c.args.object.now in
    λ infos point. subst (λ (e : Expr). at_sites infos point e ≡ true) (search rules) (object_written_sited infos point o o.length)
