use Rattle.std.proofs.Common.{rules, ◌≡◌, true, subst}
use Rattle.c_ir.specs.declared.tree.Expr.{Expr}
use Rattle.c_ir.specs.Placed.{is_formed}
use Rattle.c_rules.specs.Typing as rule
use Rattle.c_rules.proofs.Named.{called_formed}
use Rattle.c_rules.proofs.name.called.Goals as goal
use Rattle.c_ir.specs.Sited.{at_sites}
use Rattle.c_rules.proofs.Sited.{called_sited}

pub returns-clause-formed : goal.returns-clause-formed
unfolding rule.called
returns-clause-formed c =
    let g = c.args.function.now in
    λ l place count fits allowed long are. subst (λ (e : Expr). is_formed l place e ≡ true) (search rules) (called_formed l place g c.args.args count fits allowed long are)

pub returns-clause-sited : goal.returns-clause-sited
unfolding rule.called
returns-clause-sited c =
    λ infos point all. subst (λ (e : Expr). at_sites infos point e ≡ true) (search rules) (called_sited infos point c.args.function.now c.args.args all)
