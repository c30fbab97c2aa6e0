use Rattle.std.proofs.Common.{rules, ◌≡◌, true, subst, sym}
use Rattle.c_ir.specs.declared.tree.Expr.{Expr}
use Rattle.c_ir.specs.Placed.{is_formed}
use Rattle.c_rules.specs.Typing.{literal, literal_type}
use Rattle.c_rules.proofs.Formed.{literal_formed}
use Rattle.c_rules.proofs.literals.literal.Goals as goal

pub returns-in-Some-clause-formed : goal.returns-in-Some-clause-formed
unfolding literal_type
returns-in-Some-clause-formed c =
    let a = c.args in
    let is : c.constant.result ≡ literal a.value (literal_type a.value a.form a.unsigned a.longs) = search rules in
    λ l place. subst (λ (e : Expr). is_formed l place e ≡ true) (sym is) (literal_formed l place a.value a.form a.unsigned a.longs)
