use Rattle.std.proofs.Common.{rules, ◌≡◌, Option, Some, subst, sym}
use Rattle.c_rules.specs.declared.scope.Entry.{Entry}
use Rattle.c_rules.specs.declared.scope.Entry.TheVariants as E
use Rattle.c_rules.specs.declared.scope.Signature.{Signature}
use Rattle.c_typing.specs.Functions.{IsRoomy, EntryIsRoomy, AreRoomy}
use Rattle.c_typing.specs.Walking.{names_of}
use Rattle.c_typing.proofs.function.stands_for.Goals as goal

pub returns-in_ok-copy_of-in-Some-Function-clause-roomy : goal.returns-in_ok-copy_of-in-Some-Function-clause-roomy
unfolding AreRoomy
returns-in_ok-copy_of-in-Some-Function-clause-roomy c =
    let e : (names_of c.args.scope.now).env c.args.name.now.name ≡ Some (E.Function c.in-Some-Function.function) = first_of (search rules, cc) in
    subst (λ (g : Signature). IsRoomy g) (sym c.in_ok-copy_of-in-Some-Function.ensures)
    (subst (λ (o : Option Entry). EntryIsRoomy o) e (c.requires c.args.name.now.name))
