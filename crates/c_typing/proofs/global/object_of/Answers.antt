use Rattle.std.proofs.Common.{rules, ◌≡◌, Option, Some, subst, sym}
use Rattle.c_rules.specs.declared.scope.Entry.{Entry}
use Rattle.c_rules.specs.declared.scope.Entry.TheVariants as E
use Rattle.c_rules.specs.declared.scope.Object.{Object}
use Rattle.c_typing.specs.FileScope.{IsFiled, object_of, object_by, repeated, declared_of}
use Rattle.c_typing.specs.Walking.{names_of}
use Rattle.c_typing.proofs.global.object_of.Goals as goal

pub returns-in-Some-Object-clause-value : goal.returns-in-Some-Object-clause-value
unfolding object_of
returns-in-Some-Object-clause-value c =
    let e : (names_of c.args.file.now.scope).env c.args.name.now.name ≡ Some (E.Object c.in-Some-Object.object) = first_of (search rules, cc) in
    subst (λ (o : Option Entry). IsFiled (object_by c.args.ty c.args.constant c.args.size c.args.name.now o (declared_of c.args.file.now)) c.repeated.result c.args.file.now c.repeated.new.file)
    (sym e)
    (subst (λ (o : Object). IsFiled (repeated c.args.ty c.args.constant c.args.size c.args.name.now.at.span.from o (declared_of c.args.file.now)) c.repeated.result c.args.file.now c.repeated.new.file)
    c.in-Some-Object.object-is c.repeated.ensures.value)
