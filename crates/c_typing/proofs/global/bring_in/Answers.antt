use Rattle.std.proofs.Common.{refl, subst, sym}
use Rattle.c_rules.specs.declared.scope.Entry.TheVariants as E
use Rattle.c_typing.specs.Functions.{AreRoomy}
use Rattle.c_typing.proofs.Roomy.{put_roomy}
use Rattle.std.specs.BTreeMap.{get_by_text}
use Rattle.c_typing.proofs.global.bring_in.Goals as goal

pub returns-clause-functions : goal.returns-clause-functions
returns-clause-functions c = record {
  functions = refl;
  roomy = λ all. put_roomy _ (E.Object c.object-object.result) _ _ c.in_ok-set.ensures.after tt (subst (λ ns. AreRoomy (get_by_text ns)) (sym c.in_ok-declare.ensures.1) all);
}
