use Rattle.std.proofs.Common.{refl}
use Rattle.c_rules.specs.declared.scope.Entry.TheVariants as E
use Rattle.c_typing.proofs.Roomy.{put_roomy}
use Rattle.c_typing.proofs.global.set_values.Goals as goal

pub returns-clause-functions : goal.returns-clause-functions
returns-clause-functions c = record { functions = refl; roomy = λ all. put_roomy _ (E.Object _) _ _ c.in_ok-set.ensures.after tt all }
