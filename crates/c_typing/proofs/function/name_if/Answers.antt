use Rattle.c_rules.specs.declared.scope.Entry.TheVariants as E
use Rattle.c_typing.proofs.Roomy.{put_roomy}
use Rattle.c_typing.proofs.function.name_if.Goals as goal

pub returns-in_ok-set-clause-kept : goal.returns-in_ok-set-clause-kept
returns-in_ok-set-clause-kept c = λ h all. put_roomy _ (E.Function c.args.function) _ _ c.in_ok-set.ensures.after h all
