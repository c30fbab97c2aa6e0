use Rattle.c_typing.proofs.Undoing.{kept}
use Rattle.c_typing.proofs.scope.name_is.Goals as goal

pub returns-clause-kept : goal.returns-clause-kept
returns-clause-kept c = rw (c.in_ok-push.ensures.ok, c.in_ok-name.ensures) (kept _ _ _ _ _ _ c.in_ok-before.ensures.before c.in_ok-before.ensures.after)
