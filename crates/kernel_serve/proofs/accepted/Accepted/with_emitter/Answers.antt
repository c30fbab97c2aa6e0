use Rattle.std.proofs.Common.{subst, sym, arith}
use Rattle.status_history.specs.declared.history.History.{History}
use Rattle.kernel_serve.specs.inner.Keeping.{IsNew}
use Rattle.kernel_serve.proofs.Emitters.{knows_more}
use Rattle.kernel_serve.proofs.accepted.Accepted.with_emitter.Goals as goal

pub invariant_of-result : goal.invariant_of-result
invariant_of-result c =
    let h = c.self.inside.history in
    let new : IsNew h c.args.name = subst (λ (h : History). IsNew h c.args.name) (sym c.self.view_is) c.requires in
    knows_more h _ c.args.name _ c.args.correctness _ c.self.inside.version c.self.inside.script _ c.self.invariant new
    c.as_str.ensures.value (omega (arith, c.len.ensures)) c.in_ok-told.ensures.ok c.in_ok-push.ensures.ok
