use Rattle.std.proofs.Common.{◌<◌, length, subst, sym}
use Rattle.status_history.specs.declared.history.History.{History}
use Rattle.kernel_serve.proofs.Emitters.{after_setting}
use Rattle.kernel_serve.proofs.accepted.Accepted.with_setting.Goals as goal

pub invariant_of-result : goal.invariant_of-result
invariant_of-result c =
    let h = c.self.inside.history in
    let few : length h.changes < 200000 = subst (λ (h : History). length h.changes < 200000) (sym c.self.view_is) c.requires in
    after_setting h _ c.self.inside.version c.self.inside.script c.args.number _ c.self.invariant few
    c.in_ok-push.ensures.ok
