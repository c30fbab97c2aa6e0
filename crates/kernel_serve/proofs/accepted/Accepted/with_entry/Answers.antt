use Rattle.kernel_serve.proofs.Emitters.{after_entry}
use Rattle.kernel_serve.proofs.accepted.Accepted.with_entry.Goals as goal

pub invariant_of-result : goal.invariant_of-result
invariant_of-result c =
    after_entry c.self.inside.history _ c.self.inside.version c.self.inside.script c.args.entry c.self.invariant c.in_ok-push.ensures.ok
