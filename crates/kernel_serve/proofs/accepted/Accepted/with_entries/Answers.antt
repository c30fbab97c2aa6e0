use Rattle.kernel_serve.proofs.Emitters.{after_entries}
use Rattle.kernel_serve.proofs.accepted.Accepted.with_entries.Goals as goal

pub invariant_of-result : goal.invariant_of-result
invariant_of-result c =
    after_entries c.self.inside.history _ c.self.inside.version c.self.inside.script c.args.entries.now c.self.invariant
    c.in_ok-emit_all.ensures
