use Rattle.std.proofs.Common.{sym, ◌∙◌}
use Rattle.kernel_serve.proofs.Judged.{may_join}
use Rattle.kernel_serve.proofs.accepted.Accepted.with_allowed.Goals as goal

pub with-requires : goal.with-requires
with-requires c =
    may_join c.args.props.now c.args.self c.args.change c.in-Ok.field-0 (sym c.judged.ensures ∙ c.in-Ok.is)
