use Rattle.std.proofs.Common.{◌<◌, ◌++◌, ◌∷◌, [], length, ap, ◌∙◌, arith}
use Rattle.status_rules.specs.inner.Flags.{flag}
use Rattle.status_rules.specs.Holds.{extends}
use Rattle.status_rules.proofs.Each.{each_more}
use Rattle.status_rules.proofs.flags.extended.Goals as goal

pub loop-place-preserved : goal.loop-place-preserved
loop-place-preserved c =
    let t = c.args.props.now in
    let i = c.loop-place.place in
    let old = c.loop-place.flags.items in
    let within : i < length t.rows = omega arith in
    each_more (extends t (flag c.args.known.now) (flag c.args.claimed.now)) i t.rows old c.push.new.self.items within (c.in_ok-push.ensures.items ∙ ap (λ b. old ++ b ∷ []) c.extends.ensures)
    ∙ c.loop-place.invariant
