use Rattle.std.specs.Option.{option_map}
use Rattle.eva_rules.specs.Points.{entry_or}
use Rattle.eva_run.specs.Code.{ground_by}
use Rattle.eva_run.proofs.Tallying.{used_it}
use Rattle.eva_run.proofs.points.using.Goals as goal

pub returns : goal.returns
returns c n is =
    used_it (ground_by c.args.setting) n c.args.number
    (entry_or (option_map (λ x. x.now) c.args.entry) c.args.state)
    c.args.state c.in_ok-state.state c.args.pred.now c.insert.new.self c.in_ok-state.ensures
    c.in_ok-insert.ensures.added is
