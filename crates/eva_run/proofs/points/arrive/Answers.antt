use Rattle.std.proofs.Common.{◌≡◌}
use Rattle.std.specs.Option.{option_map}
use Rattle.eva_run.specs.Code.{ground_by}
use Rattle.eva_run.proofs.Tallying.{arrived}
use Rattle.eva_run.proofs.points.arrive.Goals as goal

pub returns : goal.returns
returns c =
    arrived (ground_by c.args.setting) c.args.noting c.args.point (option_map (λ x. x.now) c.args.entry)
    c.args.state
    c.in_ok-state.state c.said_dead.result c.dead-number.result c.clauses_at-clauses.result.now
    c.args.table.now
    c.note.new.table c.clauses_noted.new.table c.clauses_noted.result c.clauses_at-clauses.ensures
    c.in_ok-state.ensures c.said_dead.ensures c.dead-number.ensures
    (c.in_ok-note.ensures (ground_by c.args.setting).number) c.clauses_noted.ensures
