use Rattle.std.proofs.Common.{◌≡◌, drop}
use Rattle.std.specs.Option.{option_map}
use Rattle.c_runs.specs.Statements.{clauses_at}
use Rattle.eva_rules.specs.Points.{admitting}
use Rattle.eva_run.specs.Code.{ground_by}
use Rattle.eva_run.proofs.points.admitting.Given as goal

abbrev pub invariant-loop-clause : goal.invariant-loop-clause
invariant-loop-clause l =
    admitting (ground_by l.setting) l.point (option_map (λ x. x.now) l.entry)
    (drop l.clause-index l.clause-items) l.now
    ≡ admitting (ground_by l.setting) l.point (option_map (λ x. x.now) l.entry)
    (clauses_at l.setting.program.now l.point) l.fn.state
