use Rattle.std.proofs.Common.{drop}
use Rattle.std.specs.Option.{option_map}
use Rattle.eva_rules.specs.Points.{clauses_noted}
use Rattle.eva_run.specs.Code.{ground_by}
use Rattle.eva_run.proofs.Tallying.{Goes}
use Rattle.eva_run.proofs.points.clauses_noted.Given as goal

abbrev pub invariant-loop-place : goal.invariant-loop-place
invariant-loop-place l =
    Goes (ground_by l.setting).number l.noting l.fn.table
    (clauses_noted (ground_by l.setting) l.point 0 (option_map (λ x. x.now) l.entry) l.clauses l.fn.state)
    l.table
    (clauses_noted (ground_by l.setting) l.point l.place (option_map (λ x. x.now) l.entry)
    (drop l.place l.clauses) l.now)
