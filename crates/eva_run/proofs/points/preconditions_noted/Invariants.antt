use Rattle.std.proofs.Common.{drop}
use Rattle.eva_rules.specs.Points.{preconditions_noted}
use Rattle.eva_run.specs.Code.{ground_by}
use Rattle.eva_run.proofs.Tallying.{Goes}
use Rattle.eva_run.proofs.points.preconditions_noted.Given as goal

abbrev pub invariant-loop-place : goal.invariant-loop-place
invariant-loop-place l =
    Goes (ground_by l.setting).number l.noting l.fn.table
    (preconditions_noted (ground_by l.setting) l.point 0 l.clauses l.fn.state) l.table
    (preconditions_noted (ground_by l.setting) l.point l.place (drop l.place l.clauses) l.now)
