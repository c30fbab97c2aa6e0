use Rattle.std.proofs.Common.{sym}
use Rattle.c_runs.specs.Visits.{Precondition}
use Rattle.eva_rules.specs.Points.{preconditions_noted}
use Rattle.eva_run.specs.Code.{ground_by}
use Rattle.eva_run.proofs.Tallying.{precondition_step}
use Rattle.eva_run.proofs.points.preconditions_noted.Goals as goal

pub loop-place-preserved : goal.loop-place-preserved
loop-place-preserved c =
    let both = c.in_ok-now.ensures (Precondition c.args.point c.loop-place.place)
    (sym c.instance-number.ensures) in
    precondition_step (ground_by c.args.setting) c.args.noting c.args.point c.loop-place.place
    c.args.clauses.now
    c.index-clauses-place.result c.loop-place.now c.in_ok-now.now c.args.table.now c.loop-place.table
    c.decide.new.table (preconditions_noted (ground_by c.args.setting) c.args.point 0 c.args.clauses.now
    c.args.state)
    c.loop-place-test.true both.0 both.1 c.loop-place.invariant
