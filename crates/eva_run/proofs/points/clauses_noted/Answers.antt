use Rattle.std.proofs.Common.{sym}
use Rattle.std.specs.Option.{option_map}
use Rattle.c_runs.specs.Visits.{Clause}
use Rattle.eva_rules.specs.Points.{clauses_noted}
use Rattle.eva_run.specs.Code.{ground_by}
use Rattle.eva_run.proofs.Tallying.{clause_step}
use Rattle.eva_run.proofs.points.clauses_noted.Goals as goal

pub loop-place-preserved : goal.loop-place-preserved
loop-place-preserved c =
    let both = c.in_ok-now.ensures (Clause c.args.point c.loop-place.place) (sym c.clause-number.ensures) in
    clause_step (ground_by c.args.setting) c.args.noting c.args.point c.loop-place.place
    (option_map (λ x. x.now) c.args.entry) c.args.clauses.now
    c.index-clauses-place.result c.loop-place.now c.in_ok-now.now c.args.table.now c.loop-place.table
    c.decide.new.table
    (clauses_noted (ground_by c.args.setting) c.args.point 0 (option_map (λ x. x.now) c.args.entry)
    c.args.clauses.now
    c.args.state)
    c.loop-place-test.true c.index-clauses-place.is both.0 both.1 c.loop-place.invariant
