use Rattle.std.proofs.Common.{◌++◌, ◌+◌, ◌-◌, ℤ, List, sym, ap, ◌∙◌}
use mathlib.Core.List.{append_assoc}
use Rattle.eva_rules.specs.Thresholds.{constants_at, constants_of_clauses}
use Rattle.eva_run.proofs.Leaves.{at_step}
use Rattle.eva_run.proofs.thresholds.add_points.Goals as goal

pub loop-point-preserved : goal.loop-point-preserved
loop-point-preserved c =
    let step = at_step c.args.program.now c.loop-point.point c.args.end c.loop-point-test.true in
    rw (c.in_ok-add_clauses.ensures, c.clauses_at.ensures)
    (append_assoc c.loop-point.found _ _ ∙ ap (λ (ks : List ℤ). c.loop-point.found ++ ks) (sym step)
    ∙ c.loop-point.invariant)
