use Rattle.std.proofs.Common.{◌≡◌, ◌++◌, ◌+◌, ◌-◌, drop, map}
use Rattle.eva_rules.specs.Thresholds.{constants_of_clauses}
use Rattle.eva_run.proofs.thresholds.add_clauses.Given as goal

abbrev pub invariant-loop-clause : goal.invariant-loop-clause
invariant-loop-clause l = l.found ++ constants_of_clauses (drop l.clause-index l.all) ≡ l.fn.found ++ constants_of_clauses l.all
