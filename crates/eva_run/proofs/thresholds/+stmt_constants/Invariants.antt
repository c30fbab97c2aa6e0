use Rattle.std.proofs.Common.{◌≡◌, ◌++◌, ◌+◌, ◌-◌, drop, map}
use Rattle.eva_rules.specs.Thresholds.{all_of, constants_of_stmt}
use Rattle.eva_run.proofs.thresholds.+stmt_constants.Given as goal

abbrev pub invariant-add_stmts-loop-s : goal.invariant-add_stmts-loop-s
invariant-add_stmts-loop-s l =
    l.found ++ all_of (map constants_of_stmt (drop l.s-index l.all))
    ≡ l.fn.found ++ all_of (map constants_of_stmt l.all)
