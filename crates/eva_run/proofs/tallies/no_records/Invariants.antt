use Rattle.std.proofs.Common.{◌≡◌, [], true, replicate}
use Rattle.eva_run.proofs.tallies.no_records.Given as goal

abbrev pub invariant-loop-number : goal.invariant-loop-number
invariant-loop-number l = l.all ≡ replicate l._number
    (record { may_hold = true; may_fail = true; used = [] })
