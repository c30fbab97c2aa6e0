use Rattle.std.proofs.Common.{◌≡◌, ◌+◌, ◌<◌, ◌^◌, drop}
use Rattle.prop_table.specs.inner.Counts.{capped, calls_count}
use Rattle.prop_table.proofs.counts.add_calls.Given as goal

abbrev pub invariant-loop-callee : goal.invariant-loop-callee
invariant-loop-callee l = record {
  sum : capped (l.total + calls_count l.program (drop l.callee-index l.callees)) ≡ capped (l.fn.total + calls_count l.program l.callees);
  fits : l.total < 2 ^ 64;
}
