use Rattle.std.proofs.Common.{◌≡◌, ◌+◌, ◌<◌, ◌^◌, drop}
use Rattle.prop_table.specs.inner.Counts.{capped, fns_count}
use Rattle.prop_table.proofs.counts.count.Given as goal

abbrev pub invariant-loop-f : goal.invariant-loop-f
invariant-loop-f l = record {
  sum : capped (l.total + fns_count l.program (drop l.f-index l.program.fns)) ≡ capped (fns_count l.program l.program.fns);
  fits : l.total < 2 ^ 64;
}
