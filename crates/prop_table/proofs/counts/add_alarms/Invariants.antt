use Rattle.std.proofs.Common.{◌≡◌, ◌+◌, ◌<◌, ◌^◌, drop}
use Rattle.prop_table.specs.inner.Counts.{capped, alarms_count}
use Rattle.prop_table.proofs.counts.add_alarms.Given as goal

abbrev pub invariant-loop-site : goal.invariant-loop-site
invariant-loop-site l = record {
  sum : capped (l.total + alarms_count l.program (drop l.site-index l.sites)) ≡ capped (l.fn.total + alarms_count l.program l.sites);
  fits : l.total < 2 ^ 64;
}
