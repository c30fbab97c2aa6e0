use Rattle.std.proofs.Common.{◌≡◌, ◌+◌, ◌-◌, ◌<◌, ◌^◌}
use Rattle.prop_table.specs.inner.Counts.{capped, points_count}
use Rattle.prop_table.proofs.counts.add_fn.Given as goal

abbrev pub invariant-loop-point : goal.invariant-loop-point
invariant-loop-point l = record {
  sum : capped (l.total + points_count l.program l.point (l.end - l.point)) ≡ capped (l.fn.total + points_count l.program l.f.entry.0 (l.f.exit.0 + 1 - l.f.entry.0));
  fits : l.total < 2 ^ 64;
}
