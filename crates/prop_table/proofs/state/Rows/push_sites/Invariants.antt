use Rattle.std.proofs.Common.{◌≤◌, ◌+◌, length, drop}
use Rattle.prop_table.specs.declared.state.Rows.{Rows}
use Rattle.prop_table.specs.Rows.{alarms}
use Rattle.prop_table.specs.inner.Counts.{alarms_count}
use Rattle.prop_table.specs.inner.Numbered.{spot_of, Adds}
use Rattle.prop_table.proofs.state.Rows.push_sites.Given as goal

-- whatever adds what is left adds all
abbrev pub invariant-loop-site : goal.invariant-loop-site
invariant-loop-site l = record {
  goes : (z : Rows) → Adds l.self z (spot_of l.at) (alarms l.program l.at.line (drop l.site-index l.sites)) → Adds l.fn.self z (spot_of l.at) (alarms l.program l.at.line l.sites);
  room : length l.self.rows + alarms_count l.program (drop l.site-index l.sites) ≤ 65536;
}
