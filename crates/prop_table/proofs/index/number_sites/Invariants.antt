use Rattle.std.proofs.Common.{◌≡◌, ◌++◌, drop}
use Rattle.prop_table.specs.Points.{noted_sites}
use Rattle.prop_table.proofs.index.number_sites.Given as goal

abbrev pub invariant-loop-number : goal.invariant-loop-number
invariant-loop-number l = l.noted ++ noted_sites l.number (drop l.number l.sites) ≡ noted_sites 0 l.sites
