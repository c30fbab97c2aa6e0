use Rattle.std.proofs.Common.{◌≡◌, ◌≤◌, ◌++◌, ℕ, drop, length}
use Rattle.std.specs.Prelude.{get_or, replicate}
use Rattle.rte_alarms.specs.inner.Links.{links_by}
use Rattle.rte_alarms.proofs.links.links_of.Given as goal

-- what is left gives the rest, and no count is above the number of properties so far
abbrev pub invariant-loop-prop : goal.invariant-loop-prop
invariant-loop-prop l = record {
  links : l.found ++ links_by l.program l.lists l.total l.counts.items (drop l.prop-index l.rows)
      ≡ links_by l.program l.lists l.total (replicate (length l.program.points) 0) l.rows;
  counts : (q : ℕ) → get_or l.counts.items q 0 ≤ l.prop-index;
}
