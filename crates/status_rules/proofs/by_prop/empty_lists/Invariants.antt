use Rattle.std.proofs.Common.{◌≡◌, ◌++◌, [], drop}
use Rattle.std.specs.Prelude.{filter}
use Rattle.status_rules.specs.inner.ByProp.{all_entries}
use Rattle.status_rules.specs.Holds.{is_on, at_each, by_prop}
use Rattle.status_rules.proofs.by_prop.empty_lists.Given as goal

abbrev pub invariant-loop-row : goal.invariant-loop-row
invariant-loop-row l = all_entries l.lists.items ++ at_each (λ p. filter (is_on p) []) l._row-index (drop l._row-index l.rows) ≡ by_prop [] l.rows
