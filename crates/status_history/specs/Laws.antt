-- Laws of histories.
use Rattle.std.specs.Prelude.{◌≡◌, ◌≤◌, ℕ, List}
use Rattle.status_history.specs.declared.history.Change.{Change}
use Rattle.status_history.specs.declared.history.History.{History}
use Rattle.status_history.specs.Values.{values_of, version_of, extended}

-- the values at a version stay as they are when the history grows
abbrev pub ValuesStay : Type 0
ValuesStay = (h : History) (more : List Change) (v : ℕ) → v ≤ version_of h → values_of (extended h more) v ≡ values_of h v
