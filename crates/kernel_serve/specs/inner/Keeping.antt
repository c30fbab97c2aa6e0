-- What is kept beside the history of a script, and when one more change joins it.
use Rattle.std.specs.Prelude.{◌≡◌, ◌<◌, ◌≤◌, ℕ, List, [], false, length, ⊤}
use Rattle.fc_base.specs.declared.ids.EmitterId.{EmitterId}
use Rattle.status_history.specs.Values.{version_of}
use Rattle.status_history.specs.declared.history.Change.{Change}
use Rattle.status_history.specs.declared.history.Change.TheVariants.{Register, Param, Emit}
use Rattle.status_history.specs.declared.history.History.{History}
use Rattle.status_rules.specs.Judge.{is_taken}
use Rattle.kernel_serve.specs.Limits.{most_changes}
use Rattle.kernel_serve.specs.Registered.{registered}

-- its version, which is within the limit of changes, and the emitters that are registered
pub record Keeps (h : History) (version : ℕ) (told : List (List ℕ × EmitterId)) : Type 0 where
  pub params : version ≡ version_of h
  pub few : version ≤ most_changes
  pub names : told ≡ registered h.changes

-- a new name, and room for one more emitter
abbrev pub IsNew : History → List ℕ → Type 0
IsNew h name = (is_taken h name ≡ false) × (length (registered h.changes) < 252)

-- what is asked of a change that joins
abbrev pub MayJoin : History → Change → Type 0
MayJoin h (Register name set) = IsNew h name
MayJoin h (Param n x) = length h.changes < most_changes
MayJoin h (Emit e) = ⊤

-- a history that sets no parameter and registers no emitter
pub record IsFirst (h : History) : Type 0 where
  pub params : version_of h ≡ 0
  pub names : registered h.changes ≡ []
