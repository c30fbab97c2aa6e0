-- Why a property holds: `IsSupport`, a list of steps each of which rests on earlier ones (this project's own, after
-- the certificates of Correnson and Signoles, FMICS 2012).
use Rattle.std.specs.Prelude.{◌≡◌, List, [], ◌∷◌, ◌++◌, ℕ, Bool, true, false, ◌==◌, ◌&&◌, Option, Some, None}
use Rattle.std.specs.List.{list_any}
use Rattle.fc_base.specs.declared.status.LocalStatus.TheVariants as Status
use Rattle.status_rules.specs.declared.steps.Reason.{Reason}
use Rattle.status_rules.specs.declared.steps.Reason.TheVariants.{Admitted, ByEntry, ByDead}
use Rattle.status_rules.specs.declared.steps.Step.{Step}
use Rattle.status_rules.specs.Counting.{PlacedEntry}
use Rattle.status_rules.specs.Holds.{Basis, dead_passes, entries_on, is_admitted, is_held, nothing, supports}

-- whether a step is on a property
abbrev pub is_of : ℕ → Step → Bool
is_of p s = s.prop.0 == p

-- whether one of these steps is on a property
abbrev pub has_step : List Step → ℕ → Bool
has_step steps p = list_any (is_of p) steps

-- whether the counted entry at this place is a True entry on the property whose hypotheses all pass a test
abbrev pub is_by_entry : (ℕ → Bool) → Basis → ℕ → ℕ → Bool
is_by_entry known b p place =
    list_any (λ e. (e.place == place) && supports Status.True known e) (entries_on b p)

-- whether a step is by an entry without hypotheses
abbrev pub is_bare : Basis → ℕ → Reason → Bool
is_bare b p Admitted = false
is_bare b p (ByEntry place) = is_by_entry nothing b p place
is_bare b p ByDead = false

-- whether one of these steps is on a property and by an entry without hypotheses
abbrev pub has_bare : Basis → List Step → ℕ → Bool
has_bare b steps p = list_any (λ s. is_of p s && is_bare b s.prop.0 s.reason) steps

-- whether a reason among steps is plain: the property is admitted, or has an entry without hypotheses, or the one
-- of kind Dead at its point has a step by such an entry
abbrev pub is_plain : Basis → List Step → ℕ → Reason → Bool
is_plain b steps p Admitted = true
is_plain b steps p (ByEntry place) = is_bare b p (ByEntry place)
is_plain b steps p ByDead = dead_passes b.table (has_bare b steps) p

-- whether one of these steps is on a property and plain
abbrev pub has_plain : Basis → List Step → ℕ → Bool
has_plain b steps p = list_any (λ s. is_of p s && is_plain b steps s.prop.0 s.reason) steps

-- whether a property holds for a reason that rests on these steps alone: it is admitted; or the place has a counted
-- True entry on it, with hypotheses that all have plain steps; or it isn't of kind Dead, and the one of kind Dead at
-- its point has a step
abbrev pub rests : Basis → List Step → ℕ → Reason → Bool
rests b steps p Admitted = is_admitted b p
rests b steps p (ByEntry place) = is_by_entry (has_plain b steps) b p place
rests b steps p ByDead = dead_passes b.table (has_step steps) p

-- what makes steps a support of a property: each rests on those before it, no property has two, and the last is
-- the property's
pub record IsSupport (b : Basis) (p : ℕ) (steps : List Step) : Type 0 where
  pub each_rests : (before after : List Step) (s : Step) → steps ≡ before ++ s ∷ after
      → rests b before s.prop.0 s.reason ≡ true
  pub no_two : (before after : List Step) (s : Step) → steps ≡ before ++ s ∷ after
      → has_step before s.prop.0 ≡ false
  pub ends : (before : List Step) × (s : Step) × (steps ≡ before ++ s ∷ []) × (s.prop.0 ≡ p)

-- a support of a property that holds, and none of one that doesn't
abbrev pub IsSupportIfHeld : Basis → ℕ → Option (List Step) → Type 0
IsSupportIfHeld b p None = is_held b p ≡ false
IsSupportIfHeld b p (Some steps) = IsSupport b p steps
