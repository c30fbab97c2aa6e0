-- The support that is computed: the code's side. Places of entries are at most m.
use Rattle.std.specs.Prelude.{List, [], ◌∷◌, ◌++◌, ℕ, Bool, nat_le, ◌&&◌, Option, Some, None, find, if◌then◌else◌}
use Rattle.fc_base.specs.declared.ids.PropId.{PropId}
use Rattle.fc_base.specs.declared.status.LocalStatus.TheVariants as Status
use Rattle.status_rules.specs.declared.steps.Reason.{Reason}
use Rattle.status_rules.specs.declared.steps.Reason.TheVariants.{Admitted, ByEntry, ByDead}
use Rattle.status_rules.specs.declared.steps.Step.{Step}
use Rattle.status_rules.specs.Counting.{PlacedEntry}
use Rattle.status_rules.specs.Holds.{Basis, entries_on, is_admitted, is_sure, nothing, supports}
use Rattle.status_rules.specs.Support.{has_step}
use Rattle.support_cert.specs.inner.Scanned.{live_dead}

abbrev pub usable : ℕ → (ℕ → Bool) → PlacedEntry → Bool
usable m known e = nat_le e.place m && supports Status.True known e

-- the first counted True entry on a property whose hypotheses pass a test
abbrev pub entry_by : ℕ → (ℕ → Bool) → Basis → ℕ → Option PlacedEntry
entry_by m known b p = find (usable m known) (entries_on b p)

abbrev pub bare_entry : ℕ → Basis → ℕ → Option PlacedEntry
bare_entry m b p = entry_by m nothing b p

abbrev pub sure_entry : ℕ → Basis → ℕ → Option PlacedEntry
sure_entry m b p = entry_by m (is_sure b) b p

abbrev pub step_of : ℕ → Reason → Step
step_of p why = record { prop = record { 0 = p }; reason = why }

abbrev pub by_entry : ℕ → PlacedEntry → Step
by_entry p e = step_of p (ByEntry e.place)

-- steps and one more, if there is none on its property
abbrev pub with_step : List Step → Step → List Step
with_step steps s = if has_step steps s.prop.0 then steps else steps ++ s ∷ []

-- steps and one by the property of kind Dead, which has this entry
abbrev pub with_dead : List Step → ℕ → ℕ → Option PlacedEntry → List Step
with_dead steps p d None = steps
with_dead steps p d (Some e) = with_step steps (by_entry d e) ++ step_of p ByDead ∷ []

abbrev pub with_dead_of : ℕ → Basis → List Step → ℕ → Option PropId → List Step
with_dead_of m b steps p None = steps
with_dead_of m b steps p (Some d) = with_dead steps p d.0 (bare_entry m b d.0)

-- steps and those of a sure property, by the first reason that it has
abbrev pub sure_steps_by : ℕ → Basis → List Step → ℕ → Option PlacedEntry → List Step
sure_steps_by m b steps p (Some e) = steps ++ by_entry p e ∷ []
sure_steps_by m b steps p None =
    if is_admitted b p then steps ++ step_of p Admitted ∷ [] else with_dead_of m b steps p (live_dead b.table p)

abbrev pub sure_steps : ℕ → Basis → List Step → ℕ → List Step
sure_steps m b steps p = sure_steps_by m b steps p (bare_entry m b p)

-- steps and those of a sure property that has none
abbrev pub with_sure : ℕ → Basis → List Step → ℕ → List Step
with_sure m b steps p = if has_step steps p then steps else sure_steps m b steps p

-- steps and those of sure properties
abbrev pub with_all : ℕ → Basis → List Step → List PropId → List Step
with_all m b steps [] = steps
with_all m b steps (q ∷ qs) = with_all m b (with_sure m b steps q.0) qs

-- the steps of an entry whose hypotheses are all sure
abbrev pub entry_steps : ℕ → Basis → ℕ → PlacedEntry → List Step
entry_steps m b p e = with_step (with_all m b [] e.entry.hyps) (by_entry p e)

abbrev pub dead_entry_steps : ℕ → Basis → ℕ → ℕ → Option PlacedEntry → Option (List Step)
dead_entry_steps m b p d None = None
dead_entry_steps m b p d (Some e) = Some (entry_steps m b d e ++ step_of p ByDead ∷ [])

abbrev pub dead_steps : ℕ → Basis → ℕ → Option PropId → Option (List Step)
dead_steps m b p None = None
dead_steps m b p (Some d) = dead_entry_steps m b p d.0 (sure_entry m b d.0)

abbrev pub other_steps : ℕ → Basis → ℕ → Option PlacedEntry → Option (List Step)
other_steps m b p (Some e) = Some (entry_steps m b p e)
other_steps m b p None = dead_steps m b p (live_dead b.table p)

-- a support of a property, if it holds
unfoldable pub support_of : ℕ → Basis → ℕ → Option (List Step)
support_of m b p = if is_sure b p then Some (sure_steps m b [] p) else other_steps m b p (sure_entry m b p)
