-- Entries by their places in a history, where changes count from 1 (this project's own).
use Rattle.std.specs.Prelude.{◌≡◌, List, [], ◌∷◌, ◌++◌, ◌-◌, ℕ, ◌==◌, Bool, true, false, not, Option, Some, None, map, filter, slice_get}
use Rattle.std.specs.Option.{option_and_then}
use Rattle.std.specs.List.{list_any}
use Rattle.std.specs.Global.{Vec}
use Rattle.c_ir.specs.declared.prop.Prop.{Prop}
use Rattle.status_history.specs.declared.history.Change.{Change}
use Rattle.status_history.specs.declared.history.Change.TheVariants.{Register, Param, Emit}
use Rattle.status_rules.specs.Counting.{PlacedEntry}
use Rattle.status_rules.specs.Holds.{at_each, is_on}

-- the entry of a change that has this place
abbrev pub entry_in : ℕ → Change → Option PlacedEntry
entry_in k (Register name set) = None
entry_in k (Param n x) = None
entry_in k (Emit e) = Some (record { place = k; entry = e })

-- the entry at a place
abbrev pub placed_at : List Change → ℕ → Option PlacedEntry
placed_at cs k = option_and_then (entry_in k) (slice_get cs (k - 1))

abbrev pub some_placed : (PlacedEntry → Bool) → Option PlacedEntry → Bool
some_placed test None = false
some_placed test (Some e) = test e

-- whether an entry at one of these places passes a test
abbrev pub any_at : (PlacedEntry → Bool) → List Change → List ℕ → Bool
any_at test cs ks = list_any (λ k. some_placed test (placed_at cs k)) ks

-- whether there is a place
abbrev pub has_place : List ℕ → Bool
has_place [] = false
has_place (k ∷ ks) = true

-- what stands at the places of each list
abbrev pub found_at : List Change → List (Vec ℕ) → List (List (Option PlacedEntry))
found_at cs lists = map (λ b. map (placed_at cs) b.items) lists

-- the places are those of these entries, by property
abbrev pub PlacesAre : List Change → List (Vec ℕ) → List PlacedEntry → List Prop → Type 0
PlacesAre cs lists es rows =
    found_at cs lists ≡ at_each (λ p. map (λ e. Some e) (filter (is_on p) es)) 0 rows

-- whether the entry at a place is of an emitter
abbrev pub is_of : List Change → ℕ → ℕ → Bool
is_of cs emitter k = some_placed (λ e. e.entry.emitter.0 == emitter) (placed_at cs k)

-- places without those of an emitter, and one more
abbrev pub with_place : List Change → ℕ → ℕ → List ℕ → List ℕ
with_place cs emitter k ks = filter (λ x. not (is_of cs emitter x)) ks ++ k ∷ []
