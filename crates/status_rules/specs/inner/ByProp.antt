-- Entries by property, as the computation of verdicts keeps them: the code's side.
use Rattle.std.specs.Prelude.{List, ◌∷◌, map, if◌then◌else◌}
use Rattle.std.specs.List.{list_any}
use Rattle.std.specs.Global.{Vec}
use Rattle.status_rules.specs.declared.counting.CountedEntry.{CountedEntry}
use Rattle.status_rules.specs.Counting.{PlacedEntry, is_same_emitter}

-- an entry and its place
abbrev pub placed : CountedEntry → PlacedEntry
placed c = record { place = c.place; entry = c.entry.now }

-- the entries of each property
abbrev pub all_entries : List (Vec CountedEntry) → List (List PlacedEntry)
all_entries lists = map (λ b. map placed b.items) lists

abbrev pub entries_in : Vec (Vec CountedEntry) → List (List PlacedEntry)
entries_in lists = all_entries lists.items

-- entries after one more in front, where there is none of its emitter
abbrev pub with_entry : PlacedEntry → List PlacedEntry → List PlacedEntry
with_entry e es = if list_any (is_same_emitter e) es then es else e ∷ es
