-- Which entries count: `counted_of`, for each emitter and property the last current entry (this project's own,
-- after Correnson and Signoles, FMICS 2012).
use Rattle.std.specs.Prelude.{List, [], ◌∷◌, ◌++◌, ℕ, ◌+◌, Bool, ◌==◌, ◌&&◌, filter, map, slice_get, unwrap_or, if◌then◌else◌}
use Rattle.std.specs.List.{list_any}
use Rattle.fc_base.specs.declared.params.ParamSet.{ParamSet}
use Rattle.param_book.specs.Emitters.{own_sets}
use Rattle.param_book.specs.Agreement.{agree_on}
use Rattle.status_history.specs.declared.history.Change.{Change}
use Rattle.status_history.specs.declared.history.Change.TheVariants.{Register, Param, Emit}
use Rattle.status_history.specs.declared.history.Entry.{Entry}
use Rattle.status_history.specs.declared.history.History.{History}
use Rattle.status_history.specs.Values.{values_of, values_now, sets_registered}

-- an entry with its place in the history, where changes count from 1
pub record PlacedEntry : Type 0 where
  pub place : ℕ
  pub entry : Entry

-- the entries that the Emit changes bring, in order, where the first change has the place n
abbrev pub entries_from : ℕ → List Change → List PlacedEntry
entries_from n [] = []
entries_from n (Register name set ∷ cs) = entries_from (n + 1) cs
entries_from n (Param m x ∷ cs) = entries_from (n + 1) cs
entries_from n (Emit e ∷ cs) = record { place = n; entry = e } ∷ entries_from (n + 1) cs

abbrev pub entries_of : History → List PlacedEntry
entries_of h = entries_from 1 h.changes

-- the correctness sets of all emitters, by their numbers: the program's own, and then the registered ones
abbrev pub sets_of : List Change → List ParamSet
sets_of cs = own_sets ++ sets_registered cs

-- the correctness set of an emitter; the empty one, where no emitter has the number
abbrev pub set_of : List Change → ℕ → ParamSet
set_of cs n = unwrap_or (slice_get (sets_of cs) n) (record { 0 = 0 })

-- an entry is current if the values at its version and those at the end agree on its emitter's
-- correctness set and on what runs depend on
abbrev pub is_current : History → PlacedEntry → Bool
is_current h e = agree_on (set_of h.changes e.entry.emitter.0) (values_of h e.entry.version) (values_now h)

-- the current entries, in order
abbrev pub current_of : History → List PlacedEntry
current_of h = filter (is_current h) (entries_of h)

-- whether two entries are of one emitter
abbrev pub is_same_emitter : PlacedEntry → PlacedEntry → Bool
is_same_emitter a b = b.entry.emitter.0 == a.entry.emitter.0

-- whether two entries are of one emitter and on one property
abbrev pub is_rival : PlacedEntry → PlacedEntry → Bool
is_rival a b = (b.entry.prop.0 == a.entry.prop.0) && is_same_emitter a b

-- for each emitter and property the last entry
abbrev pub last_of_each : List PlacedEntry → List PlacedEntry
last_of_each [] = []
last_of_each (e ∷ es) = if list_any (is_rival e) es then last_of_each es else e ∷ last_of_each es

-- the entries that count: for each emitter and property the last current one
unfoldable pub counted_of : History → List PlacedEntry
counted_of h = last_of_each (current_of h)
