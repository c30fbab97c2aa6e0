-- Counted entries, found by a walk over the history: the code's side.
use Rattle.std.specs.Prelude.{List, ℕ, ◌-◌, Bool, false, not, ◌==◌, ◌&&◌, drop, Option, Some, None, slice_get, if◌then◌else◌}
use Rattle.std.specs.Option.{option_and_then}
use Rattle.std.specs.List.{list_any, list_all}
use Rattle.fc_base.specs.declared.ids.PropId.{PropId}
use Rattle.fc_base.specs.declared.params.ParamSet.{ParamSet}
use Rattle.fc_base.specs.declared.status.LocalStatus.TheVariants as Status
use Rattle.c_ir.specs.Props.{Props}
use Rattle.c_ir.specs.Table.{is_row, is_live, dead_of}
use Rattle.status_history.specs.declared.history.Change.{Change}
use Rattle.status_history.specs.declared.history.Change.TheVariants.{Register, Param, Emit}
use Rattle.status_history.specs.declared.history.Entry.{Entry}
use Rattle.status_history.specs.declared.history.History.{History}
use Rattle.status_rules.specs.Counting.{PlacedEntry, is_current, is_rival}
use Rattle.status_rules.specs.Holds.{same_status}

-- an entry at a place
abbrev pub at_place : ℕ → Entry → PlacedEntry
at_place k e = record { place = k; entry = e }

-- the entry of a change
abbrev pub entry_in : Change → Option Entry
entry_in (Register name set) = None
entry_in (Param n x) = None
entry_in (Emit e) = Some e

abbrev pub some_entry : (Entry → Bool) → Option Entry → Bool
some_entry test None = false
some_entry test (Some e) = test e

-- whether an entry is a current one of the emitter and on the property of another
abbrev pub is_later : History → Entry → Entry → Bool
is_later h e x = is_rival (at_place 0 e) (at_place 0 x) && is_current h (at_place 0 x)

-- whether one of these changes brings such an entry
abbrev pub is_replaced : History → Entry → List Change → Bool
is_replaced h e cs = list_any (λ c. some_entry (is_later h e) (entry_in c)) cs

-- the entry, if it is current and none of these later changes replaces it
abbrev pub unless_replaced : History → List Change → Entry → Option Entry
unless_replaced h later e =
    if is_current h (at_place 0 e) && not (is_replaced h e later) then Some e else None

-- the entry at a place, if it counts
abbrev pub counted_at : History → ℕ → Option Entry
counted_at h k =
    if k == 0 then None else option_and_then (unless_replaced h (drop k h.changes)) (option_and_then entry_in (slice_get h.changes (k - 1)))

-- whether an entry is a True one on a property
abbrev pub says_true : ℕ → Entry → Bool
says_true p e = (e.prop.0 == p) && same_status e.status Status.True

-- the entry at a place, if it is a counted True entry on a property of the table
abbrev pub true_at : History → Props → ℕ → ℕ → Option Entry
true_at h t p k =
    if is_row t p then option_and_then (λ e. if says_true p e then Some e else None) (counted_at h k) else None

-- whether all its hypotheses pass a test
abbrev pub hyps_pass : (ℕ → Bool) → Option Entry → Bool
hyps_pass known found = some_entry (λ e. list_all (λ (q : PropId). known q.0) e.hyps) found

-- the property of kind Dead at the point of one of another kind
abbrev pub live_dead : Props → ℕ → Option PropId
live_dead t p = if is_live t p then dead_of t.rows p else None

-- what was found, or else the set at a place
abbrev pub nth_set : Option ParamSet → ℕ → List ParamSet → Option ParamSet
nth_set (Some set) n sets = Some set
nth_set None n sets = slice_get sets n
