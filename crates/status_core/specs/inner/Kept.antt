-- What a table keeps beside its history: the code's side.
use Rattle.std.specs.Prelude.{◌≡◌, ◌<◌, ◌≤◌, List, ℕ, Bool, true, false, filter, length}
use Rattle.std.specs.List.{list_any}
use Rattle.std.specs.Global.{Vec}
use Rattle.fc_base.specs.declared.params.ParamSet.{ParamSet}
use Rattle.fc_base.specs.declared.params.ParamValues.{ParamValues}
use Rattle.c_ir.specs.Programs.{Program}
use Rattle.c_ir.specs.Props.{Props}
use Rattle.event_board.specs.Asked.{all_fit}
use Rattle.event_board.specs.declared.page.PlacedVerdict.{PlacedVerdict}
use Rattle.prop_runs.specs.Numbers.{props_of, runs_of}
use Rattle.status_history.specs.Values.{all_values, params_set, values_now}
use Rattle.status_history.specs.declared.history.Change.{Change}
use Rattle.status_history.specs.declared.history.Change.TheVariants.{Register, Param, Emit}
use Rattle.status_history.specs.declared.history.History.{History}
use Rattle.status_rules.specs.Counting.{counted_of, entries_of, sets_of}
use Rattle.status_rules.specs.Holds.{at_each, is_on}
use Rattle.status_rules.specs.Judge.{names_registered}
use Rattle.status_rows.specs.Index.{MembersCover, has, listed, names}
use Rattle.status_rows.specs.Places.{PlacesAre}
use Rattle.status_core.specs.inner.Own.{OwnStay}
use Rattle.status_core.specs.inner.Rows.{row_of}

-- for each property at least those with an entry that names it
abbrev pub AllNoted : History → Props → List (Vec ℕ) → Type 0
AllNoted h t users =
    (q r : ℕ) → r < length t.rows → list_any (names r) (filter (is_on q) (entries_of h)) ≡ true
    → has q (listed users r) ≡ true

-- what is kept of the changes that set a parameter or register an emitter
pub record IsPast (h : History) (versions : List ParamValues) (now : ParamValues) (sets : List ParamSet) (taken : List (List ℕ)) : Type 0 where
  pub versions_are : versions ≡ all_values h.opening (params_set h.changes)
  pub now_is : now ≡ values_now h
  pub sets_are : sets ≡ sets_of h.changes
  pub taken_are : taken ≡ names_registered h.changes

-- what is kept for verdicts
pub record IsIndexed (h : History) (t : Props) (places members users : List (Vec ℕ)) : Type 0 where
  pub places_are : PlacesAre h.changes places (counted_of h) t.rows
  pub members_cover : MembersCover t members
  pub users_cover : AllNoted h t users
  pub users_len : length users ≡ length t.rows

-- what stands of the program and its history
pub record IsOf (p : Program) (t : Props) (h : History) : Type 0 where
  pub props_are : t ≡ props_of p
  pub few : length h.changes ≤ 200000
  pub fit : all_fit t (values_now h) ≡ true
  pub own : OwnStay (runs_of p) h (entries_of h)

pub record IsKept (p : Program) (t : Props) (h : History) (rows : List PlacedVerdict) (places members users : List (Vec ℕ)) (versions : List ParamValues) (now : ParamValues) (sets : List ParamSet) (taken : List (List ℕ)) : Type 0 where
  pub of_program : IsOf p t h
  pub rows_are : rows ≡ at_each (row_of h t) 0 t.rows
  pub indexed : IsIndexed h t places members users
  pub past : IsPast h versions now sets taken

-- whether a change emits an entry
abbrev pub emits : Change → Bool
emits (Register name set) = false
emits (Param n x) = false
emits (Emit e) = true
