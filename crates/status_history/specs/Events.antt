-- Events of a table that several callers share, and the history that is kept of them (this project's own).
use Rattle.std.specs.Prelude.{◌≡◌, List, [], ◌∷◌, ◌++◌, Bool, true, false, not, ◌&&◌}
use denote.Enum.Bare.{sameb}
use Rattle.fc_base.specs.declared.params.ParamValues.{ParamValues}
use Rattle.status_history.specs.declared.events.Half.{Half}
use Rattle.status_history.specs.contracts.events.Half.{the_type}
use Rattle.status_history.specs.declared.events.Event.{Event}
use Rattle.status_history.specs.declared.events.What.{What}
use Rattle.status_history.specs.declared.events.What.TheVariants.{Done, Asked}
use Rattle.status_history.specs.declared.history.Change.{Change}
use Rattle.status_history.specs.declared.history.History.{History}
use Rattle.status_history.specs.Values.{extended}

-- the change that an event brings, if it brings one
abbrev pub change_in : What → List Change
change_in (Done c) = c ∷ []
change_in Asked = []

-- the changes that events bring, in order
abbrev pub changes_in : List Event → List Change
changes_in [] = []
changes_in (e ∷ es) = change_in e.what ++ changes_in es

-- the history that is kept of events: their changes after the opening values
abbrev pub kept : ParamValues → List Event → History
kept opening es = record { opening = opening; changes = changes_in es }

-- whether an address begins another, itself included
abbrev pub begins : List Half → List Half → Bool
begins [] ys = true
begins (x ∷ xs) [] = false
begins (x ∷ xs) (y ∷ ys) = sameb the_type x y && begins xs ys

-- whether an event is under the pass at an address
abbrev pub is_under : List Half → Event → Bool
is_under address e = begins address e.address

-- whether neither the pass at an address nor one split off it made an event, nor one that it was split off
abbrev pub is_apart : List Half → Event → Bool
is_apart address e = not (is_under address e) && not (begins e.address address)

-- an event at an address
abbrev pub event_at : List Half → What → Event
event_at address what = record { address = address; what = what }

-- the history of more events is that of the first ones followed by the changes of the others
abbrev pub KeptGrows : Type 0
KeptGrows =
    (opening : ParamValues) (es more : List Event) → kept opening (es ++ more)
    ≡ extended (kept opening es) (changes_in more)
