-- Entries of the program's own emitters that stay right: the code's side.
use Rattle.std.specs.Prelude.{◌≡◌, ◌≤◌, List, [], ◌∷◌, false, ⊤}
use Rattle.param_book.specs.Emitters.{is_external}
use Rattle.param_book.specs.Table.{under}
use Rattle.status_history.specs.Claims.{LocallyRight}
use Rattle.status_history.specs.Values.{version_of}
use Rattle.status_history.specs.declared.history.Entry.{Entry}
use Rattle.status_history.specs.declared.history.History.{History}
use Rattle.status_rules.specs.Counting.{PlacedEntry}
use Rattle.status_rules.specs.Truth.{Runs}

-- an entry whose version isn't above the current one, and which is locally right
pub record StaysRight (runs : Runs) (h : History) (e : Entry) : Type 0 where
  pub version : e.version ≤ version_of h
  pub right : LocallyRight (under runs) h e

-- each entry of the program's own emitters is one
abbrev pub OwnStay : Runs → History → List PlacedEntry → Type 0
OwnStay runs h [] = ⊤
OwnStay runs h (e ∷ es) =
    (is_external e.entry.emitter ≡ false → StaysRight runs h e.entry) × OwnStay runs h es
