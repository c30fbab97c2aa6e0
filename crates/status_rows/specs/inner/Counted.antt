-- Places of counted entries: the code's side.
use Rattle.std.specs.Prelude.{List, ℕ, map}
use Rattle.std.specs.Global.{Vec}
use Rattle.status_rules.specs.declared.counting.CountedEntry.{CountedEntry}

-- the places of a list of entries
abbrev pub places_in : Vec CountedEntry → List ℕ
places_in b = map (λ e. e.place) b.items
