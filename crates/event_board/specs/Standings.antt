-- What of a history the answer to a change rests on (this project's own).
use Rattle.std.specs.Prelude.{Bool, false, length}
use Rattle.status_history.specs.Values.{version_of}
use Rattle.status_history.specs.declared.history.Change.{Change}
use Rattle.status_history.specs.declared.history.Change.TheVariants.{Register, Param, Emit}
use Rattle.status_history.specs.declared.history.History.{History}
use Rattle.status_rules.specs.Judge.{emitters_of, is_taken}
use Rattle.event_board.specs.declared.standing.Standing.{Standing}

-- whether a change registers an emitter under a name that one has
abbrev pub has_taken : History → Change → Bool
has_taken h (Register name set) = is_taken h name
has_taken h (Param n x) = false
has_taken h (Emit e) = false

-- the numbers of a history, and whether the name of a change is taken in it
abbrev pub standing_of : History → Change → Standing
standing_of h c =
    record {
      changes = length h.changes;
      version = version_of h;
      emitters = emitters_of h;
      is_taken = has_taken h c;
    }
