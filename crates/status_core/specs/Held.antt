-- What contracts see of a table of statuses.
use Rattle.c_ir.specs.Programs.{Program}
use Rattle.c_ir.specs.Props.{Props}
use Rattle.status_history.specs.declared.history.Change.{Change}
use Rattle.status_history.specs.declared.history.History.{History}
use Rattle.status_history.specs.Values.{extended}
use Rattle.std.specs.Prelude.{[], ◌∷◌}

-- a program, the table of its properties, and what happened
pub record Held : Type 0 where
  pub program : Program
  pub props : Props
  pub history : History

-- a table after one more change
abbrev pub after : Held → Change → Held
after held c = record held { history = extended held.history (c ∷ []) }
