-- One change: the code's side.
use Rattle.std.specs.Prelude.{Bool, true, false}
use Rattle.status_history.specs.declared.history.Change.{Change}
use Rattle.status_history.specs.declared.history.Change.TheVariants.{Register, Param, Emit}

-- whether a change sets a parameter
abbrev pub sets_param : Change → Bool
sets_param (Register name set) = false
sets_param (Param n x) = true
sets_param (Emit e) = false
