-- The emitters that changes register (this project's own).
use Rattle.std.specs.Prelude.{List, [], ◌∷◌, ℕ, ◌+◌}
use Rattle.fc_base.specs.declared.ids.EmitterId.{EmitterId}
use Rattle.param_book.specs.Emitters.{own_count}
use Rattle.status_history.specs.declared.history.Change.{Change}
use Rattle.status_history.specs.declared.history.Change.TheVariants.{Register, Param, Emit}

-- the emitters that are registered, by name and number, from this number on
abbrev pub emitters_from : ℕ → List Change → List (List ℕ × EmitterId)
emitters_from n [] = []
emitters_from n (Register name set ∷ cs) = (name, record { 0 = n }) ∷ emitters_from (n + 1) cs
emitters_from n (Param m x ∷ cs) = emitters_from n cs
emitters_from n (Emit e ∷ cs) = emitters_from n cs

-- the emitters that are registered, after those that are there from the start
abbrev pub registered : List Change → List (List ℕ × EmitterId)
registered cs = emitters_from own_count cs
