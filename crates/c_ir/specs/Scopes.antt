-- Which declared objects a place can name (C11 6.2.1): of those of one name the newest.
use Rattle.std.specs.Prelude.{ℕ, List, [], ◌∷◌, bytes_eq, nat_lt, if◌then◌else◌}
use Rattle.c_ir.specs.declared.note.InScope.{InScope}

-- those of another name
abbrev pub without : List ℕ → List InScope → List InScope
without x [] = []
without x (d ∷ ds) = if bytes_eq x d.name then without x ds else d ∷ without x ds

-- in the place that its first cell gives it
abbrev pub insert : InScope → List InScope → List InScope
insert d [] = d ∷ []
insert d (x ∷ xs) = if nat_lt d.first x.first then d ∷ x ∷ xs else x ∷ insert d xs

-- of declarations, the newest first, those that none newer hides, in the order of their first cells
unfoldable pub nameable : List InScope → List InScope
nameable [] = []
nameable (d ∷ older) = insert d (without d.name (nameable older))
