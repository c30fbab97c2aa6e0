-- Rows by their numbers.
use Rattle.std.specs.Prelude.{ℕ, ◌+◌, List, [], ◌∷◌}
use Rattle.event_board.specs.declared.page.PlacedVerdict.{PlacedVerdict}
use Rattle.status_rules.specs.Fetch.{Row}

-- the row of a property with a verdict and the place of the last change that altered it
abbrev pub row_at : ℕ → PlacedVerdict → Row
row_at p v = record { status = record { prop = record { 0 = p }; verdict = v.verdict }; changed = v.changed }

-- the rows of the properties from a number on
abbrev pub rows_from : ℕ → List PlacedVerdict → List Row
rows_from n [] = []
rows_from n (v ∷ vs) = row_at n v ∷ rows_from (n + 1) vs
