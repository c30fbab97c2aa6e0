-- Numbers by their keys.
use Rattle.std.specs.Prelude.{◌≡◌, ◌<◌, ◌==◌, ◌∷◌, [], ℕ, List, get_or, if◌then◌else◌}
use Rattle.by_key.specs.declared.lists.Keyed.{Keyed}

-- the numbers with this key, in order
abbrev pub numbers_at : ℕ → List Keyed → List ℕ
numbers_at k [] = []
numbers_at k (m ∷ ms) = if m.key == k then m.number ∷ numbers_at k ms else numbers_at k ms

-- the lists are those of the keys from 0 up to below `keys`
pub record Groups (lists : List (List ℕ)) (keys : ℕ) (all : List Keyed) : Type 0 where
  pub at : (k : ℕ) → k < keys → get_or lists k [] ≡ numbers_at k all
