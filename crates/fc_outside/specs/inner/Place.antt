-- Where reading a list of files stands.
use Rattle.std.specs.Prelude.{◌≤◌, ℕ, List, [], Option, None, Some, length, drop, slice_index_or}
use Rattle.fc_outside.specs.declared.mem_shelf.Place.{Place}

-- the bytes of the file with this number; none past the last
abbrev pub bytes_at : List (List ℕ × List ℕ) → ℕ → List ℕ
bytes_at files n = (slice_index_or files n ([], [])).1

-- the bytes from a place on
abbrev pub left_at : List (List ℕ × List ℕ) → Option Place → Option (List ℕ)
left_at files None = None
left_at files (Some place) = Some (drop place.given (bytes_at files place.file))

-- no more was given than there is
abbrev pub IsWithin : List (List ℕ × List ℕ) → Option Place → Type 0
IsWithin files None = Unit {0}
IsWithin files (Some place) = place.given ≤ length (bytes_at files place.file)
