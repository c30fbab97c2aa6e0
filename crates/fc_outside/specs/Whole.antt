-- Reading a whole file.
use Rattle.std.specs.Prelude.{◌≡◌, ℕ, List, Option, None, Some, take}

-- what was read is the first bytes of the contents, at most so many, where these are told
abbrev pub FirstBytes : ℕ → Option (List ℕ) → List ℕ → Type 0
FirstBytes most None bytes = Unit {0}
FirstBytes most (Some contents) bytes = bytes ≡ take most contents
