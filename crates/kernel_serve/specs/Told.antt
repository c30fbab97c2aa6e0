-- What the outside tells: a shelf its files, and a sink the bytes that it holds.
use Rattle.std.specs.Prelude.{◌≡◌, ℕ, List, Option, None, Some}

-- the names of files with their bytes
abbrev pub Files : Type 0
Files = List (List ℕ × List ℕ)

-- a fact about the files, and the bytes that a sink held before and holds after, where all is told: where
-- files
-- and the bytes before are told, the bytes after are told too
abbrev pub WhereTold : Option Files → Option (List ℕ) → Option (List ℕ) → (Files → List ℕ → List ℕ → Type 0)
    → Type 0
WhereTold None before after fact = Prim.Unit {0}
WhereTold (Some files) None after fact = Prim.Unit {0}
WhereTold (Some files) (Some before) after fact = (now : List ℕ) × (after ≡ Some now) × fact files before now
