-- Tests of properties, kept as lists of flags: the code's side.
use Rattle.std.specs.Prelude.{List, ℕ, Bool, false, slice_index_or}

-- the flag with a number; false where there is none
abbrev pub flag : List Bool → ℕ → Bool
flag flags p = slice_index_or flags p false
