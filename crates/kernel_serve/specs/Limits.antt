-- The limits of inputs and of histories (this project's own).
use Rattle.std.specs.Prelude.{ℕ}

-- the most bytes of a file of C, 4 MiB, and of a script, 16 MiB
abbrev pub most_file : ℕ
most_file = 4194304

abbrev pub most_script : ℕ
most_script = 16777216

-- the most changes of a history
abbrev pub most_changes : ℕ
most_changes = 200000
