-- What a call asks of its shelf: `WasAsked` (this project's own).
use Rattle.std.specs.Prelude.{◌≡◌, ◌⊎◌, ◌+◌, ℕ, false, List, Option, None, Some}
use Rattle.c_ir.specs.Programs.{Program}
use Rattle.fc_outside.specs.Contents.{contents_of}
use Rattle.fc_outside.specs.Requests.{Requests, AskedAtMost}
use Rattle.kernel_serve.specs.Limits.{most_file, most_script}
use Rattle.kernel_serve.specs.Stages.{IsRead, entry_name, is_too_much}
use Rattle.kernel_serve.specs.Told.{Files}
use Rattle.kernel_serve.specs.Words.{Command, report_command}

-- the file is asked for, and at most one byte past its limit is taken; and the script
abbrev pub ReadsFile : List ℕ → Option Requests → Option Requests → Type 0
ReadsFile name old new = AskedAtMost name (most_file + 1) old new

abbrev pub ReadsScript : List ℕ → Option Requests → Option Requests → Type 0
ReadsScript name old new = AskedAtMost name (most_script + 1) old new

-- the named file passes all its stages, and its analysis isn't too much work, where the files are told
abbrev pub HasProgram : Option Files → Command → Type 0
HasProgram None c = Prim.Unit {0}
HasProgram (Some files) c = (p : Program) × (g : ℕ)
    × IsRead (entry_name c.main) (contents_of c.file files) p g × (is_too_much c p g ≡ false)

-- the script, if one is named
abbrev pub ReadsIfNamed : Option (List ℕ) → Option Requests → Option Requests → Type 0
ReadsIfNamed None old new = new ≡ old
ReadsIfNamed (Some name) old new = ReadsScript name old new

-- the file alone; or the file and then the script, where the file is a program
abbrev pub AsksFiles : Option Files → Option Requests → Option Requests → Command → Type 0
AsksFiles files old new c =
    ReadsFile c.file old new
    ⊎ ((mid : Option Requests) × ReadsFile c.file old mid × ReadsIfNamed c.script mid new
    × HasProgram files c)

-- nothing, where the words are no command
abbrev pub AsksFor : Option Files → Option Requests → Option Requests → Option Command → Type 0
AsksFor files old new None = new ≡ old
AsksFor files old new (Some c) = AsksFiles files old new c

abbrev pub WasAsked : List (List ℕ) → Option Files → Option Requests → Option Requests → Type 0
WasAsked words files old new = AsksFor files old new (report_command words)
