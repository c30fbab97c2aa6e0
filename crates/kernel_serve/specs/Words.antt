-- The words of a command (this project's own): `report FILE`, and then, each if it is wanted and in this order,
-- `--script EVENTS`, `--no-eva`, `--main NAME`, `--lib-entry` and `--points`.
use Rattle.std.specs.Prelude.{ℕ, Bool, true, false, not, ◌&&◌, ◌==◌, nat_le, List, [], ◌∷◌, length, Option, None, Some, codes, bytes_eq, if◌then◌else◌}
use Rattle.std.specs.Option.{option_and_then}

-- words that can be no value of an option: the empty one, and those that begin with `-`
abbrev pub is_no_value : List ℕ → Bool
is_no_value [] = true
is_no_value (b ∷ bs) = b == 45

-- an option has two bytes or more and begins with `-`
abbrev pub is_option : List ℕ → Bool
is_option [] = false
is_option (b ∷ []) = false
is_option (b ∷ c ∷ bs) = b == 45

-- whether these words begin a command
abbrev pub begins_report : List ℕ → List ℕ → Bool
begins_report call file = bytes_eq call (codes "report") && not (is_option file)

-- a name has at most 256 bytes
abbrev pub is_name : List ℕ → Bool
is_name word = not (is_no_value word) && nat_le (length word) 256

abbrev pub is_value : List ℕ → Bool
is_value word = not (is_no_value word)

-- what an option's words come to: its value, if the option is there, and the words after it
pub record Taken (X : Type 0) : Type 0 where
  pub value : X
  pub rest : List (List ℕ)

abbrev pub value_after : (List ℕ → Bool) → List (List ℕ) → Option (Taken (Option (List ℕ)))
value_after fits [] = None
value_after fits (word ∷ rest) = if fits word then Some (record { value = Some word; rest = rest }) else None

-- an option with a value, if it stands first; none where its value doesn't fit
abbrev pub take_value : List ℕ → (List ℕ → Bool) → List (List ℕ) → Option (Taken (Option (List ℕ)))
take_value option fits [] = Some (record { value = None; rest = [] })
take_value option fits (word ∷ rest) =
    if bytes_eq word option then value_after fits rest else Some (record { value = None; rest = word ∷ rest })

-- an option without a value
abbrev pub take_flag : List ℕ → List (List ℕ) → Taken Bool
take_flag option [] = record { value = false; rest = [] }
take_flag option (word ∷ rest) =
    if bytes_eq word option then record { value = true; rest = rest } else record
    { value = false; rest = word ∷ rest }

-- the command that words are: the names of the file and of the script, that of the entry function, whether nothing is
-- analysed, whether the run begins like a library call, and whether the properties of kind Dead are shown
pub record Command : Type 0 where
  pub file : List ℕ
  pub script : Option (List ℕ)
  pub main : Option (List ℕ)
  pub no_eva : Bool
  pub lib_entry : Bool
  pub points : Bool

-- no word is left
abbrev pub if_last : Command → List (List ℕ) → Option Command
if_last c [] = Some c
if_last c (word ∷ rest) = None

abbrev pub after_main : List ℕ → Option (List ℕ) → Bool → Taken (Option (List ℕ)) → Option Command
after_main file script no_eva m =
    let lib = take_flag (codes "--lib-entry") m.rest in
    let points = take_flag (codes "--points") lib.rest in
    if_last (record {
      file = file;
      script = script;
      main = m.value;
      no_eva = no_eva;
      lib_entry = lib.value;
      points = points.value;
    }) points.rest

abbrev pub after_script : List ℕ → Taken (Option (List ℕ)) → Option Command
after_script file s =
    let no_eva = take_flag (codes "--no-eva") s.rest in
    option_and_then (after_main file s.value no_eva.value) (take_value (codes "--main") is_name no_eva.rest)

abbrev pub options_of : List ℕ → List (List ℕ) → Option Command
options_of file words = option_and_then (after_script file) (take_value (codes "--script") is_value words)

abbrev pub report_command : List (List ℕ) → Option Command
report_command [] = None
report_command (call ∷ []) = None
report_command (call ∷ file ∷ rest) = if begins_report call file then options_of file rest else None
