-- The name that a command has for its entry function has at most 256 bytes.
use Rattle.std.proofs.Common.{◌≡◌, ◌≤◌, ℕ, Bool, true, false, List, [], ◌∷◌, Option, Some, None, IfSome, length, refl, sym, subst}
use Rattle.std.specs.Prelude.{not, nat_le, codes, bytes_eq, if◌then◌else◌}
use Rattle.std.specs.Option.{option_and_then, option_map}
use Rattle.std.proofs.lemmas.Bool.{and_parts, leb-true}
use Rattle.kernel_serve.specs.Words.{Command, Taken, after_main, after_script, begins_report, if_last, is_name, is_no_value, is_value, options_of, report_command, take_flag, take_value, value_after}

abbrev Short : List ℕ → Type 0
Short name = length name ≤ 256

abbrev ShortMain : Option Command → Type 0
ShortMain o = IfSome o (λ c. IfSome c.main Short)

abbrev ShortValue : Option (Taken (Option (List ℕ))) → Type 0
ShortValue o = IfSome o (λ t. IfSome t.value Short)

-- ---- the value of `--main`

is_short : (name : List ℕ) → is_name name ≡ true → Short name
is_short name h = leb-true (length name) 256
    (and_parts (not (is_no_value name)) (nat_le (length name) 256) h).1

fitting : (b : Bool) (name : List ℕ) (rest : List (List ℕ)) → is_name name ≡ b
    → ShortValue (if b then Some (record { value = Some name; rest = rest }) else None)
fitting true name rest h = is_short name h
fitting false name rest h = tt

after_option : (words : List (List ℕ)) → ShortValue (value_after is_name words)
after_option [] = tt
after_option (name ∷ rest) = fitting (is_name name) name rest refl

taken : (b : Bool) (word : List ℕ) (rest : List (List ℕ))
    → ShortValue (if b then value_after is_name rest else Some (record { value = None; rest = word ∷ rest }))
taken true word rest = after_option rest
taken false word rest = tt

short_value : (option : List ℕ) (words : List (List ℕ)) → ShortValue (take_value option is_name words)
short_value option [] = tt
short_value option (word ∷ rest) = taken (bytes_eq word option) word rest

-- ---- the command

if_no_more : (c : Command) (words : List (List ℕ)) → IfSome c.main Short → ShortMain (if_last c words)
if_no_more c [] h = h
if_no_more c (word ∷ rest) h = tt

with_main : (file : List ℕ) (script : Option (List ℕ)) (no_eva : Bool) (m : Taken (Option (List ℕ)))
    → IfSome m.value Short → ShortMain (after_main file script no_eva m)
with_main file script no_eva m h =
    let lib = take_flag (codes "--lib-entry") m.rest in
    let points = take_flag (codes "--points") lib.rest in
    if_no_more (record {
      file = file;
      script = script;
      main = m.value;
      no_eva = no_eva;
      lib_entry = lib.value;
      points = points.value;
    }) points.rest h

of_value : (file : List ℕ) (script : Option (List ℕ)) (no_eva : Bool) (o : Option (Taken (Option (List ℕ))))
    → ShortValue o → ShortMain (option_and_then (after_main file script no_eva) o)
of_value file script no_eva None h = tt
of_value file script no_eva (Some m) h = with_main file script no_eva m h

with_script : (file : List ℕ) (s : Taken (Option (List ℕ))) → ShortMain (after_script file s)
with_script file s =
    let no_eva = take_flag (codes "--no-eva") s.rest in
    of_value file s.value no_eva.value (take_value (codes "--main") is_name no_eva.rest)
    (short_value (codes "--main") no_eva.rest)

of_script : (file : List ℕ) (o : Option (Taken (Option (List ℕ))))
    → ShortMain (option_and_then (after_script file) o)
of_script file None = tt
of_script file (Some s) = with_script file s

begun : (b : Bool) (file : List ℕ) (rest : List (List ℕ))
    → ShortMain (if b then options_of file rest else None)
begun true file rest = of_script file (take_value (codes "--script") is_value rest)
begun false file rest = tt

short_main : (words : List (List ℕ)) → ShortMain (report_command words)
short_main [] = tt
short_main (call ∷ []) = tt
short_main (call ∷ file ∷ rest) = begun (begins_report call file) file rest

-- the same, as the code has it
shown : {X : Type 0} (bytes : X → List ℕ) (o : Option X) → IfSome (option_map bytes o) Short
    → IfSome o (λ x. Short (bytes x))
shown bytes None h = tt
shown bytes (Some x) h = h

pub main_is_short : {X : Type 0} (bytes : X → List ℕ) (main : Option X) (words : List (List ℕ)) (c : Command)
    → report_command words ≡ Some c → option_map bytes main ≡ c.main
    → IfSome main (λ x. length (bytes x) ≤ 256)
main_is_short bytes main words c is same =
    let short : IfSome c.main Short = subst ShortMain is (short_main words) in
    shown bytes main (subst (λ (o : Option (List ℕ)). IfSome o Short) (sym same) short)
