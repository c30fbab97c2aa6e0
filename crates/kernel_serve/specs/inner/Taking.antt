-- What is taken of the words: the code's side.
use Rattle.std.specs.Prelude.{◌≡◌, ℕ, Bool, List, Option, Some, None}
use Rattle.std.specs.Option.{option_map}
use Rattle.kernel_serve.specs.Words.{Command, is_name, is_value}
use Rattle.kernel_serve.specs.declared.words.Command as words
use Rattle.kernel_serve.specs.declared.words.Values.{Values}
use Rattle.kernel_serve.specs.declared.words.Values.TheVariants as V

-- the command that the code has
abbrev pub command_of : words.Command → Command
command_of c = record {
  file = c.file.now;
  script = option_map (λ w. w.now) c.script;
  main = option_map (λ w. w.now) c.main;
  no_eva = c.no_eva;
  lib_entry = c.lib_entry;
  points = c.points;
}

abbrev pub IsCommand : Option words.Command → Option Command → Type 0
IsCommand None wanted = wanted ≡ None
IsCommand (Some c) wanted = wanted ≡ Some (command_of c)

-- which words are a value
abbrev pub fit : Values → List ℕ → Bool
fit V.Any = is_value
fit V.Names = is_name
