-- The lines of a script, by the data of their JSON text: `request_of`, what a line asks for (this project's own). No
-- two forms of line have both a number of members and their keys in common.
use Rattle.std.specs.Prelude.{List, [], ◌∷◌, ℕ, Bool, ◌&&◌, codes, is_some, Option, Some, None, option_map, option_and_then, if◌then◌else◌}
use Rattle.std.specs.Option.{option_or}
use Rattle.fc_base.specs.declared.ids.EmitterId.{EmitterId}
use Rattle.fc_base.specs.declared.ids.PropId.{PropId}
use Rattle.fc_base.specs.declared.params.ParamSet.{ParamSet}
use Rattle.c_ir.specs.declared.prop.Prop.{Prop}
use Rattle.param_book.specs.Table.{number_of}
use Rattle.status_history.specs.declared.history.Change.{Change}
use Rattle.status_history.specs.declared.history.Change.TheVariants.{Register, Param, Emit}
use Rattle.status_history.specs.declared.history.Entry.{Entry}
use Rattle.serde_json.specs.Data.{Data, Items, no_items, item}
use Rattle.serde_json.specs.Find.{get, as_str}
use Rattle.event_script.specs.declared.script.Analyser.{Analyser}
use Rattle.event_script.specs.declared.script.Wanted.{Wanted}
use Rattle.event_script.specs.declared.script.Wanted.TheVariants.{Blank, Do, Run}
use Rattle.event_script.specs.Emission.{Said}
use Rattle.event_script.specs.Names.{is_blank_line, is_name, no_params, with_param, emitter_named, status_named, prop_named, analyser_named}
use Rattle.event_script.specs.Reading.{◌>>=◌}
use Rattle.event_script.specs.Values.{value_of, text_at, items_at, i64_at, u32_of, has_members}

-- a set and the parameters that texts name; none, where one of the items is no text
abbrev pub with_params : ParamSet → Items → Option ParamSet
with_params set no_items = Some set
with_params set (item d ds) = option_and_then (λ name. with_params (with_param set name) ds) (as_str d)

-- whether a `register` line of this name has nothing else to refuse
abbrev pub is_registration : Data → List ℕ → Bool
is_registration d name = is_name name && has_members 2 d

-- the registration of a `register` line
unfoldable pub registration_of : Data → Option Change
registration_of d = do
  name ← text_at (codes "register") d
  names ← items_at (codes "correctness") d
  set ← with_params no_params names
  if is_registration d name then Some (Register name set) else None

-- the version that a member says; one that isn't there says `last`
abbrev pub version_said : ℕ → Option Data → Option ℕ
version_said last None = Some last
version_said last (Some d) = u32_of d

-- whether a value has as many members as an `emit` line: four, and a fifth where one is `version`
abbrev pub has_emit_members : Data → Bool
has_emit_members d = if is_some (get (codes "version") d) then has_members 5 d else has_members 4 d

-- what an `emit` line says, where `last` stands for a missing version
unfoldable pub emission_of : ℕ → Data → Option Said
emission_of last d = do
  emitter ← text_at (codes "emit") d
  prop ← text_at (codes "prop") d
  word ← text_at (codes "status") d
  status ← status_named word
  hyps ← items_at (codes "hyps") d
  version ← version_said last (get (codes "version") d)
  if has_emit_members d then Some (record { emitter = emitter; prop = prop; status = status; hyps = hyps; version = version }) else None

-- the properties that texts name; none, where one of the items is no text
abbrev pub props_named : List Prop → Items → Option (List PropId)
props_named rows no_items = Some []
props_named rows (item d ds) = option_and_then (λ name. option_map (λ ps. prop_named rows name ∷ ps) (props_named rows ds)) (as_str d)

-- the entry of an `emit` line
unfoldable pub entry_of : List (List ℕ × EmitterId) → List Prop → ℕ → Data → Option Entry
entry_of told rows last d = do
  said ← emission_of last d
  hyps ← props_named rows said.hyps
  Some (record { emitter = emitter_named told said.emitter; prop = prop_named rows said.prop; status = said.status; hyps = hyps; version = said.version })

-- the setting of a `param` line; 7 stands for a parameter that there isn't
unfoldable pub setting_of : Data → Option Change
setting_of d = do
  name ← text_at (codes "param") d
  value ← i64_at (codes "value") d
  if has_members 2 d then Some (Param (number_of name) value) else None

-- the analyser that a `run` line is to run
unfoldable pub run_of : Data → Option Analyser
run_of d = do
  name ← text_at (codes "run") d
  analyser ← analyser_named name
  if has_members 1 d then Some analyser else None

-- what a line's value asks for, by whichever form it has
abbrev pub wanted_of : List (List ℕ × EmitterId) → List Prop → ℕ → Data → Option Wanted
wanted_of told rows last d =
    option_or (option_map Do (registration_of d))
    (option_or (option_map Do (setting_of d))
    (option_or (option_map Run (run_of d))
    (option_map (λ e. Do (Emit e)) (entry_of told rows last d))))

-- what a line asks for, by the emitters that were told of, the properties and the version that stands for a missing one
unfoldable pub request_of : List (List ℕ × EmitterId) → List Prop → ℕ → List ℕ → Option Wanted
request_of told rows last bytes =
    if is_blank_line bytes then Some Blank
    else option_and_then (wanted_of told rows last) (value_of bytes)
