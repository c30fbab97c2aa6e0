-- Names in a script (this project's own).
use Rattle.std.specs.Prelude.{List, [], ◌∷◌, ℕ, ◌^◌, Bool, not, ◌==◌, ◌||◌, ◌&&◌, bit_or, nat_le, length, codes, bytes_eq, Option, Some, None, unwrap_or, if◌then◌else◌}
use Rattle.std.specs.List.{list_all}
use Rattle.std.specs.Map.{lookup}
use Rattle.std.specs.Char.{is_ascii_alphanumeric}
use Rattle.fc_base.specs.declared.ids.EmitterId.{EmitterId}
use Rattle.fc_base.specs.declared.ids.PropId.{PropId}
use Rattle.fc_base.specs.declared.params.ParamSet.{ParamSet}
use Rattle.fc_base.specs.declared.status.LocalStatus.{LocalStatus}
use Rattle.fc_base.specs.declared.status.LocalStatus.TheVariants as Status
use Rattle.fc_base.specs.Texts.{status_text}
use Rattle.param_book.specs.Emitters.{own_named, set}
use Rattle.param_book.specs.Table.{number_of}
use Rattle.c_ir.specs.declared.prop.Prop.{Prop}
use Rattle.c_ir.specs.Table.{first_named}
use Rattle.event_script.specs.declared.script.Analyser.{Analyser}
use Rattle.event_script.specs.declared.script.Analyser.TheVariants.{Rte, Eva}

-- space, tab, carriage return, vertical tab and form feed (C11 6.4, without the line feed)
abbrev pub is_blank : ℕ → Bool
is_blank b = (b == 32) || (b == 9) || (b == 13) || (b == 11) || (b == 12)

-- a line of blanks alone
abbrev pub is_blank_line : List ℕ → Bool
is_blank_line bytes = list_all is_blank bytes

-- an ASCII letter or digit, `_` or `-`
abbrev pub is_name_byte : ℕ → Bool
is_name_byte b = is_ascii_alphanumeric b || (b == 95) || (b == 45)

-- a name that an emitter can be registered under
abbrev pub is_name : List ℕ → Bool
is_name name = not (length name == 0) && nat_le (length name) 64 && list_all is_name_byte name

-- emitters by name, in the order in which they were told of: one more, or another number of one that is there
abbrev pub with_told : List ℕ → EmitterId → List (List ℕ × EmitterId) → List (List ℕ × EmitterId)
with_told name id [] = (name, id) ∷ []
with_told name id (e ∷ es) = if bytes_eq name e.0 then (e.0, id) ∷ es else e ∷ with_told name id es

-- the number that a name has among these
abbrev pub number_told : List (List ℕ × EmitterId) → List ℕ → Option EmitterId
number_told told name = lookup (bytes_eq name) told

-- the emitter that a name stands for: the one that was told of, the program's own, or no emitter
abbrev pub emitter_named : List (List ℕ × EmitterId) → List ℕ → EmitterId
emitter_named told name = unwrap_or (number_told told name) (unwrap_or (own_named name) (record { 0 = 4294967295 }))

-- the status whose word this is
abbrev pub status_named : List ℕ → Option LocalStatus
status_named word =
    if bytes_eq word (status_text Status.True) then Some Status.True
    else (if bytes_eq word (status_text Status.DontKnow) then Some Status.DontKnow
    else (if bytes_eq word (status_text Status.FalseIfReachable) then Some Status.FalseIfReachable
    else (if bytes_eq word (status_text Status.FalseAndReachable) then Some Status.FalseAndReachable else None)))

-- the property that a name stands for: the first that has it, or no property
abbrev pub prop_named : List Prop → List ℕ → PropId
prop_named rows name = unwrap_or (first_named name rows) (record { 0 = 4294967295 })

-- the empty set of parameters
abbrev pub no_params : ParamSet
no_params = set 0

-- a set and the parameter with a name; bit 7, which is no parameter's, stands for one that there isn't
abbrev pub with_param : ParamSet → List ℕ → ParamSet
with_param before name = set (bit_or before.0 (2 ^ number_of name))

-- the analyser with a name
abbrev pub analyser_named : List ℕ → Option Analyser
analyser_named name =
    if bytes_eq name (codes "rte") then Some Rte
    else (if bytes_eq name (codes "eva") then Some Eva else None)
