-- The program's own emitters, which are there at the opening, and sets of parameters.
use Rattle.std.specs.Prelude.{List, [], ◌∷◌, ℕ, ◌+◌, ◌/◌, ◌%◌, ◌^◌, Bool, ◌==◌, nat_le, map, length, codes, bytes_eq, Option, Some, None, if◌then◌else◌}
use Rattle.fc_base.specs.declared.params.ParamSet.{ParamSet}
use Rattle.fc_base.specs.declared.ids.EmitterId.{EmitterId}

-- the set whose bits these are
abbrev pub set : ℕ → ParamSet
set bits = record { 0 = bits }

-- an emitter: its name, and the parameters on which its entries rest
pub record OwnEmitter : Type 0 where
  pub name : List ℕ
  pub correctness : ParamSet

-- in order of their numbers, from 0 on: `eva` rests on parameters 0 to 4, the others on 0 to 2
abbrev pub own_emitters : List OwnEmitter
own_emitters =
    record { name = codes "kernel"; correctness = set 7 }
    ∷ record { name = codes "rte"; correctness = set 7 }
    ∷ record { name = codes "eva"; correctness = set 31 }
    ∷ record { name = codes "replay"; correctness = set 7 }
    ∷ []

-- how many there are: the emitters that are registered have the numbers from this one on
abbrev pub own_count : ℕ
own_count = length own_emitters

-- whether a number is that of an emitter that was registered
abbrev pub is_external : EmitterId → Bool
is_external e = nat_le own_count e.0

-- their sets, in order
abbrev pub own_sets : List ParamSet
own_sets = map (λ e. e.correctness) own_emitters

-- the number of the one with this name, counted from n
abbrev pub own_from : ℕ → List OwnEmitter → List ℕ → Option EmitterId
own_from n [] name = None
own_from n (e ∷ es) name = if bytes_eq name e.name then Some (record { 0 = n }) else own_from (n + 1) es name

-- the number of the one with this name
unfoldable pub own_named : List ℕ → Option EmitterId
own_named name = own_from 0 own_emitters name

-- whether parameter n is in a set
abbrev pub is_member : ℕ → ParamSet → Bool
is_member n s = (s.0 / 2 ^ n) % 2 == 1
