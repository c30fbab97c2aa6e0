-- What a change is answered: `judge`, the first refusal that stands, else its place (this project's own).
use Rattle.std.specs.Prelude.{◌≡◌, List, [], ◌∷◌, ◌++◌, ℕ, ◌+◌, ℤ, Bool, true, false, not, ◌==◌, ◌&&◌, ◌||◌, nat_lt, nat_le, length, filter, Option, Some, None, option_map, is_some, position, Result, Ok, Err, bytes_eq, if◌then◌else◌}
use Rattle.std.specs.List.{list_any, list_all}
use Rattle.std.specs.Char.{is_ascii_alphanumeric}
use Rattle.fc_base.specs.declared.params.ParamSet.{ParamSet}
use Rattle.param_book.specs.Emitters.{is_external, is_member, own_named}
use Rattle.param_book.specs.Table.{fits_param, numbers}
use Rattle.c_ir.specs.Props.{Props}
use Rattle.c_ir.specs.Table.{is_row}
use Rattle.status_history.specs.declared.history.Change.{Change}
use Rattle.status_history.specs.declared.history.Change.TheVariants.{Register, Param, Emit}
use Rattle.status_history.specs.declared.history.Entry.{Entry}
use Rattle.status_history.specs.declared.history.History.{History}
use Rattle.status_history.specs.Values.{extended, version_of}
use Rattle.status_rules.specs.declared.refusals.Placed.{Placed}
use Rattle.status_rules.specs.declared.refusals.Refusal.{Refusal}
use Rattle.status_rules.specs.declared.refusals.Refusal.TheVariants.{UnknownEmitter, ReservedEmitter, UnknownProperty, UnknownHyp, TooManyHyps, FutureVersion, OutOfRange, NameTaken, TooManyEmitters, HistoryFull}
use Rattle.status_rules.specs.Counting.{sets_of}

-- Emitters.

-- how many emitters there are
abbrev pub emitters_of : History → ℕ
emitters_of h = length (sets_of h.changes)

-- the names under which emitters are registered
abbrev pub names_registered : List Change → List (List ℕ)
names_registered [] = []
names_registered (Register name set ∷ cs) = name ∷ names_registered cs
names_registered (Param n x ∷ cs) = names_registered cs
names_registered (Emit e ∷ cs) = names_registered cs

-- whether an emitter has a name
abbrev pub is_taken : History → List ℕ → Bool
is_taken h name = is_some (own_named name) || list_any (bytes_eq name) (names_registered h.changes)

-- an ASCII letter or digit, `_` or `-`
abbrev pub is_name_byte : ℕ → Bool
is_name_byte b = is_ascii_alphanumeric b || (b == 95) || (b == 45)

-- a name that an emitter can be registered under: 1 to 64 such bytes
abbrev pub is_emitter_name : List ℕ → Bool
is_emitter_name name = not (length name == 0) && nat_le (length name) 64 && list_all is_name_byte name

-- the numbers from 0 to 15 that are no parameter's
abbrev pub unused_numbers : List ℕ
unused_numbers =
    filter (λ n. not (list_any (λ m. m == n) numbers))
    (0 ∷ 1 ∷ 2 ∷ 3 ∷ 4 ∷ 5 ∷ 6 ∷ 7 ∷ 8 ∷ 9 ∷ 10 ∷ 11 ∷ 12 ∷ 13 ∷ 14 ∷ 15 ∷ [])

-- whether a set has a bit of no parameter
abbrev pub has_unused : ParamSet → Bool
has_unused set = list_any (λ n. is_member n set) unused_numbers

-- The table of refusals, in order: each row has a refusal where its condition stands.

abbrev pub if_so : Bool → Refusal → Option Refusal
if_so stands why = if stands then Some why else None

-- no emitter has the number
abbrev pub unknown_emitter : History → Entry → Option Refusal
unknown_emitter h e = if_so (nat_le (emitters_of h) e.emitter.0) UnknownEmitter

-- the number is one of the program's own emitters'
abbrev pub reserved_emitter : Entry → Option Refusal
reserved_emitter e = if_so (not (is_external e.emitter)) ReservedEmitter

-- the property isn't in the table
abbrev pub unknown_property : Props → Entry → Option Refusal
unknown_property t e = if_so (not (is_row t e.prop.0)) UnknownProperty

-- the first hypothesis that isn't in the table
abbrev pub unknown_hyp : Props → Entry → Option Refusal
unknown_hyp t e = option_map UnknownHyp (position (λ q. not (is_row t q.0)) e.hyps)

-- more than 256 hypotheses
abbrev pub too_many_hyps : Entry → Option Refusal
too_many_hyps e = if_so (nat_lt 256 (length e.hyps)) (TooManyHyps (length e.hyps))

-- the version is above the current one
abbrev pub future_version : History → Entry → Option Refusal
future_version h e = if_so (nat_lt (version_of h) e.version) (FutureVersion (version_of h))

-- no parameter has the number, or the value is out of its range
abbrev pub value_out_of_range : Props → ℕ → ℤ → Option Refusal
value_out_of_range t n x = if_so (not (fits_param t.defined n x)) OutOfRange

-- the set has a bit of no parameter
abbrev pub set_out_of_range : ParamSet → Option Refusal
set_out_of_range set = if_so (has_unused set) OutOfRange

-- an emitter has the name
abbrev pub name_taken : History → List ℕ → Option Refusal
name_taken h name = if_so (is_taken h name) NameTaken

-- 256 emitters are there
abbrev pub too_many_emitters : History → Option Refusal
too_many_emitters h = if_so (nat_le 256 (emitters_of h)) (TooManyEmitters 256)

-- the history has its limit of changes
abbrev pub history_full : History → Option Refusal
history_full h = if_so (nat_le 200000 (length h.changes)) (HistoryFull 200000)

-- of an emission, after the first two
abbrev pub entry_rows : Props → History → Entry → List (Option Refusal)
entry_rows t h e =
    unknown_property t e ∷ unknown_hyp t e ∷ too_many_hyps e ∷ future_version h e ∷ history_full h ∷ []

-- of any change
abbrev pub rows_for : Props → History → Change → List (Option Refusal)
rows_for t h (Register name set) =
    set_out_of_range set ∷ name_taken h name ∷ too_many_emitters h ∷ history_full h ∷ []
rows_for t h (Param n x) = value_out_of_range t n x ∷ history_full h ∷ []
rows_for t h (Emit e) = unknown_emitter h e ∷ reserved_emitter e ∷ entry_rows t h e

-- of an emission of the program's own emitters, which aren't reserved for themselves
abbrev pub own_rows : Props → History → Entry → List (Option Refusal)
own_rows t h e = unknown_emitter h e ∷ entry_rows t h e

-- the first refusal that stands
abbrev pub first_of : List (Option Refusal) → Option Refusal
first_of [] = None
first_of (Some why ∷ rows) = Some why
first_of (None ∷ rows) = first_of rows

-- What a change comes to that isn't refused.

-- the number of a registered emitter, the new version, the place of an entry
abbrev pub value_of : History → Change → ℕ
value_of h (Register name set) = emitters_of h
value_of h (Param n x) = version_of h + 1
value_of h (Emit e) = length h.changes + 1

abbrev pub placed_of : History → Change → Placed
placed_of h c =
    record { at = length h.changes; version = version_of (extended h (c ∷ [])); value = value_of h c }

abbrev pub refused_or : Option Refusal → Placed → Result Placed Refusal
refused_or (Some why) placed = Err why
refused_or None placed = Ok placed

-- what a change is answered
unfoldable pub judge : Props → History → Change → Result Placed Refusal
judge t h c = refused_or (first_of (rows_for t h c)) (placed_of h c)

-- what an entry of the program's own emitters is answered
unfoldable pub judge_own : Props → History → Entry → Result Placed Refusal
judge_own t h e = refused_or (first_of (own_rows t h e)) (placed_of h (Emit e))
