-- The table of refusals by the numbers of a history: the code's side of `judge`.
use Rattle.std.specs.Prelude.{◌+◌, ℕ, List, [], ◌∷◌, nat_le, nat_lt, Option, Result}
use Rattle.fc_base.specs.declared.params.ParamSet.{ParamSet}
use Rattle.c_ir.specs.Props.{Props}
use Rattle.status_history.specs.declared.history.Change.{Change}
use Rattle.status_history.specs.declared.history.Change.TheVariants.{Register, Param, Emit}
use Rattle.status_history.specs.declared.history.Entry.{Entry}
use Rattle.status_rules.specs.Judge.{first_of, if_so, refused_or, reserved_emitter, set_out_of_range, too_many_hyps, unknown_hyp, unknown_property, value_out_of_range}
use Rattle.status_rules.specs.declared.refusals.Placed.{Placed}
use Rattle.status_rules.specs.declared.refusals.Refusal.{Refusal}
use Rattle.status_rules.specs.declared.refusals.Refusal.TheVariants.{UnknownEmitter, FutureVersion, NameTaken, TooManyEmitters, HistoryFull}
use Rattle.event_board.specs.declared.standing.Standing.{Standing}

abbrev pub full_by : Standing → Option Refusal
full_by s = if_so (nat_le 200000 s.changes) (HistoryFull 200000)

abbrev pub unknown_by : Standing → Entry → Option Refusal
unknown_by s e = if_so (nat_le s.emitters e.emitter.0) UnknownEmitter

abbrev pub future_by : Standing → Entry → Option Refusal
future_by s e = if_so (nat_lt s.version e.version) (FutureVersion s.version)

abbrev pub emitter_rows : Standing → ParamSet → List (Option Refusal)
emitter_rows s set =
    set_out_of_range set ∷ if_so s.is_taken NameTaken ∷ if_so (nat_le 256 s.emitters) (TooManyEmitters 256)
    ∷ full_by s ∷ []

abbrev pub entry_rows_by : Props → Standing → Entry → List (Option Refusal)
entry_rows_by t s e =
    unknown_property t e ∷ unknown_hyp t e ∷ too_many_hyps e ∷ future_by s e ∷ full_by s ∷ []

abbrev pub rows_by : Props → Standing → Change → List (Option Refusal)
rows_by t s (Register name set) = emitter_rows s set
rows_by t s (Param n x) = value_out_of_range t n x ∷ full_by s ∷ []
rows_by t s (Emit e) = unknown_by s e ∷ reserved_emitter e ∷ entry_rows_by t s e

abbrev pub the_placed : ℕ → ℕ → ℕ → Placed
the_placed at version value = record { at = at; version = version; value = value }

abbrev pub placed_by : Standing → Change → Placed
placed_by s (Register name set) = the_placed s.changes s.version s.emitters
placed_by s (Param n x) = the_placed s.changes (s.version + 1) (s.version + 1)
placed_by s (Emit e) = the_placed s.changes s.version (s.changes + 1)

abbrev pub judge_by : Props → Standing → Change → Result Placed Refusal
judge_by t s c = refused_or (first_of (rows_by t s c)) (placed_by s c)

abbrev pub own_by : Props → Standing → Entry → Result Placed Refusal
own_by t s e = refused_or (first_of (unknown_by s e ∷ entry_rows_by t s e)) (placed_by s (Emit e))
