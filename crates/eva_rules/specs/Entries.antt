-- The entries of the emitter `eva` (this project's own): what its records say of each property.
use Rattle.std.specs.Prelude.{ℕ, ◌+◌, ◌==◌, ℤ, pos, unsigned_abs, nat_lt, Bool, true, false, not, ◌&&◌, if◌then◌else◌, List, [], ◌∷◌, ◌++◌, length, slice_get, slice_index_or}
use Rattle.fc_base.specs.declared.status.LocalStatus.{LocalStatus}
use Rattle.fc_base.specs.declared.status.LocalStatus.TheVariants as Status
use Rattle.int_interval.specs.declared.said.Said.{Said}
use Rattle.int_interval.specs.declared.said.Said.TheVariants.{Yes, No, Maybe, Unreached}
use Rattle.fc_base.specs.declared.ids.PropId.{PropId}
use Rattle.prop_set.specs.Sets.{prop_id, prop_ids, union}
use Rattle.param_book.specs.Table.{entry_function}
use Rattle.c_ir.specs.Programs.{Program}
use Rattle.c_ir.specs.Table.{row_admitted}
use Rattle.c_ir.specs.declared.prop.Prop.{Prop}
use Rattle.c_rules.specs.Constants.{is_zero}
use Rattle.c_runs.specs.Programs.{entry_number, free_cells, is_lib_entry, world_of}
use Rattle.c_runs.specs.Statements.{formals_in}
use Rattle.c_runs.specs.Visits.{Named}
use Rattle.prop_runs.specs.Numbers.{number_of, props_of}
use Rattle.abs_state.specs.declared.state.State.{State}
use Rattle.status_history.specs.declared.history.Entry.{Entry}
use Rattle.eva_rules.specs.Passing.{Record}
use Rattle.eva_rules.specs.Points.{Ground}
use Rattle.eva_rules.specs.Statements.{call_to}
use Rattle.eva_rules.specs.Writing.{receive_all, start_env}

-- ---- the whole program

-- the parameters `eva_assume` and `eva_unroll`
abbrev pub assumes : List ℤ → Bool
assumes values = not (is_zero (slice_index_or values 3 (pos 0)))

abbrev pub unrolls : List ℤ → ℕ
unrolls values = unsigned_abs (slice_index_or values 4 (pos 0))

abbrev pub ground_of : Program → List Prop → List ℤ → Ground
ground_of p rows values = record {
  world = world_of p values;
  number = number_of rows;
  assume = assumes values;
  unroll = unrolls values;
}

-- where a run has numbers of its input, each number of the type is there
abbrev pub first_state : Program → Bool → ℕ → State
first_state p lib g = record {
  env = receive_all p (formals_in (slice_get p.fns g)) (receive_all p (if lib then free_cells 0 p.cells else []) (start_env p));
  used = [];
}

-- all records, under these values of the parameters
unfoldable pub records_of : Program → List Prop → List ℤ → List Record
records_of p rows values =
    (call_to (ground_of p rows values) (length p.fns) (entry_number p (entry_function values))
    (first_state p (is_lib_entry values) (entry_number p (entry_function values)))).records

-- ---- one property

-- those of property n
abbrev pub records_at : (Named → ℕ) → ℕ → List Record → List Record
records_at number n [] = []
records_at number n (r ∷ rs) = (if number r.named == n then r ∷ [] else []) ++ records_at number n rs

abbrev pub may_hold : Said → Bool
may_hold Yes = true
may_hold No = false
may_hold Maybe = false
may_hold Unreached = true

abbrev pub may_fail : Said → Bool
may_fail Yes = false
may_fail No = true
may_fail Maybe = false
may_fail Unreached = true

abbrev pub each_said : (Said → Bool) → List Record → Bool
each_said test [] = true
each_said test (r ∷ rs) = test r.said && each_said test rs

-- all that was used by then, beside what there was already
abbrev pub used_with : List ℕ → List Record → List ℕ
used_with used [] = used
used_with used (r ∷ rs) = used_with (union used r.used) rs

abbrev pub used_by : List Record → List ℕ
used_by rs = used_with [] rs

-- true where each record says so or is unreached; false if reached where each that is reached says so
abbrev pub status_of : List Record → LocalStatus
status_of rs =
    if each_said may_hold rs then Status.True
    else (if each_said may_fail rs then Status.FalseIfReachable else Status.DontKnow)

abbrev pub says_nothing : LocalStatus → Bool
says_nothing Status.True = false
says_nothing Status.FalseIfReachable = false
says_nothing Status.FalseAndReachable = false
says_nothing Status.DontKnow = true

-- with more than 256 hypotheses nothing is said
abbrev pub entry : ℕ → ℕ → LocalStatus → List PropId → Entry
entry version n status hyps =
    record { emitter = record { 0 = 2 }; prop = prop_id n; status = status; hyps = hyps; version = version }

abbrev pub entry_by : ℕ → ℕ → LocalStatus → List ℕ → Entry
entry_by version n status used =
    if says_nothing status then entry version n Status.DontKnow []
    else (if nat_lt 256 (length used) then entry version n Status.DontKnow []
    else entry version n status (prop_ids used))

abbrev pub entry_of : ℕ → ℕ → List Record → Entry
entry_of version n rs = entry_by version n (status_of rs) (used_by rs)

-- ---- all properties

-- those that aren't admitted, where the first one has number n
abbrev pub entries_from : Program → List ℤ → (Named → ℕ) → List Record → ℕ → ℕ → List Prop → List Entry
entries_from p values number records version n [] = []
entries_from p values number records version n (r ∷ rs) =
    (if row_admitted (props_of p) (entry_function values) r then []
    else entry_of version n (records_at number n records) ∷ [])
    ++ entries_from p values number records version (n + 1) rs

unfoldable pub eva_said : Program → List Prop → List ℤ → ℕ → List Entry
eva_said p rows values version = entries_from p values (number_of rows) (records_of p rows values) version 0 rows
