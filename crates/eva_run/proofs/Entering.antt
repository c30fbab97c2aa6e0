-- The entries by what was summed up are those of the definition.
use Rattle.std.proofs.Common.{◌≡◌, ◌∙◌, ℕ, zero, suc, ℤ, true, List, length, replicate, refl, ap}
use Rattle.c_ir.specs.Programs.{Program}
use Rattle.c_ir.specs.Props.{Props}
use Rattle.c_ir.specs.declared.prop.Prop.{Prop}
use Rattle.c_runs.specs.Programs.{entry_number, is_lib_entry, world_of}
use Rattle.c_runs.specs.Visits.{Named}
use Rattle.param_book.specs.Table.{entry_function}
use Rattle.prop_runs.specs.Numbers.{number_of, props_of}
use Rattle.prop_table.specs.Rows.{rows_of}
use Rattle.abs_state.specs.declared.state.State.{State}
use Rattle.eva_rules.specs.Entries.{assumes, eva_said, first_state, records_of, unrolls}
use Rattle.eva_rules.specs.Passing.{Record}
use Rattle.eva_rules.specs.Points.{Ground}
use Rattle.eva_rules.specs.Statements.{call_to}
use Rattle.eva_run.specs.Code.{number_by, tallied}
use Rattle.eva_run.specs.Entered.{entries_by}
use Rattle.eva_run.specs.Numbered.{IsNumbering}
use Rattle.eva_run.specs.declared.numbers.Numbers.{Numbers}
use Rattle.eva_run.specs.declared.tallies.Tally.{Tally}
use Rattle.eva_run.proofs.Summing.{entered, nothing_said, tallied_length}

abbrev ground_with : Program → List ℤ → (Named → ℕ) → Ground
ground_with p values f =
    record { world = world_of p values; number = f; assume = assumes values; unroll = unrolls values }

-- the records of the entry function
abbrev pub records_by : Program → List ℤ → (Named → ℕ) → ℕ → ℕ → State → List Record
records_by p values f depth function s = (call_to (ground_with p values f) depth function s).records

said_of : (p : Program) (values : List ℤ) (version : ℕ)
    → entries_by (props_of p) (entry_function values) version 0 (rows_of p)
    (tallied (number_of (rows_of p)) true (replicate (length (rows_of p)) nothing_said)
    (records_by p values (number_of (rows_of p)) (length p.fns) (entry_number p (entry_function values))
    (first_state p (is_lib_entry values) (entry_number p (entry_function values)))))
    ≡ eva_said p (rows_of p) values version
unfolding eva_said records_of
said_of p values version =
    entered p values (number_of (rows_of p)) (records_of p (rows_of p) values) version (rows_of p)

pub said_by : (p : Program) (values : List ℤ) (version : ℕ) (n : Numbers) (rows : List Prop) (props : Props)
    (depth function : ℕ) (s : State) (old new : List Tally) → props ≡ props_of p → rows ≡ props.rows
    → IsNumbering n rows
    → depth ≡ length p.fns → function ≡ entry_number p (entry_function values)
    → s ≡ first_state p (is_lib_entry values) function → old ≡ replicate (length rows) nothing_said
    → new ≡ tallied (number_by n) true old (records_by p values (number_by n) depth function s)
    → entries_by props (entry_function values) version 0 props.rows new
    ≡ eva_said p (rows_of p) values version
said_by p values version n rows props depth function s old new is all numbered deep entry start none h =
    let rows_are : rows ≡ rows_of p = all ∙ ap (λ (t : Props). t.rows) is in
    let same : number_by n ≡ number_of rows = λ i named. numbered named i in
    let number : number_by n ≡ number_of (rows_of p) = same ∙ ap number_of rows_are in
    let state : s ≡ first_state p (is_lib_entry values) (entry_number p (entry_function values)) =
    start ∙ ap (λ (k : ℕ). first_state p (is_lib_entry values) k) entry in
    let empty : old ≡ replicate (length (rows_of p)) nothing_said =
    none ∙ ap (λ (rs : List Prop). replicate (length rs) nothing_said) rows_are in
    ap (λ (ts : List Tally). entries_by props (entry_function values) version 0 props.rows ts) h
    ∙ (λ i. entries_by (is i) (entry_function values) version 0 (is i).rows
    (tallied (number i) true (empty i) (records_by p values (number i) (deep i) (entry i) (state i))))
    ∙ said_of p values version

replicate_length : {X : Type 0} (n : ℕ) (x : X) → length (replicate n x) ≡ n
replicate_length zero x = refl
replicate_length (suc n) x = ap suc (replicate_length n x)

pub as_many : (f : Named → ℕ) (rs : List Record) (rows : List Prop) (old new : List Tally)
    → old ≡ replicate (length rows) nothing_said → new ≡ tallied f true old rs → length new ≡ length rows
as_many f rs rows old new none h =
    ap (λ (ts : List Tally). length ts) h ∙ tallied_length f rs old
    ∙ ap (λ (ts : List Tally). length ts) none
    ∙ replicate_length (length rows) nothing_said
