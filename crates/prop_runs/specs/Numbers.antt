-- The runs of a program by the numbers that its properties have in the table.
use Rattle.std.specs.Prelude.{ℕ, zero, suc, ◌==◌, ℤ, Bool, true, false, ◌&&◌, if◌then◌else◌, List, [], ◌∷◌, map}
use Rattle.c_ir.specs.declared.kind.AlarmKind.{AlarmKind}
use Rattle.c_ir.specs.declared.kind.Kind.{Kind}
use Rattle.c_ir.specs.declared.kind.Kind.TheVariants as K
use Rattle.c_ir.specs.declared.prop.Prop.{Prop}
use Rattle.c_ir.specs.Formed.{on_some}
use Rattle.c_ir.specs.Programs.{Program}
use Rattle.c_ir.specs.Props.{Props}
use Rattle.c_ir.specs.Sited.{alarm_number}
use Rattle.c_ir.specs.Table.{claims_dead}
use Rattle.c_runs.specs.Visits.{Named, Dead, Clause, Check, Precondition, Visit}
use Rattle.c_runs.specs.Programs.{visits_of_run}
use Rattle.prop_table.specs.Rows.{rows_of, defined_of}
use Rattle.status_history.specs.Claims.{Visit as Numbered, Visits}

-- ---- which property is meant

-- the properties of clauses
abbrev pub is_clause : Kind → Bool
is_clause K.Requires = true
is_clause K.CallRequires = false
is_clause K.Ensures = true
is_clause K.Assert = true
is_clause K.Check = true
is_clause K.Admit = true
is_clause K.LoopInvariant = true
is_clause (K.Alarm a) = false
is_clause K.Dead = false

abbrev pub is_call_requires : Kind → Bool
is_call_requires K.Requires = false
is_call_requires K.CallRequires = true
is_call_requires K.Ensures = false
is_call_requires K.Assert = false
is_call_requires K.Check = false
is_call_requires K.Admit = false
is_call_requires K.LoopInvariant = false
is_call_requires (K.Alarm a) = false
is_call_requires K.Dead = false

abbrev pub is_alarm_of : AlarmKind → Kind → Bool
is_alarm_of a (K.Alarm b) = alarm_number a == alarm_number b
is_alarm_of a _ = false

abbrev pub clause_at : ℕ → Prop → Bool
clause_at q r = is_clause r.kind && (r.point.0 == q)

abbrev pub call_requires_at : ℕ → Prop → Bool
call_requires_at q r = is_call_requires r.kind && (r.point.0 == q)

abbrev pub check_of : ℕ → AlarmKind → Prop → Bool
check_of n a r = is_alarm_of a r.kind && on_some (λ s. s.0 == n) r.site

-- ---- its number

-- the place of the one among those that pass the test before which k others pass; past the end if there are fewer
abbrev pub place : {X : Type 0} → (X → Bool) → List X → ℕ → ℕ
place test [] k = 0
place test (x ∷ xs) zero = if test x then 0 else suc (place test xs zero)
place test (x ∷ xs) (suc k) = if test x then suc (place test xs k) else suc (place test xs (suc k))

-- the number of the property that a run names
abbrev pub number_of : List Prop → Named → ℕ
number_of rows (Dead q) = place (claims_dead q) rows 0
number_of rows (Clause q k) = place (clause_at q) rows k
number_of rows (Check n a) = place (check_of n a) rows 0
number_of rows (Precondition q k) = place (call_requires_at q) rows k

abbrev pub numbered : List Prop → Visit → Numbered
numbered rows v = record { prop = number_of rows v.named; holds = v.holds }

-- ---- runs

-- what a table has of a program
abbrev pub props_of : Program → Props
props_of p = record { rows = rows_of p; defined = defined_of p }

-- the runs of a program, by the values of the run parameters
unfoldable pub runs_of : Program → List ℤ → Visits
runs_of p values input n = map (numbered (rows_of p)) (visits_of_run p values input n)
