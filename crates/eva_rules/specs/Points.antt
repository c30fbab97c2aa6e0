-- What an analysis does at a point: the state is narrowed by what is admitted there, and then each clause is decided in
-- its order (ACSL manual, 2.3 to 2.5; what is assumed is this project's own).
use Rattle.std.specs.Prelude.{ℕ, ◌+◌, Bool, true, false, ◌&&◌, List, [], ◌∷◌, Option, Some, None}
use Rattle.int_interval.specs.declared.said.Said.{Said}
use Rattle.int_interval.specs.declared.said.Said.TheVariants as S
use Rattle.prop_set.specs.Sets.{with_member}
use Rattle.c_ir.specs.Table.{kind_admitted}
use Rattle.c_ir.specs.declared.kind.Kind.{Kind}
use Rattle.c_ir.specs.declared.kind.Kind.TheVariants as K
use Rattle.c_ir.specs.declared.tree.Pred.{Pred}
use Rattle.c_ir.specs.declared.tree.PointClause.{PointClause}
use Rattle.c_runs.specs.Visits.{Named, Dead, Clause, Precondition}
use Rattle.c_runs.specs.Statements.{World, clauses_at, functions_of, owner_at}
use Rattle.abs_cells.specs.Cells.{Env}
use Rattle.abs_state.specs.declared.state.State.{State}
use Rattle.eva_terms.specs.declared.answer.Truth.{Truth}
use Rattle.eva_terms.specs.declared.answer.Truth.TheVariants as T
use Rattle.eva_expr.specs.Conditions.{narrowed_by_pred, truth_in}
use Rattle.eva_rules.specs.Passing.{Passed, Record, Step, recorded}

-- what the analysis of a program is under
pub record Ground : Type 0 where
  pub world : World
  -- the numbers of properties
  pub number : Named → ℕ
  -- whether the analysis goes on with what may be false as if it were true, and so many turns of a loop are made
  -- one by one
  pub assume : Bool
  pub unroll : ℕ

-- ---- one clause

abbrev pub said_of : Truth → Said
said_of T.Yes = S.Yes
said_of T.No = S.No
said_of T.Maybe = S.Maybe

abbrev pub said_if : Env → Said → Said
said_if None said = S.Unreached
said_if (Some cells) said = said

-- what is said of a predicate; the second state is that of which `\old` speaks
abbrev pub said_in : State → State → Pred → Said
said_in s entry p = said_if s.env (said_of (truth_in s entry p))

abbrev pub is_maybe : Said → Bool
is_maybe S.Yes = false
is_maybe S.No = false
is_maybe S.Maybe = true
is_maybe S.Unreached = false

-- the properties that the analysis may go on with
abbrev pub is_assumed : Kind → Bool
is_assumed K.Requires = true
is_assumed K.CallRequires = true
is_assumed K.Ensures = true
is_assumed K.Assert = true
is_assumed K.Check = false
is_assumed K.Admit = false
is_assumed K.LoopInvariant = true
is_assumed (K.Alarm a) = false
is_assumed K.Dead = false

-- the state is narrowed by it, and used it
abbrev pub using_it : Ground → Named → State → Pred → State → State
using_it g named entry p s =
    record { env = (narrowed_by_pred true entry p s).env; used = with_member (g.number named) s.used }

abbrev pub assumed_if : Bool → Ground → Named → State → Pred → State → State
assumed_if true g named entry p s = using_it g named entry p s
assumed_if false g named entry p s = s

-- a property that may be false is assumed
abbrev pub assuming : Ground → Kind → Named → State → Pred → State → State
assuming g kind named entry p s =
    assumed_if (is_maybe (said_in s entry p) && (g.assume && is_assumed kind)) g named entry p s

-- where no clause can speak of the entry, the state itself stands for that at the entry
abbrev pub entry_or : Option State → State → State
entry_or None s = s
entry_or (Some entry) s = entry

-- ---- all clauses

-- a state and what was recorded on the way to it
pub record Noted : Type 0 where
  pub state : State
  pub records : List Record

abbrev pub note : Record → Noted → Noted
note r n = record { state = n.state; records = r ∷ n.records }

abbrev pub record_of : Named → Said → State → Record
record_of named said s = record { named = named; said = said; used = s.used }

-- the clauses from place k on
abbrev pub clauses_noted : Ground → ℕ → ℕ → Option State → List PointClause → State → Noted
clauses_noted g q k entry [] s = record { state = s; records = [] }
clauses_noted g q k entry (c ∷ cs) s =
    note (record_of (Clause q k) (said_in s (entry_or entry s) c.pred) s)
    (clauses_noted g q (k + 1) entry cs (assuming g c.kind (Clause q k) (entry_or entry s) c.pred s))

-- the preconditions of a callee, from place k on, at the point of its call
abbrev pub preconditions_noted : Ground → ℕ → ℕ → List PointClause → State → Noted
preconditions_noted g q k [] s = record { state = s; records = [] }
preconditions_noted g q k (c ∷ cs) s =
    note (record_of (Precondition q k) (said_in s s c.pred) s)
    (preconditions_noted g q (k + 1) cs (assuming g K.CallRequires (Precondition q k) s c.pred s))

-- ---- arrivals

abbrev pub is_admitted : Ground → ℕ → PointClause → Bool
is_admitted g q c = kind_admitted (functions_of g.world.program) g.world.entry (owner_at g.world.program q) c.kind

abbrev pub admitted_by : Bool → State → Pred → State → State
admitted_by true entry p s = narrowed_by_pred true entry p s
admitted_by false entry p s = s

abbrev pub admitting : Ground → ℕ → Option State → List PointClause → State → State
admitting g q entry [] s = s
admitting g q entry (c ∷ cs) s =
    admitting g q entry cs (admitted_by (is_admitted g q c) (entry_or entry s) c.pred s)

-- a point that is reached may be arrived at or not
abbrev pub said_dead : Env → Said
said_dead None = S.Unreached
said_dead (Some cells) = S.Maybe

abbrev pub arrival_noted : Ground → ℕ → Option State → State → Noted
arrival_noted g q entry s =
    note (record_of (Dead q) (said_dead s.env) s) (clauses_noted g q 0 entry (clauses_at g.world.program q) s)

abbrev pub point_noted : Ground → ℕ → Option State → State → Noted
point_noted g q entry s = arrival_noted g q entry (admitting g q entry (clauses_at g.world.program q) s)

abbrev pub then_pass : Noted → Step → Passed
then_pass n f = recorded n.records (f n.state)

abbrev pub arrive : Ground → ℕ → Option State → Step → Step
arrive g q entry f s = then_pass (point_noted g q entry s) f
