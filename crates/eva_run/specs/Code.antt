-- What the parts of the program give: the parts of the analysis, with the records summed up for each property.
use Rattle.std.specs.Prelude.{◌≡◌, ℕ, ◌+◌, ◌==◌, ℤ, Bool, true, false, ◌&&◌, if◌then◌else◌, nat_lt, List, [], ◌∷◌, ◌++◌, length, map, get_or, slice_get, slice_set, Option, Some, None, Result, Ok, Err}
use Rattle.std.specs.Option.{option_map}
use Rattle.c_ir.specs.declared.kind.AlarmKind.{AlarmKind}
use Rattle.c_ir.specs.declared.kind.AlarmKind.TheVariants as A
use Rattle.c_ir.specs.declared.tree.Expr.{Expr, fold-Expr}
use Rattle.c_ir.specs.declared.tree.Expr.TheOpen.{Expr-F}
use Rattle.c_ir.specs.declared.tree.Stmt.{Stmt}
use Rattle.c_runs.specs.Programs.{world_of}
use Rattle.c_runs.specs.Runs.{Breaks, Next}
use Rattle.c_runs.specs.Visits.{Check, Clause, Dead, Named, Precondition}
use Rattle.prop_set.specs.Sets.{union}
use Rattle.abs_cells.specs.Cells.{Env, index_met}
use Rattle.int_value.specs.declared.value.Value.{Value}
use Rattle.abs_state.specs.States.{included_state, joined_state}
use Rattle.abs_state.specs.declared.state.State.{State}
use Rattle.eva_values.specs.Values.{Abstract, abstracted}
use Rattle.eva_rules.specs.Entries.{assumes, may_fail, may_hold, unrolls}
use Rattle.eva_rules.specs.Meant.{Called, Target}
use Rattle.eva_rules.specs.Passing as passing
use Rattle.eva_rules.specs.Passing.{Passed, Record, Step, all_pass, back, chosen, continuing, ends, has_number, left_by, mark_records, next_turn, reached_if, seq, stable_as, wide_state}
use Rattle.eva_rules.specs.Points.{Ground, Noted}
use Rattle.eva_rules.specs.Statements as statements
use Rattle.eva_rules.specs.Statements.{at, call_to, condition, condition_if, pass_all}
use Rattle.eva_rules.specs.Writing.{Writes, nowhere_to, set_cell, write_element}
use Rattle.eva_run.specs.declared.exits.Exits.{Exits}
use Rattle.eva_run.specs.declared.setting.Setting.{Setting}
use Rattle.eva_run.specs.declared.inside.Inside.{Inside}
use Rattle.eva_run.specs.declared.inside.Turn.{Turn}
use Rattle.eva_run.specs.declared.inside.Turn.TheVariants as T
use Rattle.eva_run.specs.declared.inside.Turned.{Turned}
use Rattle.eva_run.specs.declared.inside.Tried.{Tried}
use Rattle.eva_run.specs.declared.inside.Tried.TheVariants.{Stable, Wider}
use Rattle.eva_run.specs.declared.numbers.Listed.{Listed}
use Rattle.eva_run.specs.declared.numbers.Numbers.{Numbers}
use Rattle.eva_run.specs.declared.tallies.Tally.{Tally}
use Rattle.eva_run.specs.declared.thresholds.Widening.{Widening}
use Rattle.eva_values.specs.Shapes.{converted_row}
use Rattle.c_ir.specs.declared.ty.IntType.{IntType}
use Rattle.c_ir.specs.declared.tree.Node.{Node}
use Rattle.c_ir.specs.declared.tree.Node.TheVariants as N
use Rattle.eva_run.specs.declared.values.Aimed.{Aimed}
use Rattle.eva_run.specs.declared.values.Call.{Call}
use Rattle.eva_run.specs.declared.values.Evaluated.{Evaluated}
use Rattle.eva_run.specs.declared.values.Given.{Given}
use Rattle.eva_run.specs.declared.writing.To.{To}
use Rattle.eva_run.specs.declared.writing.To.TheVariants as W

-- ---- numbers of properties

abbrev pub alarms_of : Numbers → AlarmKind → Listed
alarms_of n A.DivisionByZero = n.division
alarms_of n A.SignedOverflow = n.overflow
alarms_of n A.Shift = n.shift
alarms_of n A.IndexBound = n.index
alarms_of n A.Initialization = n.initialization

-- the numbers with a key
abbrev pub found_at : Listed → ℕ → List ℕ
found_at f k = if nat_lt k f.past then get_or f.lists k [] else []

-- by the lists for each point and for each operator; the number of all properties where there is none
abbrev pub number_by : Numbers → Named → ℕ
number_by n (Dead q) = get_or (found_at n.deads q) 0 n.total
number_by n (Clause q k) = get_or (found_at n.clauses q) k n.total
number_by n (Check s a) = get_or (found_at (alarms_of n a) s) 0 n.total
number_by n (Precondition q k) = get_or (found_at n.instances q) k n.total

-- ---- records summed up

abbrev pub tally_with : Tally → Record → Tally
tally_with t r = record {
  may_hold = t.may_hold && may_hold r.said;
  may_fail = t.may_fail && may_fail r.said;
  used = union t.used r.used;
}

abbrev pub put_in : List Tally → ℕ → Record → Option Tally → List Tally
put_in ts n r None = ts
put_in ts n r (Some t) = slice_set ts n (tally_with t r)

-- a record joins what its property has
unfoldable pub put : (Named → ℕ) → List Tally → Record → List Tally
put number ts r = put_in ts (number r.named) r (slice_get ts (number r.named))

-- the records one after the other, if they are to be noted
abbrev pub tallied : (Named → ℕ) → Bool → List Tally → List Record → List Tally
tallied number false ts rs = ts
tallied number true ts [] = ts
tallied number true ts (r ∷ rs) = tallied number true (put number ts r) rs

-- ---- what code gives

abbrev pub exits_of : Passed → Exits
exits_of a = record { next = a.next; breaks = a.breaks; continues = a.continues; returns = a.returns }

abbrev pub with_records : Exits → List Record → Passed
with_records x rs = record {
  next = x.next;
  breaks = x.breaks;
  continues = x.continues;
  returns = x.returns;
  records = rs;
}

abbrev pub alone : Exits → Passed
alone x = with_records x []

-- the exits are those of the part, and its records were added, if they are to be noted
abbrev pub IsPassed : {X : Type 0} → (Named → ℕ) → Result Exits X → Bool → List Tally → List Tally → Passed → Type 0
IsPassed number (Ok x) noting old new a = (x ≡ exits_of a) × (new ≡ tallied number noting old a.records)
IsPassed number (Err e) noting old new a = Unit {0}

-- the same of what is done at a point
abbrev pub IsNoted : {X : Type 0} → (Named → ℕ) → Result State X → Bool → List Tally → List Tally → Noted → Type 0
IsNoted number (Ok s) noting old new n = (s ≡ n.state) × (new ≡ tallied number noting old n.records)
IsNoted number (Err e) noting old new n = Unit {0}

-- ---- evaluations

-- an expression's value and the state after it; its checks were added
abbrev pub IsEvaluated : {X : Type 0} → (Named → ℕ) → Result Evaluated X → Bool → List Tally → List Tally → Abstract → State → Type 0
IsEvaluated number (Ok x) noting old new a s =
    (x.value ≡ (a.side s.env).value) × (x.state ≡ reached_if (has_number (a.side s.env).value) s)
    × (new ≡ tallied number noting old (mark_records s.used (a.marks s.env)))
IsEvaluated number (Err e) noting old new a s = Unit {0}

-- arguments evaluated from left to right: their values, the state after them, and what was recorded
pub record Arguments : Type 0 where
  pub values : List Value
  pub state : State
  pub records : List Record

abbrev pub after_one : List Record → Value → Arguments → Arguments
after_one rs v a = record { values = v ∷ a.values; state = a.state; records = rs ++ a.records }

abbrev pub arguments : List Abstract → State → Arguments
arguments [] s = record { values = []; state = s; records = [] }
arguments (a ∷ rest) s =
    after_one (mark_records s.used (a.marks s.env)) (a.side s.env).value
    (arguments rest (reached_if (has_number (a.side s.env).value) s))

abbrev pub IsGiven : {X : Type 0} → (Named → ℕ) → Result Given X → Bool → List Tally → List Tally → Arguments → Type 0
IsGiven number (Ok x) noting old new a =
    (x.values ≡ a.values) × (x.state ≡ a.state) × (new ≡ tallied number noting old a.records)
IsGiven number (Err e) noting old new a = Unit {0}

abbrev pub writes_of : To → Writes
writes_of W.Nowhere = nowhere_to
writes_of (W.Cell x) = set_cell x
writes_of (W.Element first n index) = write_element first n (index_met n index)

-- ---- what the analysis is under

abbrev pub ground_by : Setting → Ground
ground_by g = record {
  world = world_of g.program.now g.params.now.values;
  number = number_by g.numbers.now;
  assume = assumes g.params.now.values;
  unroll = unrolls g.params.now.values;
}

abbrev pub widening_by : Widening → passing.Widening
widening_by w = record { thresholds = w.thresholds; shapes = w.shapes; flags = w.flags }

abbrev pub inside_with : (ground : Ground) → (ℕ → Step) → passing.Widening → Option ℕ → statements.Inside
inside_with g calls w r = record { ground = g; calls = calls; widening = w; result = r }

abbrev pub inside_by : Inside → statements.Inside
inside_by i =
    inside_with (ground_by i.setting) (call_to (ground_by i.setting) i.depth) (widening_by i.widening.now) i.result

-- ---- turns of loops

-- one turn of a loop, as its statement has it
abbrev pub turn_by : statements.Inside → Turn → Step
turn_by i (T.While p c bs) =
    at i.ground p (condition i c.now (pass_all i bs.now) (ends Breaks))
turn_by i (T.DoWhile p bs c) =
    at i.ground p (seq (continuing (pass_all i bs.now)) (condition i c.now (ends Next) (ends Breaks)))
turn_by i (T.For p c bs us) =
    at i.ground p (condition i c.now (seq (continuing (pass_all i bs.now)) (pass_all i us.now)) (ends Breaks))
turn_by i (T.Endless p bs us) =
    at i.ground p (condition_if i None (seq (continuing (pass_all i bs.now)) (pass_all i us.now)) (ends Breaks))

-- the cells before a turn, and the state after it
abbrev pub after_turn : Step → State → Turned
after_turn f s = record { old = s.env; next = next_turn f s; is_stable = included_state (next_turn f s) s }

abbrev pub tried_by : Bool → State → State → Tried
tried_by true s wider = Stable s
tried_by false s wider = Wider wider

-- ---- calls

-- a result under the conversions of its call
abbrev pub node_converts : IntType → Node (Value → Value) (List (Value → Value)) → Value → Value
node_converts ty (N.Literal v) x = x
node_converts ty (N.Cell c checked) x = x
node_converts ty (N.Element first n i checked) x = x
node_converts ty (N.Call g es) x = x
node_converts ty (N.Unary op e) x = x
node_converts ty (N.Binary op a b) x = x
node_converts ty (N.Assign t e) x = x
node_converts ty (N.Cond c a b) x = x
node_converts ty (N.Cast e) x = converted_row ty (e x)

abbrev pub converts_step : Expr-F (Value → Value) → Value → Value
converts_step e = node_converts e.ty e.node

unfoldable pub converted_by : Expr → Value → Value
converted_by = fold-Expr (Value → Value) converts_step

-- the call that an expression is: its function, its arguments and the conversions of its result
abbrev pub IsCall : Bool → Expr → Option Call → Option Called → Type 0
IsCall overflow e None known = known ≡ None
IsCall overflow e (Some c) known = known ≡ Some (record {
  function = c.function.0;
  args = map (abstracted overflow) c.args.now;
  convert = converted_by e;
})

-- ---- targets

abbrev pub IsAimed : {X : Type 0} → (Named → ℕ) → Result Aimed X → Bool → List Tally → List Tally → Target → State → Type 0
IsAimed number (Ok x) noting old new t s =
    (writes_of x.to ≡ t.writes s.env) × (x.state ≡ reached_if (t.is_there s.env) s)
    × (new ≡ tallied number noting old (mark_records s.used (t.marks s.env)))
IsAimed number (Err e) noting old new t s = Unit {0}
