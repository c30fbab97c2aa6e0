-- What an analysis has after a part of a program, and how parts follow each other (this project's own, after the
-- abstract interpretation of Cousot and Cousot). The parts are put together as those of runs are in `c_runs`.
use Rattle.std.specs.Prelude.{ℕ, zero, suc, ◌+◌, nat_le, ℤ, Bool, true, false, ◌||◌, if◌then◌else◌, List, [], ◌∷◌, ◌++◌, map, Some, None}
use Rattle.int_interval.specs.declared.said.Said.{Said}
use Rattle.int_interval.specs.declared.shape.Shape.{Shape}
use Rattle.int_interval.specs.Rows.{is_empty}
use Rattle.int_value.specs.declared.value.Value.{Value}
use Rattle.abs_cells.specs.Cells.{Env}
use Rattle.abs_state.specs.States.{included_state, joined_state, unreached_state}
use Rattle.abs_state.specs.Widening.{whole_cells, widened}
use Rattle.abs_state.specs.declared.state.State.{State}
use Rattle.c_runs.specs.Visits.{Named, Check}
use Rattle.c_runs.specs.Runs.{Ending, Next, Breaks, Continues, Returns, Stopped, Cut}
use Rattle.eva_values.specs.Values.{Abstract}
use Rattle.eva_values.specs.declared.seen.SiteMark.{SiteMark}

-- ---- what is recorded

-- what is said of a property at one place, and the properties that were used by then
pub record Record : Type 0 where
  pub named : Named
  pub said : Said
  pub used : List ℕ

-- the states where a part ends, by how it ends, and its records in order
pub record Passed : Type 0 where
  pub next : State
  pub breaks : State
  pub continues : State
  pub returns : State
  pub records : List Record

-- what an analysis makes of a part, by the state before it
abbrev pub Step : Type 0
Step = State → Passed

-- where no run comes, with nothing used
abbrev pub nowhere : State
nowhere = unreached_state []

-- ---- endings

-- what stands after the part is unreached, unless the part goes on
abbrev pub ends : Ending → Step
ends Next s = record { next = s; breaks = nowhere; continues = nowhere; returns = nowhere; records = [] }
ends Breaks s = record { next = unreached_state s.used; breaks = s; continues = nowhere; returns = nowhere; records = [] }
ends Continues s = record { next = unreached_state s.used; breaks = nowhere; continues = s; returns = nowhere; records = [] }
ends Returns s = record { next = unreached_state s.used; breaks = nowhere; continues = nowhere; returns = s; records = [] }
ends Stopped s =
    record { next = unreached_state s.used; breaks = nowhere; continues = nowhere; returns = nowhere; records = [] }
ends Cut s =
    record { next = unreached_state s.used; breaks = nowhere; continues = nowhere; returns = nowhere; records = [] }

-- the cells are changed; an unreached state stays so
abbrev pub env_by : (Env → Env) → State → State
env_by f s = record { env = f s.env; used = s.used }

abbrev pub changes : (Env → Env) → Step
changes f s = ends Next (env_by f s)

abbrev pub recorded : List Record → Passed → Passed
recorded rs a = record {
  next = a.next;
  breaks = a.breaks;
  continues = a.continues;
  returns = a.returns;
  records = rs ++ a.records;
}

-- ---- one after another

-- the second part began where the first one went on
abbrev pub followed : Passed → Passed → Passed
followed a b = record {
  next = b.next;
  breaks = joined_state a.breaks b.breaks;
  continues = joined_state a.continues b.continues;
  returns = joined_state a.returns b.returns;
  records = a.records ++ b.records;
}

abbrev pub seq : Step → Step → Step
seq f g s = followed (f s) (g (f s).next)

-- parts after what passed already
abbrev pub passed_by : List Step → Passed → Passed
passed_by [] a = a
passed_by (f ∷ fs) a = passed_by fs (followed a (f a.next))

abbrev pub all_pass : List Step → Step
all_pass fs s = passed_by fs (ends Next s)

-- either part
abbrev pub either : Passed → Passed → Passed
either a b = record {
  next = joined_state a.next b.next;
  breaks = joined_state a.breaks b.breaks;
  continues = joined_state a.continues b.continues;
  returns = joined_state a.returns b.returns;
  records = a.records ++ b.records;
}

-- ---- evaluations

abbrev pub mark_record : List ℕ → SiteMark → Record
mark_record used m = record { named = Check m.site.0 m.kind; said = m.said; used = used }

abbrev pub mark_records : List ℕ → List SiteMark → List Record
mark_records used ms = map (mark_record used) ms

-- a value without a number makes the state unreached
abbrev pub reached_if : Bool → State → State
reached_if true s = s
reached_if false s = unreached_state s.used

abbrev pub has_number : Value → Bool
has_number v = if is_empty v.range then false else true

-- an expression's checks are recorded; what follows has its value
abbrev pub evaluated : Abstract → (Value → Step) → Step
evaluated a f s =
    recorded (mark_records s.used (a.marks s.env))
    (f (a.side s.env).value (reached_if (has_number (a.side s.env).value) s))

-- a condition (C11 6.8.4.1): the first part in the cells for which it comes out true, the second in the others
abbrev pub branch : Abstract → Step → Step → Step
branch a f g s =
    recorded (mark_records s.used (a.marks s.env))
    (either (f (env_by (a.narrowed true) s)) (g (env_by (a.narrowed false) s)))

-- ---- loops (C11 6.8.5)

-- what a loop is widened by: the thresholds of its function, the types of all cells, and which cells may have no number
pub record Widening : Type 0 where
  pub thresholds : List ℤ
  pub shapes : List Shape
  pub flags : List Bool

-- what comes back to the loop's point
abbrev pub back : Passed → State
back a = joined_state a.next a.continues

-- a loop is left by `break`, or by what its turns do not go on with
abbrev pub left_by : Passed → Passed
left_by a = record {
  next = a.breaks;
  breaks = nowhere;
  continues = nowhere;
  returns = a.returns;
  records = a.records;
}

abbrev pub widened_env : Widening → ℕ → Env → Env → Env
widened_env w turn None next = next
widened_env w turn (Some old) None = Some old
widened_env w turn (Some old) (Some next) = Some (widened turn w.thresholds w.shapes old next)

-- the cells of the next turn: in turns 1 to 3 those that there are now, in later ones these widened
abbrev pub advanced_env : Widening → ℕ → Env → Env → Env
advanced_env w turn old next = if nat_le turn 3 then next else widened_env w turn old next

abbrev pub chosen : Bool → State → State → State
chosen true s t = s
chosen false s t = t

-- the state before the next turn of a loop, joined with what comes back
abbrev pub next_turn : Step → State → State
next_turn f s = joined_state s (back (f s))

-- a stable state has all that was used
abbrev pub stable_as : State → State → State
stable_as s n = record { env = s.env; used = n.used }

-- with the whole types of all cells; a cell that may have no number by its flag, or had none before, may have none
abbrev pub either_flag : List Bool → List Value → List Bool
either_flag [] vs = []
either_flag (f ∷ fs) [] = []
either_flag (f ∷ fs) (v ∷ vs) = (f || v.unset) ∷ either_flag fs vs

abbrev pub whole_env : Widening → Env → Env
whole_env w None = None
whole_env w (Some cells) = Some (whole_cells w.shapes (either_flag w.flags cells))

-- nothing but the types is known
abbrev pub set_flag : Shape → Bool
set_flag shape = true

abbrev pub any_env : Widening → Env
any_env w = Some (whole_cells w.shapes (map set_flag w.shapes))

abbrev pub wide_state : Env → List ℕ → State
wide_state e used = record { env = e; used = used }

-- turn 13, with the whole types of all cells, changes nothing; else nothing but the types would be known
abbrev pub stable_whole : Widening → Step → State → State
stable_whole w f s =
    chosen (included_state (next_turn f s) s) (stable_as s (next_turn f s)) (wide_state (any_env w) (next_turn f s).used)

-- the state that is stable, from this turn on, with so many turns before turn 12; where the turn doesn't change the
-- cells it is stable. After turn 12 all cells have their whole types
abbrev pub stable : Widening → Step → ℕ → ℕ → State → State
stable w f zero turn s =
    chosen (included_state (next_turn f s) s) (stable_as s (next_turn f s))
    (stable_whole w f (wide_state (whole_env w (next_turn f s).env) (next_turn f s).used))
stable w f (suc left) turn s =
    chosen (included_state (next_turn f s) s) (stable_as s (next_turn f s))
    (stable w f left (turn + 1)
    (wide_state (advanced_env w turn s.env (next_turn f s).env) (next_turn f s).used))

-- the first turns one by one, beside what the turns before gave; then, from turn 1 to turn 12, the stable state, on which
-- one further turn is made. These turns alone are recorded
abbrev pub unrolled : Widening → Step → ℕ → Passed → State → Passed
unrolled w f zero a s = either a (left_by (f (stable w f 11 1 s)))
unrolled w f (suc k) a s = unrolled w f k (either a (left_by (f s))) (back (f s))

-- before the first turn
abbrev pub nothing_passed : Passed
nothing_passed =
    record { next = nowhere; breaks = nowhere; continues = nowhere; returns = nowhere; records = [] }

abbrev pub looped : Widening → ℕ → Step → Step
looped w k f s = unrolled w f k nothing_passed s

-- after `continue` the test of a `do`, and the last expression in the head of a `for`, come next
abbrev pub continuing : Step → Step
continuing f s = record {
  next = back (f s);
  breaks = (f s).breaks;
  continues = nowhere;
  returns = (f s).returns;
  records = (f s).records;
}

-- ---- functions

-- the end of a body is reached, or it returned
abbrev pub closed : Passed → Passed → Passed
closed a b = record {
  next = joined_state b.next a.returns;
  breaks = nowhere;
  continues = nowhere;
  returns = nowhere;
  records = a.records ++ b.records;
}

abbrev pub closing : Step → Step → Step
closing f g s = closed (f s) (g (f s).next)
