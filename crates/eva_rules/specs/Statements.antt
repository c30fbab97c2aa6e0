-- The analysis of statements and of functions (C11 6.5.2.2, 6.7.9, 6.8). It follows the runs of `c_runs` part by part.
use Rattle.std.specs.Prelude.{ℕ, zero, suc, ◌+◌, Bool, true, false, List, [], ◌∷◌, map, slice_get, Option, Some, None}
use Rattle.int_value.specs.Rows.{value_of}
use Rattle.int_value.specs.declared.value.Value.{Value}
use Rattle.fc_base.specs.declared.ids.PointId.{PointId}
use Rattle.c_ir.specs.Bodies.{cell_count}
use Rattle.c_ir.specs.Programs.{Program}
use Rattle.c_ir.specs.declared.tree.Expr.{Expr}
use Rattle.c_ir.specs.declared.tree.Fun.{Fun}
use Rattle.c_ir.specs.declared.tree.Init.{Init}
use Rattle.c_ir.specs.declared.tree.Init.TheVariants as I
use Rattle.c_ir.specs.declared.tree.Stmt.{Stmt, fold-Stmt}
use Rattle.c_ir.specs.declared.tree.Stmt.TheOpen.{Stmt-F}
use Rattle.c_runs.specs.Runs.{Next, Breaks, Continues, Returns, Stopped, Cut}
use Rattle.c_runs.specs.Statements.{entry_clauses, formals_in, is_main, result_in}
use Rattle.abs_cells.specs.Cells.{Env, value_in}
use Rattle.abs_state.specs.States.{unreached_state}
use Rattle.abs_state.specs.declared.state.State.{State}
use Rattle.eva_values.specs.Values.{Abstract}
use Rattle.eva_rules.specs.Meant.{Assigned, Called, Meant, Target, meant}
use Rattle.eva_rules.specs.Passing.{Passed, Step, Widening, all_pass, branch, changes, closing, continuing, either, ends, evaluated, followed, mark_records, reached_if, looped, recorded, seq}
use Rattle.eva_rules.specs.Points.{Ground, arrive, preconditions_noted, then_pass}
use Rattle.eva_rules.specs.Thresholds.{thresholds_of}
use Rattle.eva_rules.specs.Writing.{Writes, flags_of, freed_cells, nowhere_to, receive, set_cell, set_cells, shapes_of, unset, write_if, written, zero_value}

-- what the statements of a body are in: the analyses of the functions that they call, what loops are widened by, and the
-- function's result cell
pub record Inside : Type 0 where
  pub ground : Ground
  pub calls : ℕ → Step
  pub widening : Widening
  pub result : Option ℕ

abbrev pub program_of : Inside → Program
program_of s = s.ground.world.program

-- at a point of a statement no clause speaks of the cells at the entry
abbrev pub at : Ground → PointId → Step → Step
at g p f = arrive g p.0 None f

-- ---- calls (6.5.2.2)

-- the callee's result, converted; a result that may have no number stays so
abbrev pub kept_flag : Value → Value → Value
kept_flag old new = value_of new.range new.congr old.unset

abbrev pub result_value : Option ℕ → (Value → Value) → Env → Value
result_value None convert e = unset
result_value (Some r) convert e = kept_flag (value_in e r) (convert (value_in e r))

-- the result is written, and then the callee's cells have no number
abbrev pub left_env : Program → ℕ → (Value → Value) → Writes → Env → Env
left_env p g convert to e = freed_cells p g (to (result_value (result_in (slice_get p.fns g)) convert e) e)

abbrev pub leaving : Program → ℕ → (Value → Value) → Writes → Step
leaving p g convert to = changes (left_env p g convert to)

-- the preconditions are decided, the function is analysed, and its result is written
abbrev pub calling : Inside → ℕ → ℕ → (Value → Value) → Writes → Step
calling s q g convert to state =
    then_pass (preconditions_noted s.ground q 0 (entry_clauses (program_of s) (slice_get (program_of s).fns g)) state)
    (seq (s.calls g) (leaving (program_of s) g convert to))

-- with the formals written
abbrev pub entered : Inside → ℕ → List Value → State → State
entered s g vs state =
    record { env = written (formals_in (slice_get (program_of s).fns g)) vs state.env; used = state.used }

abbrev pub entering : Inside → ℕ → Called → Writes → List Value → Step
entering s q k to vs state = calling s q k.function k.convert to (entered s k.function vs state)

-- the arguments from left to right
abbrev pub with_args : List Abstract → (List Value → Step) → Step
with_args [] f = f []
with_args (a ∷ rest) f = evaluated a (λ v. with_args rest (λ vs. f (v ∷ vs)))

-- ---- expressions

-- a value, which may be a call's, is written
abbrev pub giving : Inside → ℕ → Abstract → Option Called → Writes → Step
giving s q value None to = evaluated value (λ v. changes (to v))
giving s q value (Some k) to = with_args k.args (entering s q k to)

-- first where it is written to
abbrev pub aimed : Target → (Writes → Step) → Step
aimed t f state =
    recorded (mark_records state.used (t.marks state.env))
    (f (t.writes state.env) (reached_if (t.is_there state.env) state))

abbrev pub statement : Inside → ℕ → Abstract → Option Called → Option Assigned → Step
statement s q value call None = giving s q value call nowhere_to
statement s q value call (Some a) = aimed a.target (giving s q a.value a.call)

abbrev pub meant_in : Inside → Expr → Meant
meant_in s e = meant s.ground.world.overflow e

abbrev pub dropping : Inside → ℕ → Expr → Step
dropping s q e = statement s q (meant_in s e).value (meant_in s e).call (meant_in s e).assign

abbrev pub giving_to : Inside → ℕ → Writes → Expr → Step
giving_to s q to e = giving s q (meant_in s e).value (meant_in s e).call to

-- ---- declarations (6.7.9)

-- the values of a brace list go to the cells from x on, and 0 to those that are left
abbrev pub filling : Inside → ℕ → ℕ → ℕ → List Expr → List Step
filling s q x left [] = changes (set_cells x left zero_value) ∷ []
filling s q x zero (e ∷ es) = []
filling s q x (suc left) (e ∷ es) = giving_to s q (set_cell x) e ∷ filling s q (x + 1) left es

-- without an initialiser the cells have no number
abbrev pub declaring : Inside → ℕ → ℕ → ℕ → Init → Step
declaring s q first n I.Nothing = changes (set_cells first n unset)
declaring s q first n (I.One e) = giving_to s q (set_cell first) e
declaring s q first n (I.Many es) = all_pass (filling s q first n es)

-- ---- statements (6.8)

abbrev pub condition : Inside → Expr → Step → Step → Step
condition s e f g = branch (meant_in s e).value f g

-- a missing condition is 1, so the second part is unreached (6.8.5.3)
abbrev pub condition_if : Inside → Option Expr → Step → Step → Step
condition_if s None f g state = either (f state) (g (unreached_state state.used))
condition_if s (Some e) f g state = condition s e f g state

abbrev pub returning : Inside → ℕ → Option Expr → Step
returning s q None = ends Returns
returning s q (Some e) = seq (giving_to s q (write_if s.result) e) (ends Returns)

abbrev pub loop : Inside → Step → Step
loop s = looped s.widening s.ground.unroll

abbrev pub pass_step : Inside → Stmt-F Step → Step
pass_step s (Stmt-F.Declare p first n value) = at s.ground p (declaring s p.0 first (cell_count n) value)
pass_step s (Stmt-F.Expression p e) = at s.ground p (dropping s p.0 e)
pass_step s (Stmt-F.If p c ys ns) = at s.ground p (condition s c (all_pass ys) (all_pass ns))
pass_step s (Stmt-F.While p c bs) = loop s (at s.ground p (condition s c (all_pass bs) (ends Breaks)))
pass_step s (Stmt-F.DoWhile p bs c) =
    loop s (at s.ground p (seq (continuing (all_pass bs)) (condition s c (ends Next) (ends Breaks))))
pass_step s (Stmt-F.For hs p c bs us) =
    seq (all_pass hs)
    (loop s (at s.ground p (condition_if s c (seq (continuing (all_pass bs)) (all_pass us)) (ends Breaks))))
pass_step s (Stmt-F.Break p) = at s.ground p (ends Breaks)
pass_step s (Stmt-F.Continue p) = at s.ground p (ends Continues)
pass_step s (Stmt-F.Return p value) = at s.ground p (returning s p.0 value)
pass_step s (Stmt-F.Empty p) = at s.ground p (ends Next)
pass_step s (Stmt-F.Block ss) = all_pass ss
pass_step s (Stmt-F.Note note) = ends Next
pass_step s (Stmt-F.Clause p) = at s.ground p (ends Next)

abbrev pub pass : Inside → Stmt → Step
pass s = fold-Stmt Step (pass_step s)

abbrev pub pass_all : Inside → List Stmt → Step
pass_all s ss = all_pass (map (pass s) ss)

-- ---- functions (6.9.1)

-- the end of `main` is reached: its result is 0 (5.1.2.2.3). So is that of another function with a result: no run goes
-- on (this project's own)
abbrev pub at_end : Bool → Option ℕ → Step
at_end main None = ends Next
at_end true (Some r) = changes (set_cell r zero_value)
at_end false (Some r) = ends Stopped

-- an undefined function gives any number of its result's type
abbrev pub answering : Program → Option ℕ → Step
answering p None = ends Next
answering p (Some r) = changes (receive p r)

abbrev pub widening_of : Program → Fun → Widening
widening_of p f = record { thresholds = thresholds_of p f; shapes = shapes_of p; flags = flags_of p }

abbrev pub inside_of : Ground → (ℕ → Step) → Fun → Inside
inside_of g calls f =
    record { ground = g; calls = calls; widening = widening_of g.world.program f; result = f.result }

abbrev pub body : Ground → (ℕ → Step) → Fun → Option (List Stmt) → Step
body g calls f None = answering g.world.program f.result
body g calls f (Some ss) = closing (pass_all (inside_of g calls f) ss) (at_end (is_main f) f.result)

-- the state after the entry is that of which `\old` speaks at the exit
abbrev pub after_entry : Ground → (ℕ → Step) → Fun → State → Passed
after_entry g calls f entry =
    seq (body g calls f f.body) (arrive g f.exit.0 (Some entry) (ends Next)) entry

abbrev pub entry_passed : Ground → Fun → Step
entry_passed g f = arrive g f.entry.0 None (ends Next)

abbrev pub function : Ground → (ℕ → Step) → Fun → Step
function g calls f state =
    followed (entry_passed g f state) (after_entry g calls f (entry_passed g f state).next)

abbrev pub function_if : Ground → (ℕ → Step) → Option Fun → Step
function_if g calls None = ends Stopped
function_if g calls (Some f) = function g calls f

-- calls so deep
abbrev pub call_to : Ground → ℕ → ℕ → Step
call_to g zero n = ends Cut
call_to g (suc depth) n = function_if g (call_to g depth) (slice_get g.world.program.fns n)
