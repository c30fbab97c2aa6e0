-- The runs of statements and of functions (C11 6.5.2.2, 6.7.9, 6.8): each statement arrives at its point first.
use Rattle.std.specs.Prelude.{ℕ, zero, suc, ◌+◌, ◌==◌, ℤ, pos, nat_lt, nat_le, Bool, true, false, not, ◌&&◌, ◌||◌, if◌then◌else◌, List, [], ◌∷◌, map, slice_get, Option, Some, None, is_some, bytes_eq, codes}
use Rattle.std.specs.Option.{option_map, option_and_then}
use Rattle.std.specs.List.{list_all}
use Rattle.fc_base.specs.declared.ids.PointId.{PointId}
use Rattle.c_ir.specs.Bodies.{cell_count}
use Rattle.c_ir.specs.Keeps.{ty_at}
use Rattle.c_ir.specs.Programs.{Program}
use Rattle.c_ir.specs.Props.{Props}
use Rattle.c_ir.specs.Table.{kind_admitted}
use Rattle.c_ir.specs.declared.tree.CellInfo.{CellInfo}
use Rattle.c_ir.specs.declared.tree.Expr.{Expr}
use Rattle.c_ir.specs.declared.tree.Fun.{Fun}
use Rattle.c_ir.specs.declared.tree.Init.{Init}
use Rattle.c_ir.specs.declared.tree.Init.TheVariants as I
use Rattle.c_ir.specs.declared.tree.PointClause.{PointClause}
use Rattle.c_ir.specs.declared.tree.PointInfo.{PointInfo}
use Rattle.c_ir.specs.declared.tree.Stmt.{Stmt, fold-Stmt}
use Rattle.c_ir.specs.declared.tree.Stmt.TheOpen.{Stmt-F}
use Rattle.c_ir.specs.Formed.{on_some}
use Rattle.c_rules.specs.Constants.{converted}
use Rattle.c_runs.specs.Visits.{Cells, Visit, visit, Dead, Clause, Precondition}
use Rattle.c_runs.specs.Evaluation.{Evaluation, Calling, Assigning, Meaning, meaning}
use Rattle.c_runs.specs.Truth.{holds}
use Rattle.c_runs.specs.Runs.{Ending, Next, Breaks, Continues, Returns, Stopped, Cut, Out, Part, ends, changes, ended, goes_on, arriving, seq, all_run, between, evaluated, branch, taking, loop, continuing}

-- what the runs of a program are under
pub record World : Type 0 where
  pub program : Program
  -- the entry function's number, and whether signed overflow is checked
  pub entry : ℤ
  pub overflow : Bool

-- ---- cells

-- the cell has this from now on
abbrev pub set : ℕ → Option ℤ → Cells → Cells
set x v c y = if x == y then v else c y

-- the n cells from `first` on have it
abbrev pub set_all : ℕ → ℕ → Option ℤ → Cells → Cells
set_all first n v c y = if nat_le first y && nat_lt y (first + n) then v else c y

-- cells in order, with values in order
abbrev pub written : List ℕ → List ℤ → Cells → Cells
written [] zs c = c
written (x ∷ xs) [] c = c
written (x ∷ xs) (z ∷ zs) c = written xs zs (set x (Some z) c)

abbrev pub is_owned_by : ℕ → Option CellInfo → Bool
is_owned_by g None = false
is_owned_by g (Some info) = on_some (λ f. f.0 == g) info.owner

-- the cells of a function have no number
abbrev pub freed : Program → ℕ → Cells → Cells
freed p g c y = if is_owned_by g (slice_get p.cells y) then None else c y

-- ---- arrivals

-- a table with no property, which says of each function whether it is defined
abbrev pub functions_of : Program → Props
functions_of p = record { rows = []; defined = map (λ f. is_some f.body) p.fns }

abbrev pub clauses_in : Option PointInfo → List PointClause
clauses_in None = []
clauses_in (Some info) = info.clauses

abbrev pub clauses_at : Program → ℕ → List PointClause
clauses_at p q = clauses_in (slice_get p.points q)

abbrev pub owner_in : Option PointInfo → ℕ
owner_in None = 0
owner_in (Some info) = info.owner.0

abbrev pub owner_at : Program → ℕ → ℕ
owner_at p q = owner_in (slice_get p.points q)

-- the clause isn't admitted, or it holds
abbrev pub is_met : World → ℕ → Cells → Cells → PointClause → Bool
is_met w q entry now c = not (kind_admitted (functions_of w.program) w.entry (owner_at w.program q) c.kind) || holds c.pred now entry

-- each admitted clause of the point holds
abbrev pub admitted : World → ℕ → Cells → Cells → Bool
admitted w q entry now = list_all (is_met w q entry now) (clauses_at w.program q)

-- the clauses from place k on, each with its truth
abbrev pub clause_visits : ℕ → ℕ → Cells → Cells → List PointClause → List Visit
clause_visits q k entry now [] = []
clause_visits q k entry now (c ∷ cs) = visit (Clause q k) (holds c.pred now entry) ∷ clause_visits q (k + 1) entry now cs

-- that the run arrives is visited, as false of `dead`, and then each clause
abbrev pub point_visits : Program → ℕ → Cells → Cells → List Visit
point_visits p q entry now = visit (Dead q) false ∷ clause_visits q 0 entry now (clauses_at p q)

abbrev pub arrive : World → ℕ → Cells → Part → Part
arrive w q entry f = arriving q (admitted w q entry) (point_visits w.program q entry) f

-- at a point of a statement no clause speaks of the cells at the entry
abbrev pub at : World → PointId → Part → Part
at w p f n c i = arrive w p.0 c f n c i

-- ---- values

-- what the statements of a body are in: the runs of the functions that they call, and the function's result cell
pub record Inside : Type 0 where
  pub world : World
  pub calls : ℕ → Part
  pub result : Option ℕ

abbrev pub store : Option ℕ → Option ℤ → Cells → Cells
store None v c = c
store (Some x) v c = set x v c

-- ---- calls (6.5.2.2)

-- the preconditions of a callee: the clauses at its entry, from place k on
abbrev pub preconditions : ℕ → ℕ → Cells → List PointClause → List Visit
preconditions q k now [] = []
preconditions q k now (c ∷ cs) = visit (Precondition q k) (holds c.pred now now) ∷ preconditions q (k + 1) now cs

abbrev pub formals_in : Option Fun → List ℕ
formals_in None = []
formals_in (Some f) = f.formals

abbrev pub entry_clauses : Program → Option Fun → List PointClause
entry_clauses p None = []
entry_clauses p (Some f) = clauses_at p f.entry.0

abbrev pub result_in : Option Fun → Option ℕ
result_in None = None
result_in (Some f) = f.result

-- what the callee's result cell has, converted
abbrev pub result_of : Option Fun → (ℤ → ℤ) → Cells → Option ℤ
result_of f convert c = option_map convert (option_and_then c (result_in f))

-- the result is written, and then the callee's cells have no number
abbrev pub leaving : Program → ℕ → (ℤ → ℤ) → Option ℕ → Part
leaving p g convert to = changes (λ c. freed p g (store to (result_of (slice_get p.fns g) convert c) c))

-- the preconditions are visited, the function runs, and its result is written
abbrev pub calling : Inside → ℕ → ℕ → (ℤ → ℤ) → Option ℕ → Part
calling s q g convert to n c i =
    between q (preconditions q 0 c (entry_clauses s.world.program (slice_get s.world.program.fns g)))
    (seq (s.calls g) (leaving s.world.program g convert to)) n c i

-- with the formals written
abbrev pub entering : Inside → ℕ → Calling → Option ℕ → List ℤ → Part
entering s q k to zs n c i =
    calling s q k.function k.convert to n (written (formals_in (slice_get s.world.program.fns k.function)) zs c) i

-- the arguments from left to right
abbrev pub with_args : ℕ → List (Evaluation ℤ) → (List ℤ → Part) → Part
with_args q [] f = f []
with_args q (e ∷ es) f = evaluated q e (λ z. with_args q es (λ zs. f (z ∷ zs)))

-- ---- expressions

-- a value, which may be a call's, is written to a cell, or dropped
abbrev pub giving : Inside → ℕ → Evaluation ℤ → Option Calling → Option ℕ → Part
giving s q value None to = evaluated q value (λ z. changes (store to (Some z)))
giving s q value (Some k) to = with_args q k.args (entering s q k to)

-- an assignment evaluates first which cell is written to (6.5.16; the order is this project's own)
abbrev pub statement : Inside → ℕ → Evaluation ℤ → Option Calling → Option Assigning → Part
statement s q value call None = giving s q value call None
statement s q value call (Some a) = evaluated q a.target (λ x. giving s q a.value a.call (Some x))

abbrev pub meaning_in : Inside → Expr → Meaning
meaning_in s e = meaning s.world.overflow e

abbrev pub dropping : Inside → ℕ → Expr → Part
dropping s q e = statement s q (meaning_in s e).value (meaning_in s e).call (meaning_in s e).assign

abbrev pub giving_to : Inside → ℕ → Option ℕ → Expr → Part
giving_to s q to e = giving s q (meaning_in s e).value (meaning_in s e).call to

-- ---- declarations (6.7.9)

-- the values of a brace list go to the cells from x on, and 0 to those that are left
abbrev pub filling : Inside → ℕ → ℕ → ℕ → List Expr → Part
filling s q x left [] = changes (set_all x left (Some (pos 0)))
filling s q x zero (e ∷ es) = ends Next
filling s q x (suc left) (e ∷ es) = seq (giving_to s q (Some x) e) (filling s q (x + 1) left es)

-- without an initialiser the cells have no number
abbrev pub declaring : Inside → ℕ → ℕ → ℕ → Init → Part
declaring s q first n I.Nothing = changes (set_all first n None)
declaring s q first n (I.One e) = giving_to s q (Some first) e
declaring s q first n (I.Many es) = filling s q first n es

-- ---- statements (6.8)

abbrev pub condition : Inside → ℕ → Expr → Part → Part → Part
condition s q e f g = branch q (meaning_in s e).value f g

-- a missing condition is 1 (6.8.5.3)
abbrev pub condition_if : Inside → ℕ → Option Expr → Part → Part → Part
condition_if s q None f g = f
condition_if s q (Some e) f g = condition s q e f g

abbrev pub returning : Inside → ℕ → Option Expr → Part
returning s q None = ends Returns
returning s q (Some e) = seq (giving_to s q s.result e) (ends Returns)

abbrev pub run_step : Inside → Stmt-F Part → Part
run_step s (Stmt-F.Declare p first n value) = at s.world p (declaring s p.0 first (cell_count n) value)
run_step s (Stmt-F.Expression p e) = at s.world p (dropping s p.0 e)
run_step s (Stmt-F.If p c ys ns) = at s.world p (condition s p.0 c (all_run ys) (all_run ns))
run_step s (Stmt-F.While p c bs) = loop (at s.world p (condition s p.0 c (all_run bs) (ends Breaks)))
run_step s (Stmt-F.DoWhile p bs c) =
    loop (at s.world p (seq (continuing (all_run bs)) (condition s p.0 c (ends Next) (ends Breaks))))
run_step s (Stmt-F.For hs p c bs us) =
    seq (all_run hs) (loop (at s.world p (condition_if s p.0 c (seq (continuing (all_run bs)) (all_run us)) (ends Breaks))))
run_step s (Stmt-F.Break p) = at s.world p (ends Breaks)
run_step s (Stmt-F.Continue p) = at s.world p (ends Continues)
run_step s (Stmt-F.Return p value) = at s.world p (returning s p.0 value)
run_step s (Stmt-F.Empty p) = at s.world p (ends Next)
run_step s (Stmt-F.Block ss) = all_run ss
run_step s (Stmt-F.Note note) = ends Next
run_step s (Stmt-F.Clause p) = at s.world p (ends Next)

abbrev pub run : Inside → Stmt → Part
run s = fold-Stmt Part (run_step s)

abbrev pub run_all : Inside → List Stmt → Part
run_all s ss = all_run (map (run s) ss)

-- ---- functions (6.9.1)

-- the end of `main` is reached: its result is 0 (5.1.2.2.3). So is that of another function with a result: the run ends
-- (this project's own)
abbrev pub at_end : Bool → Option ℕ → Part
at_end main None = ends Next
at_end true (Some r) = changes (set r (Some (pos 0)))
at_end false (Some r) = ends Stopped

abbrev pub closed : Ending → Out → Part → Out
closed Next o f = goes_on o f
closed Breaks o f = ended Stopped o
closed Continues o f = ended Stopped o
closed Returns o f = ended Next o
closed Stopped o f = ended Stopped o
closed Cut o f = ended Cut o

-- a body, and then its end unless it returned
abbrev pub closing : Part → Part → Part
closing f g n c i = closed (f n c i).ending (f n c i) g

abbrev pub is_main : Fun → Bool
is_main f = bytes_eq f.name (codes "main")

-- a number of the input, converted to the cell's type, is written to it
abbrev pub receiving : Program → ℕ → Part
receiving p x = taking (λ z. changes (set x (Some (converted (ty_at p.cells x) z))))

-- an undefined function has its result from the input
abbrev pub answering : Program → Option ℕ → Part
answering p None = ends Next
answering p (Some r) = receiving p r

abbrev pub body : World → (ℕ → Part) → Fun → Option (List Stmt) → Part
body w calls f None = answering w.program f.result
body w calls f (Some ss) =
    closing (run_all (record { world = w; calls = calls; result = f.result }) ss) (at_end (is_main f) f.result)

-- from the entry to the exit; the cells at the entry are those that `\old` speaks of
abbrev pub function : World → (ℕ → Part) → Fun → Part
function w calls f n c i =
    seq (arrive w f.entry.0 c (ends Next)) (seq (body w calls f f.body) (arrive w f.exit.0 c (ends Next))) n c i

abbrev pub function_if : World → (ℕ → Part) → Option Fun → Part
function_if w calls None = ends Stopped
function_if w calls (Some f) = function w calls f

-- calls so deep
abbrev pub call_to : World → ℕ → ℕ → Part
call_to w zero g = ends Cut
call_to w (suc depth) g = function_if w (call_to w depth) (slice_get w.program.fns g)
