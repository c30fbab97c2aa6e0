-- How much work the analysis of a program is (this project's own): a bound that is counted before it begins.
use Rattle.std.specs.Prelude.{ℕ, zero, suc, ◌+◌, ◌*◌, ◌^◌, min, ℤ, List, [], ◌∷◌, length, map, slice_get, Option, Some, None}
use Rattle.param_book.specs.Table.{entry_function}
use Rattle.c_ir.specs.Calls.{calls_if, calls_of, calls_of_init}
use Rattle.c_ir.specs.Programs.{Program}
use Rattle.c_ir.specs.declared.tree.Fun.{Fun}
use Rattle.c_ir.specs.declared.tree.Stmt.{Stmt, fold-Stmt}
use Rattle.c_ir.specs.declared.tree.Stmt.TheOpen.{Stmt-F}
use Rattle.c_runs.specs.Programs.{entry_number}
use Rattle.eva_rules.specs.Entries.{unrolls}

abbrev pub sum_of : List ℕ → ℕ
sum_of [] = 0
sum_of (n ∷ ns) = n + sum_of ns

-- the bodies of the functions that are called
abbrev pub bodies_of : (ℕ → ℕ) → List ℕ → ℕ
bodies_of calls [] = 0
bodies_of calls (g ∷ gs) = calls g + bodies_of calls gs

-- a loop with so many turns one by one, of which a turn is so much
abbrev pub loop_work : ℕ → ℕ → ℕ
loop_work unroll body = 1 + (15 + unroll) * (1 + body)

-- a simple statement, the clause of a note or a declarator is 1, and the body of a function that it calls more
abbrev pub work_step : ℕ → (ℕ → ℕ) → Stmt-F ℕ → ℕ
work_step unroll calls (Stmt-F.Declare p f n value) = 1 + bodies_of calls (calls_of_init value)
work_step unroll calls (Stmt-F.Expression p e) = 1 + bodies_of calls (calls_of e)
work_step unroll calls (Stmt-F.If p c ys ns) = 1 + (sum_of ys + sum_of ns)
work_step unroll calls (Stmt-F.While p c bs) = loop_work unroll (sum_of bs)
work_step unroll calls (Stmt-F.DoWhile p bs c) = loop_work unroll (sum_of bs)
work_step unroll calls (Stmt-F.For hs p c bs us) = sum_of hs + loop_work unroll (sum_of bs + sum_of us)
work_step unroll calls (Stmt-F.Break p) = 1
work_step unroll calls (Stmt-F.Continue p) = 1
work_step unroll calls (Stmt-F.Return p value) = 1 + bodies_of calls (calls_if value)
work_step unroll calls (Stmt-F.Empty p) = 1
work_step unroll calls (Stmt-F.Block ss) = sum_of ss
work_step unroll calls (Stmt-F.Note note) = 0
work_step unroll calls (Stmt-F.Clause p) = 1

abbrev pub work_of_stmt : ℕ → (ℕ → ℕ) → Stmt → ℕ
work_of_stmt unroll calls = fold-Stmt ℕ (work_step unroll calls)

abbrev pub work_of_stmts : ℕ → (ℕ → ℕ) → List Stmt → ℕ
work_of_stmts unroll calls ss = sum_of (map (work_of_stmt unroll calls) ss)

-- a function that isn't defined has no body
abbrev pub work_of_body : ℕ → (ℕ → ℕ) → Option (List Stmt) → ℕ
work_of_body unroll calls None = 0
work_of_body unroll calls (Some ss) = work_of_stmts unroll calls ss

abbrev pub work_of_function : ℕ → (ℕ → ℕ) → Option Fun → ℕ
work_of_function unroll calls None = 0
work_of_function unroll calls (Some f) = work_of_body unroll calls f.body

-- with calls so deep
abbrev pub work_to : Program → ℕ → ℕ → ℕ → ℕ
work_to p unroll zero g = 0
work_to p unroll (suc depth) g = work_of_function unroll (work_to p unroll depth) (slice_get p.fns g)

-- calls end, so no call is deeper than there are functions
unfoldable pub work_of : Program → List ℤ → ℕ
work_of p values = work_to p (unrolls values) (length p.fns) (entry_number p (entry_function values))

-- a count over 2^62 stands as 2^62
abbrev pub most_work : ℕ
most_work = 2 ^ 62

unfoldable pub counted_work : Program → List ℤ → ℕ
counted_work p values = min (work_of p values) most_work
