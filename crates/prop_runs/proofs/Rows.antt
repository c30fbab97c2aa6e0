-- Each property that a run visits is in the table, by the law of pieces.
use Rattle.std.proofs.Common.{◌≡◌, inl, inr, ◌<◌, ◌≤◌, ◌+◌, ℕ, true, List, [], ◌∷◌, length, nat_lt, Some, slice_get, sym, subst, arith}
use Rattle.std.proofs.lemmas.Option.{slice_get_within}
use Rattle.c_ir.specs.Keeps.{Keeps}
use Rattle.c_ir.specs.Programs.{Program}
use Rattle.c_ir.specs.declared.prop.Prop.{Prop}
use Rattle.c_ir.specs.declared.tree.PointClause.{PointClause}
use Rattle.c_runs.specs.Laws.{Arrives, Evaluates, Enters, Fits, HasArrival, Chained, Runs, RunsAreChained}
use Rattle.c_runs.specs.Programs.{world_of, run_of, visits_of_run}
use Rattle.c_runs.specs.Statements.{World, clauses_at, clause_visits, entry_clauses, preconditions}
use Rattle.c_runs.specs.Visits.{Cells, Visit, Precondition, Piece, Arrival, Between, all_visits}
use Rattle.prop_table.specs.Rows.{rows_of}
use Rattle.prop_table.proofs.Lists.{Each, each_append, each_more, From, from_all, from_here, from_next}
use Rattle.prop_runs.specs.Laws.{VisitsAreRows}
use Rattle.prop_runs.specs.Numbers.{number_of, runs_of}
use Rattle.prop_runs.proofs.Existing.{precondition_exists}
use Rattle.prop_runs.proofs.Claimed.{Exists, dead_exists, clause_exists, check_exists}
use Rattle.prop_runs.proofs.Meeting.{met}
use Rattle.prop_runs.proofs.Placing.{evaluated, own_visits}
use Rattle.prop_runs.proofs.Standing.{each_has}
use Rattle.prop_runs.proofs.Operators.{OwnCheck}

-- what the visit names has a property
abbrev pub IsThere : Program → Visit → Type 0
IsThere p v = Exists p v.named

abbrev AllThere : World → List Visit → Type 0
AllThere w vs = Each (IsThere w.program) vs

-- ---- pieces at a point of the program

clauses_there : (w : World) (q k : ℕ) (entry now : Cells) (cs : List PointClause) → Keeps w.program
    → q < length w.program.points → From (clauses_at w.program q) k cs
    → AllThere w (clause_visits q k entry now cs)
clauses_there w q k entry now [] keeps less from = tt
clauses_there w q k entry now (c ∷ cs) keeps less from =
    let all = clauses_at w.program q in (
      clause_exists w.program q k c keeps less (from_here all k c cs from),
      clauses_there w q (k + 1) entry now cs keeps less (from_next all k c cs from),
    )

arrival_there : (w : World) (q : ℕ) (c : Cells) (vs : List Visit) → Keeps w.program
    → q < length w.program.points → Arrives w q c vs → AllThere w vs
arrival_there w q c vs keeps less h =
    let cs = clauses_at w.program q in
    subst (AllThere w) (sym h.visits)
    (dead_exists w.program q keeps less, clauses_there w q 0 h.entry c cs keeps less (from_all cs))

checks_there : (w : World) (q : ℕ) (vs : List Visit) → Keeps w.program → q < length w.program.points
    → Evaluates w q vs → AllThere w vs
checks_there w q vs keeps less h =
    let p = w.program in
    let own = own_visits p h.placed w.overflow h.cells vs (evaluated p h.placed keeps h.is_there) h.visits in
    each_more (OwnCheck p q) (IsThere p) vs (λ v own. check_exists p q v keeps less own)
    (subst (λ (r : ℕ). Each (OwnCheck p r) vs) h.at_point own)

preconditions_there : (w : World) (q k : ℕ) (now : Cells) (cs : List PointClause) (n : ℕ) → k + length cs ≤ n
    → ((j : ℕ) → j < n → Exists w.program (Precondition q j)) → AllThere w (preconditions q k now cs)
preconditions_there w q k now [] n room h = tt
preconditions_there w q k now (c ∷ cs) n room h =
    (h k (omega (arith, room)), preconditions_there w q (k + 1) now cs n (omega (arith, room)) h)

calls_there : (w : World) (q : ℕ) (vs : List Visit) → Keeps w.program → q < length w.program.points
    → Enters w q vs → AllThere w vs
calls_there w q vs keeps less h =
    let cs = entry_clauses w.program (slice_get w.program.fns h.call.function) in
    subst (AllThere w) (sym h.visits)
    (preconditions_there w q 0 h.cells cs (length cs) (omega arith)
    (λ j few. precondition_exists w q j vs keeps less h few))

-- ---- runs

-- each point at which the run arrived so far is the program's
abbrev AllPoints : World → List Piece → Type 0
AllPoints w seen = (q : ℕ) → HasArrival q seen → q < length w.program.points

more_points : (w : World) (q : ℕ) (c : Cells) (vs : List Visit) (seen : List Piece)
    → q < length w.program.points → AllPoints w seen → AllPoints w (Arrival q c vs ∷ seen)
more_points w q c vs seen less all r (inl is) = subst (λ (x : ℕ). x < length w.program.points) is less
more_points w q c vs seen less all r (inr has) = all r has

between_points : (w : World) (q : ℕ) (vs : List Visit) (seen : List Piece) → AllPoints w seen
    → AllPoints w (Between q vs ∷ seen)
between_points w q vs seen all r (inl is) = absurd is
between_points w q vs seen all r (inr has) = all r has

between_there : (w : World) (q : ℕ) (vs : List Visit) → Keeps w.program → q < length w.program.points
    → Fits w (Between q vs) → AllThere w vs
between_there w q vs keeps less (inl h) = checks_there w q vs keeps less h
between_there w q vs keeps less (inr h) = calls_there w q vs keeps less h

chain_there : (w : World) (seen xs : List Piece) → Keeps w.program → Chained w seen xs → AllPoints w seen
    → AllThere w (all_visits xs)
chain_there w seen [] keeps chain all = tt
chain_there w seen (Arrival q c vs ∷ xs) keeps chain all =
    each_append (IsThere w.program) vs (all_visits xs) (arrival_there w q c vs keeps chain.0.0.is_point chain.0.0)
    (chain_there w (Arrival q c vs ∷ seen) xs keeps chain.1 (more_points w q c vs seen chain.0.0.is_point all))
chain_there w seen (Between q vs ∷ xs) keeps chain all =
    each_append (IsThere w.program) vs (all_visits xs)
    (between_there w q vs keeps (all q chain.0.1) chain.0.0)
    (chain_there w (Between q vs ∷ seen) xs keeps chain.1 (between_points w q vs seen all))

run_there : (w : World) (xs : List Piece) → Keeps w.program → Runs w xs
    → AllThere w (all_visits xs)
run_there w [] keeps runs = tt
run_there w (Between q vs ∷ xs) keeps runs = absurd runs
run_there w (Arrival q c vs ∷ xs) keeps runs =
    each_append (IsThere w.program) vs (all_visits xs) (arrival_there w q c vs keeps runs.0.is_point runs.0)
    (chain_there w (Arrival q c vs ∷ []) xs keeps runs.1
    (more_points w q c vs [] runs.0.is_point (λ r has. absurd has)))

less_is : (a b : ℕ) → a < b → nat_lt a b ≡ true
less_is a b h = grind arith

row_number : (rows : List Prop) (n m : ℕ) (row : Prop) → slice_get rows n ≡ Some row → n ≡ m
    → nat_lt m (length rows) ≡ true
row_number rows n m row is same =
    less_is m (length rows) (subst (λ (k : ℕ). k < length rows) same (slice_get_within rows n row is))

-- each property that is visited has a row
pub are_rows : RunsAreChained → VisitsAreRows
unfolding runs_of
are_rows chained p keeps values input n m seen =
    let w = world_of p values in
    let there = run_there w (run_of p values input n) keeps (chained p keeps values input n) in
    let v = met (rows_of p) m (visits_of_run p values input n) seen in
    let row = each_has (IsThere p) (visits_of_run p values input n) v.visit there v.is_visit in
    row_number (rows_of p) (number_of (rows_of p) v.visit.named) m row.0 row.1 v.number
