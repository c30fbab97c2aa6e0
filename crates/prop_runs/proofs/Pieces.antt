-- Where each visit of a run comes from: a piece at one point, at which the run arrived, so that it visits all
-- that is the point's own.
use Rattle.std.proofs.Common.{◌≡◌, inl, inr, ◌<◌, ◌+◌, ℕ, zero, suc, Bool, true, List, [], ◌∷◌, ◌++◌, length, slice_get, refl, ap, sym, subst, arith}
use Rattle.std.proofs.lemmas.Bool.{and_parts}
use Rattle.std.specs.List.{list_all}
use Rattle.c_ir.specs.Keeps.{Keeps}
use Rattle.c_ir.specs.declared.tree.PointClause.{PointClause}
use Rattle.c_runs.specs.Laws.{Arrives, Evaluates, Enters, Fits, IsArrival, HasArrival, Joins, Chained, Runs}
use Rattle.c_runs.specs.Parts.{Has}
use Rattle.c_runs.specs.Statements.{World, clauses_at, clause_visits, entry_clauses, is_met, point_visits, preconditions}
use Rattle.c_runs.specs.Truth.{holds}
use Rattle.c_runs.specs.Visits.{Cells, Visit, visit, Clause, Piece, Arrival, Between, visits_of, all_visits}
use Rattle.prop_table.proofs.Lists.{Each, each_append, each_more, From, from_all, from_here, from_next}
use Rattle.prop_runs.proofs.Placing.{evaluated, own_visits}
use Rattle.prop_runs.proofs.Standing.{has_left, has_right}
use Rattle.prop_runs.proofs.Operators.{OwnCheck}
use Rattle.prop_runs.proofs.Telling.{Tells, dead_tells, precondition_tells, check_tells, clause_tells}

-- ---- what each visit of a piece tells

abbrev piece_point : Piece → ℕ
piece_point (Arrival q c vs) = q
piece_point (Between q vs) = q

abbrev AllTell : World → ℕ → List Visit → Type 0
AllTell w q vs = Each (Tells w.program w.entry q) vs

clauses_tell : (w : World) (q k : ℕ) (entry now : Cells) (cs : List PointClause) → Keeps w.program
    → From (clauses_at w.program q) k cs → list_all (is_met w q entry now) cs ≡ true
    → AllTell w q (clause_visits q k entry now cs)
clauses_tell w q k entry now [] keeps from met = tt
clauses_tell w q k entry now (c ∷ cs) keeps from met =
    let all = clauses_at w.program q in
    let parts = and_parts _ _ met in (
      clause_tells w q k entry now c keeps (from_here all k c cs from) parts.0,
      clauses_tell w q (k + 1) entry now cs keeps (from_next all k c cs from) parts.1,
    )

arrival_tells : (w : World) (q : ℕ) (c : Cells) (vs : List Visit) → Keeps w.program → Arrives w q c vs
    → AllTell w q vs
arrival_tells w q c vs keeps h =
    let cs = clauses_at w.program q in
    subst (AllTell w q) (sym h.visits)
    (dead_tells w.program w.entry q, clauses_tell w q 0 h.entry c cs keeps (from_all cs) h.admits)

evaluation_tells : (w : World) (q : ℕ) (vs : List Visit) → Keeps w.program → Evaluates w q vs → AllTell w q vs
evaluation_tells w q vs keeps h =
    let p = w.program in
    let own = own_visits p h.placed w.overflow h.cells vs (evaluated p h.placed keeps h.is_there) h.visits in
    each_more (OwnCheck p q) (Tells p w.entry q) vs (λ v own. check_tells p w.entry q v keeps own)
    (subst (λ (r : ℕ). Each (OwnCheck p r) vs) h.at_point own)

preconditions_tell : (w : World) (q k : ℕ) (now : Cells) (cs : List PointClause)
    → AllTell w q (preconditions q k now cs)
preconditions_tell w q k now [] = tt
preconditions_tell w q k now (c ∷ cs) =
    (precondition_tells w.program w.entry q k (holds c.pred now now), preconditions_tell w q (k + 1) now cs)

call_tells : (w : World) (q : ℕ) (vs : List Visit) → Enters w q vs → AllTell w q vs
call_tells w q vs h =
    subst (AllTell w q) (sym h.visits)
    (preconditions_tell w q 0 h.cells (entry_clauses w.program (slice_get w.program.fns h.call.function)))

piece_tells : (w : World) (x : Piece) → Keeps w.program → Fits w x → AllTell w (piece_point x) (visits_of x)
piece_tells w (Arrival q c vs) keeps h = arrival_tells w q c vs keeps h
piece_tells w (Between q vs) keeps (inl h) = evaluation_tells w q vs keeps h
piece_tells w (Between q vs) keeps (inr h) = call_tells w q vs h

-- ---- arrivals

abbrev Inside : List Visit → List Visit → Type 0
Inside vs all = (v : Visit) → Has vs v → Has all v

-- the run visits all that is the point's own
pub record Shows (w : World) (all : List Visit) (q : ℕ) : Type 0 where
  pub entry : Cells
  pub now : Cells
  pub visits : (v : Visit) → Has (point_visits w.program q entry now) v → Has all v

pub record Source (w : World) (all : List Visit) (v : Visit) : Type 0 where
  pub point : ℕ
  pub tells : Tells w.program w.entry point v
  pub shows : Shows w all point

-- so it does at each point at which it arrived so far
abbrev AllShow : World → List Visit → List Piece → Type 0
AllShow w all seen = (q : ℕ) → HasArrival q seen → Shows w all q

arrival_shows : (w : World) (all : List Visit) (x : Piece) (q : ℕ) → Fits w x → Inside (visits_of x) all
    → IsArrival q x → Shows w all q
arrival_shows w all (Arrival r c vs) q h within is =
    subst (Shows w all) is (record {
      entry = h.entry;
      now = c;
      visits = λ v has. within v (subst (λ (us : List Visit). Has us v) (sym h.visits) has);
    })
arrival_shows w all (Between r vs) q h within is = absurd is

more_show : (w : World) (all : List Visit) (x : Piece) (seen : List Piece) → Fits w x
    → Inside (visits_of x) all → AllShow w all seen → AllShow w all (x ∷ seen)
more_show w all x seen h within show q (inl is) = arrival_shows w all x q h within is
more_show w all x seen h within show q (inr has) = show q has

-- the point of a piece
piece_shows : (w : World) (all : List Visit) (seen : List Piece) (x : Piece) → Fits w x → Joins w seen x
    → Inside (visits_of x) all → AllShow w all seen → Shows w all (piece_point x)
piece_shows w all seen (Arrival q c vs) h joins within show =
    arrival_shows w all (Arrival q c vs) q h within refl
piece_shows w all seen (Between q vs) h joins within show = show q joins

piece_sources : (w : World) (all : List Visit) (x : Piece) → Keeps w.program → Fits w x
    → Shows w all (piece_point x) → Each (Source w all) (visits_of x)
piece_sources w all x keeps h shows =
    each_more (Tells w.program w.entry (piece_point x)) (Source w all) (visits_of x)
    (λ v tells. record { point = piece_point x; tells = tells; shows = shows }) (piece_tells w x keeps h)

-- ---- runs

chain_sources : (w : World) (all : List Visit) (seen xs : List Piece) → Keeps w.program → Chained w seen xs
    → Inside (all_visits xs) all → AllShow w all seen → Each (Source w all) (all_visits xs)
chain_sources w all seen [] keeps chain within show = tt
chain_sources w all seen (x ∷ xs) keeps chain within show =
    let fit = chain.0.0 in
    let here : Inside (visits_of x) all = λ v has. within v (has_left (visits_of x) (all_visits xs) v has) in
    let rest : Inside (all_visits xs) all = λ v has. within v
    (has_right (visits_of x) (all_visits xs) v has) in
    each_append (Source w all) (visits_of x) (all_visits xs)
    (piece_sources w all x keeps fit (piece_shows w all seen x fit chain.0.1 here show))
    (chain_sources w all (x ∷ seen) xs keeps chain.1 rest (more_show w all x seen fit here show))

pub run_sources : (w : World) (xs : List Piece) → Keeps w.program → Runs w xs
    → Each (Source w (all_visits xs)) (all_visits xs)
run_sources w [] keeps runs = tt
run_sources w (Between q vs ∷ xs) keeps runs = absurd runs
run_sources w (Arrival q c vs ∷ xs) keeps runs =
    let x = Arrival q c vs in
    let all = vs ++ all_visits xs in
    let here : Inside vs all = λ v has. has_left vs (all_visits xs) v has in
    let rest : Inside (all_visits xs) all = λ v has. has_right vs (all_visits xs) v has in
    let none : AllShow w all [] = λ q has. absurd has in
    each_append (Source w all) vs (all_visits xs)
    (piece_sources w all x keeps runs.0 (arrival_shows w all x q runs.0 here refl))
    (chain_sources w all (x ∷ []) xs keeps runs.1 rest (more_show w all x [] runs.0 here none))

-- ---- clauses of a point

clause_among : (q j k : ℕ) (entry now : Cells) (cs : List PointClause) → k < length cs
    → (b : Bool) × Has (clause_visits q j entry now cs) (visit (Clause q (j + k)) b)
clause_among q j k entry now [] less = absurd (omega arith)
clause_among q j zero entry now (c ∷ cs) less =
    let e : j ≡ j + 0 = omega arith in
    (holds c.pred now entry, inl (ap (λ (n : ℕ). visit (Clause q n) (holds c.pred now entry)) e))
clause_among q j (suc k) entry now (c ∷ cs) less =
    let h = clause_among q (j + 1) k entry now cs (omega (arith, less)) in
    let e : (j + 1) + k ≡ j + suc k = omega arith in
    (h.0, inr (subst (λ (n : ℕ). Has (clause_visits q (j + 1) entry now cs) (visit (Clause q n) h.0)) e h.1))

-- each clause of a point that the run shows is visited
pub clause_shown : (w : World) (all : List Visit) (q k : ℕ) → Shows w all q
    → k < length (clauses_at w.program q) → (b : Bool) × Has all (visit (Clause q k) b)
clause_shown w all q k h less =
    let c = clause_among q 0 k h.entry h.now (clauses_at w.program q) less in
    let e : 0 + k ≡ k = omega arith in (
      c.0,
      subst (λ (n : ℕ). Has all (visit (Clause q n) c.0)) e (h.visits (visit (Clause q (0 + k)) c.0) (inr c.1)),
    )
