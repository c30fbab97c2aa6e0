-- Where a run visits a precondition as false, the piece before visited an instance of it as false.
use Rattle.std.proofs.Common.{◌≡◌, ◌∙◌, inl, inr, ◌<◌, ◌+◌, ℕ, zero, suc, Bool, true, false, not, ◌||◌, List, [], ◌∷◌, ◌++◌, length, Some, slice_get, refl, ap, sym, subst, arith}
use Rattle.std.proofs.lemmas.Bool.{and_parts, true≢false}
use Rattle.std.proofs.lemmas.Option.{slice_get_within}
use Rattle.std.specs.List.{list_all}
use Rattle.c_ir.specs.Keeps.{Keeps}
use Rattle.c_ir.specs.Programs.{Program}
use Rattle.c_ir.specs.Table.{kind_admitted}
use Rattle.c_ir.specs.declared.kind.AlarmKind.{AlarmKind}
use Rattle.c_ir.specs.declared.kind.Kind.TheVariants as K
use Rattle.c_ir.specs.declared.tree.PointClause.{PointClause}
use Rattle.c_runs.specs.Laws.{Arrives, Evaluates, Fits, HasArrival, LastChecks, Joins, Chained, Runs, EntersAt, Admits, is_requires, has_requires}
use Rattle.c_runs.specs.Parts.{Has}
use Rattle.c_runs.specs.Statements.{World, admitted, clauses_at, clause_visits, entry_clauses, functions_of, is_met, owner_at, point_visits, preconditions}
use Rattle.c_runs.specs.Truth.{holds}
use Rattle.c_runs.specs.Visits.{Cells, Visit, visit, Dead, Clause, Check, Precondition, Piece, Arrival, Between, visits_of, all_visits}
use Rattle.prop_table.proofs.Lists.{some_is, not_some, Each, each_append, each_more, From, from_all, from_here, from_next}
use Rattle.prop_runs.proofs.Operators.{OwnCheck}
use Rattle.prop_runs.proofs.Placing.{evaluated, own_visits}
use Rattle.prop_runs.proofs.Standing.{has_left, has_right}

-- ---- what a false visit of a precondition comes with

-- the run visits an instance of clause k of point q as false
pub record Instance (w : World) (all : List Visit) (q k : ℕ) : Type 0 where
  pub point : ℕ
  pub is_point : point < length w.program.points
  pub visits : List Visit
  pub enters : EntersAt w q point visits
  pub few : k < length (clauses_at w.program q)
  pub is_visit : Has all (visit (Precondition point k) false)

pub record Backing (w : World) (all : List Visit) (q k : ℕ) : Type 0 where
  pub is_point : q < length w.program.points
  pub clause : PointClause
  pub is_clause : slice_get (clauses_at w.program q) k ≡ Some clause
  pub instance_of : clause.kind ≡ K.Requires → Instance w all q k

abbrev pub Backed : World → List Visit → Visit → Type 0
Backed w all v = (q k : ℕ) → v.named ≡ Clause q k → v.holds ≡ false → Backing w all q k

abbrev pub AllBacked : World → List Visit → List Visit → Type 0
AllBacked w all vs = Each (Backed w all) vs

clause_point : (q r k j : ℕ) → Clause q k ≡ Clause r j → q ≡ r
clause_point q r k j is = cc

clause_place : (q r k j : ℕ) → Clause q k ≡ Clause r j → k ≡ j
clause_place q r k j is = cc

dead_clause : (q r j : ℕ) → Dead q ≡ Clause r j → ⊥
dead_clause q r j is = cc

check_clause : (n : ℕ) (a : AlarmKind) (r j : ℕ) → Check n a ≡ Clause r j → ⊥
check_clause n a r j is = cc

precondition_clause : (q k r j : ℕ) → Precondition q k ≡ Clause r j → ⊥
precondition_clause q k r j is = cc

-- ---- visits of an arrival

-- each clause of the point comes with what it must
abbrev Backs : World → List Visit → ℕ → Cells → Cells → Type 0
Backs w all q entry now =
    (k : ℕ) (c : PointClause) → slice_get (clauses_at w.program q) k ≡ Some c → holds c.pred now entry ≡ false
    → Backing w all q k

clauses_backed : (w : World) (all : List Visit) (q k : ℕ) (entry now : Cells) (cs : List PointClause)
    → From (clauses_at w.program q) k cs → Backs w all q entry now
    → AllBacked w all (clause_visits q k entry now cs)
clauses_backed w all q k entry now [] from backs = tt
clauses_backed w all q k entry now (c ∷ cs) from backs =
    let here = backs k c (from_here (clauses_at w.program q) k c cs from) in (
      λ r j named fails.
          subst (λ (s : ℕ). Backing w all s j) (clause_point q r k j named)
          (subst (λ (i : ℕ). Backing w all q i) (clause_place q r k j named) (here fails)),
      clauses_backed w all q (k + 1) entry now cs (from_next (clauses_at w.program q) k c cs from) backs,
    )

point_backed : (w : World) (all : List Visit) (q : ℕ) (entry now : Cells) → Backs w all q entry now
    → AllBacked w all (point_visits w.program q entry now)
point_backed w all q entry now backs =
    let cs = clauses_at w.program q in (
      λ r j named fails. absurd (dead_clause q r j named),
      clauses_backed w all q 0 entry now cs
          (from_all cs) backs,
    )

or_first : (a b : Bool) → a ≡ true → (a || b) ≡ true
or_first true b is = refl
or_first false b is = absurd (true≢false (sym is))

or_second : (a b : Bool) → (a || b) ≡ false → b ≡ false
or_second true b is = absurd (true≢false is)
or_second false b is = is

-- a point without preconditions
none_required : (cs : List PointClause) (k : ℕ) (c : PointClause) → has_requires cs ≡ false → slice_get cs k
    ≡ Some c
    → c.kind ≡ K.Requires → ⊥
none_required [] k c none is kind = not_some c is
none_required (x ∷ cs) zero c none is kind =
    let same : x ≡ c = some_is x c is in
    let requires : is_requires x.kind
    ≡ true = ap is_requires (ap (λ (d : PointClause). d.kind) same ∙ kind) in
    true≢false (sym (or_first (is_requires x.kind) (has_requires cs) requires) ∙ none)
none_required (x ∷ cs) (suc k) c none is kind =
    none_required cs k c (or_second (is_requires x.kind) (has_requires cs) none) is kind

free_backs : (w : World) (all : List Visit) (q : ℕ) (entry now : Cells) → q < length w.program.points
    → has_requires (clauses_at w.program q) ≡ false → Backs w all q entry now
free_backs w all q entry now less none k c is fails = record {
  is_point = less;
  clause = c;
  is_clause = is;
  instance_of = λ kind. absurd (none_required (clauses_at w.program q) k c none is kind);
}

-- the first arrival, whose preconditions are admitted
clause_met : (w : World) (q : ℕ) (entry now : Cells) (cs : List PointClause) (k : ℕ) (c : PointClause)
    → list_all (is_met w q entry now) cs ≡ true → slice_get cs k ≡ Some c → is_met w q entry now c ≡ true
clause_met w q entry now [] k c met is = absurd (not_some c is)
clause_met w q entry now (x ∷ cs) zero c met is =
    subst (λ (d : PointClause). is_met w q entry now d ≡ true) (some_is x c is) (and_parts _ _ met).0
clause_met w q entry now (x ∷ cs) (suc k) c met is = clause_met w q entry now cs k c (and_parts _ _ met).1 is

met_fails : (a b : Bool) → (not a || b) ≡ true → a ≡ true → b ≡ false → ⊥
met_fails true b met is fails = true≢false (sym met ∙ fails)
met_fails false b met is fails = true≢false (sym is)

first_backs : (w : World) (all : List Visit) (q : ℕ) (entry now : Cells) → q < length w.program.points
    → admitted w q entry now ≡ true → Admits w q → Backs w all q entry now
first_backs w all q entry now less met admits k c is fails = record {
  is_point = less;
  clause = c;
  is_clause = is;
  instance_of = λ kind. absurd
      (met_fails (kind_admitted (functions_of w.program) w.entry (owner_at w.program q) c.kind)
      (holds c.pred now entry)
      (clause_met w q entry now (clauses_at w.program q) k c met is)
      (ap (kind_admitted (functions_of w.program) w.entry (owner_at w.program q)) kind ∙ admits) fails);
}

-- ---- an arrival by a call

instance_among : (r j k : ℕ) (c : Cells) (cs : List PointClause) (d : PointClause) → slice_get cs k ≡ Some d
    → Has (preconditions r j c cs) (visit (Precondition r (j + k)) (holds d.pred c c))
instance_among r j k c [] d is = absurd (not_some d is)
instance_among r j zero c (x ∷ cs) d is =
    let e : j ≡ j + 0 = omega arith in
    subst (λ (y : PointClause). Has (preconditions r j c (x ∷ cs))
    (visit (Precondition r (j + 0)) (holds y.pred c c)))
    (some_is x d is) (inl (ap (λ (n : ℕ). visit (Precondition r n) (holds x.pred c c)) e))
instance_among r j (suc k) c (x ∷ cs) d is =
    let e : (j + 1) + k ≡ j + suc k = omega arith in
    inr (subst (λ (n : ℕ). Has (preconditions r (j + 1) c cs) (visit (Precondition r n) (holds d.pred c c))) e
    (instance_among r (j + 1) k c cs d is))

abbrev Inside : List Visit → List Visit → Type 0
Inside vs all = (v : Visit) → Has vs v → Has all v

-- the newest piece is of the run, and all points at which the run arrived are the program's
abbrev LastInside : List Visit → List Piece → Type 0
LastInside all [] = Unit {0}
LastInside all (x ∷ xs) = Inside (visits_of x) all

abbrev PointsBefore : World → List Piece → Type 0
PointsBefore w [] = Unit {0}
PointsBefore w (Arrival q c vs ∷ xs) = Unit {0}
PointsBefore w (Between q vs ∷ xs) = q < length w.program.points

call_backs : (w : World) (all : List Visit) (q : ℕ) (c : Cells) (seen : List Piece)
    → q < length w.program.points
    → LastChecks w q c seen → LastInside all seen → PointsBefore w seen → Backs w all q c c
call_backs w all q c [] less checks within before k d is fails = absurd checks
call_backs w all q c (Arrival r e vs ∷ xs) less checks within before k d is fails = absurd checks
call_backs w all q c (Between r vs ∷ xs) less checks within before k d is fails =
    let cs = clauses_at w.program q in
    let e : 0 + k ≡ k = omega arith in
    let has = subst (λ (n : ℕ). Has (preconditions r 0 c cs) (visit (Precondition r n) (holds d.pred c c))) e
    (instance_among r 0 k c cs d is) in
    let false_one = subst
    (λ (b : Bool). Has (preconditions r 0 c cs) (visit (Precondition r k) b)) fails has in
    record {
      is_point = less;
      clause = d;
      is_clause = is;
      instance_of = λ kind. record {
        point = r;
        is_point = before;
        visits = vs;
        enters = checks.1;
        few = slice_get_within cs k d is;
        is_visit = within (visit (Precondition r k) false)
            (subst (λ (us : List Visit). Has us (visit (Precondition r k) false)) (sym checks.0) false_one);
      };
    }

-- ---- pieces

arrival_backed : (w : World) (all : List Visit) (seen : List Piece) (q : ℕ) (c : Cells) (vs : List Visit)
    → Arrives w q c vs → Joins w seen (Arrival q c vs) → LastInside all seen
    → PointsBefore w seen → AllBacked w all vs
arrival_backed w all seen q c vs h (inl none) within before =
    subst (AllBacked w all) (sym h.visits)
    (point_backed w all q h.entry c (free_backs w all q h.entry c h.is_point none))
arrival_backed w all seen q c vs h (inr called) within before =
    subst (AllBacked w all) (sym called.1)
    (point_backed w all q c c (call_backs w all q c seen h.is_point called.0 within before))

own_backed : (w : World) (all : List Visit) (p : Program) (q : ℕ) (v : Visit) → OwnCheck p q v
    → Backed w all v
own_backed w all p q v own r j named fails =
    absurd (check_clause own.site own.alarm r j (sym own.is ∙ named))

evaluation_backed : (w : World) (all : List Visit) (q : ℕ) (vs : List Visit) → Keeps w.program
    → Evaluates w q vs
    → AllBacked w all vs
evaluation_backed w all q vs keeps h =
    let p = w.program in
    each_more (OwnCheck p h.placed.point) (Backed w all) vs (own_backed w all p h.placed.point)
    (own_visits p h.placed w.overflow h.cells vs (evaluated p h.placed keeps h.is_there) h.visits)

preconditions_backed : (w : World) (all : List Visit) (q k : ℕ) (now : Cells) (cs : List PointClause)
    → AllBacked w all (preconditions q k now cs)
preconditions_backed w all q k now [] = tt
preconditions_backed w all q k now (c ∷ cs) = (
  λ r j named fails. absurd (precondition_clause q k r j named),
  preconditions_backed w all q
      (k + 1) now cs,
)

between_backed : (w : World) (all : List Visit) (q : ℕ) (vs : List Visit) → Keeps w.program
    → Fits w (Between q vs) → AllBacked w all vs
between_backed w all q vs keeps (inl h) = evaluation_backed w all q vs keeps h
between_backed w all q vs keeps (inr h) =
    subst (AllBacked w all) (sym h.visits)
    (preconditions_backed w all q 0 h.cells
    (entry_clauses w.program (slice_get w.program.fns h.call.function)))

-- ---- runs

abbrev AllPoints : World → List Piece → Type 0
AllPoints w seen = (q : ℕ) → HasArrival q seen → q < length w.program.points

more_points : (w : World) (q : ℕ) (c : Cells) (vs : List Visit) (seen : List Piece)
    → q < length w.program.points
    → AllPoints w seen → AllPoints w (Arrival q c vs ∷ seen)
more_points w q c vs seen less points r (inl is) = subst (λ (x : ℕ). x < length w.program.points) is less
more_points w q c vs seen less points r (inr has) = points r has

between_points : (w : World) (q : ℕ) (vs : List Visit) (seen : List Piece) → AllPoints w seen
    → AllPoints w (Between q vs ∷ seen)
between_points w q vs seen points r (inl is) = absurd is
between_points w q vs seen points r (inr has) = points r has

chain_backed : (w : World) (all : List Visit) (seen xs : List Piece) → Keeps w.program → Chained w seen xs
    → Inside (all_visits xs) all → LastInside all seen → PointsBefore w seen → AllPoints w seen
    → AllBacked w all (all_visits xs)
chain_backed w all seen [] keeps chain within last before points = tt
chain_backed w all seen (Arrival q c vs ∷ xs) keeps chain within last before points =
    let h = chain.0.0 in
    let here : Inside vs all = λ v has. within v (has_left vs (all_visits xs) v has) in
    let rest : Inside (all_visits xs) all = λ v has. within v (has_right vs (all_visits xs) v has) in
    each_append (Backed w all) vs (all_visits xs)
    (arrival_backed w all seen q c vs h chain.0.1 last before)
    (chain_backed w all (Arrival q c vs ∷ seen) xs keeps chain.1 rest here tt
    (more_points w q c vs seen h.is_point points))
chain_backed w all seen (Between q vs ∷ xs) keeps chain within last before points =
    let here : Inside vs all = λ v has. within v (has_left vs (all_visits xs) v has) in
    let rest : Inside (all_visits xs) all = λ v has. within v (has_right vs (all_visits xs) v has) in
    each_append (Backed w all) vs (all_visits xs) (between_backed w all q vs keeps chain.0.0)
    (chain_backed w all (Between q vs ∷ seen) xs keeps chain.1 rest here (points q chain.0.1)
    (between_points w q vs seen points))

pub run_backed : (w : World) (xs : List Piece) → Keeps w.program → Runs w xs
    → AllBacked w (all_visits xs) (all_visits xs)
run_backed w [] keeps runs = tt
run_backed w (Between q vs ∷ xs) keeps runs = absurd runs
run_backed w (Arrival q c vs ∷ xs) keeps runs =
    let all = vs ++ all_visits xs in
    let h = runs.0 in
    let here : Inside vs all = λ v has. has_left vs (all_visits xs) v has in
    let rest : Inside (all_visits xs) all = λ v has. has_right vs (all_visits xs) v has in
    let none : AllPoints w [] = λ r has. absurd has in
    each_append (Backed w all) vs (all_visits xs)
    (subst (AllBacked w all) (sym h.visits)
    (point_backed w all q h.entry c (first_backs w all q h.entry c h.is_point h.admits runs.2)))
    (chain_backed w all (Arrival q c vs ∷ []) xs keeps runs.1 rest here tt
    (more_points w q c vs [] h.is_point none))
