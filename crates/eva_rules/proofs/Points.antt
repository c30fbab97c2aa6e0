-- What an analysis does at a point is right of each run that arrives there.
use Rattle.std.proofs.Common.{◌≡◌, ◌∙◌, ◌+◌, ◌&&◌, ◌||◌, ℕ, zero, suc, ℤ, Bool, true, false, not, IsTrue, List, [], ◌∷◌, Option, Some, None, refl, sym, subst, inl}
use Rattle.std.specs.List.{list_all}
use Rattle.std.proofs.lemmas.Bool.{and_parts, false≢true}
use Rattle.int_interval.specs.declared.said.Said.{Said}
use Rattle.int_value.specs.Standing.{IsRight}
use Rattle.fc_base.specs.declared.ids.PointId.{PointId}
use Rattle.abs_cells.specs.Cells.{Env}
use Rattle.abs_cells.specs.Laws.{In}
use Rattle.abs_state.specs.declared.state.State.{State}
use Rattle.c_ir.specs.declared.kind.Kind.TheVariants as K
use Rattle.c_ir.specs.declared.tree.Pred.{Pred}
use Rattle.c_ir.specs.declared.tree.PointClause.{PointClause}
use Rattle.c_runs.specs.Visits.{Cells, Named, Dead, Clause, Precondition, Arrival, Visit, all_visits, visit}
use Rattle.c_runs.specs.Parts.{Typed}
use Rattle.c_runs.specs.Runs.{Ending, Out, Part}
use Rattle.c_runs.specs.Runs as runs
use Rattle.c_runs.specs.Statements.{admitted, clause_visits, clauses_at, is_met, point_visits, preconditions}
use Rattle.c_runs.specs.Statements as run_parts
use Rattle.c_runs.specs.Truth.{holds}
use Rattle.eva_terms.specs.Laws.{Fits}
use Rattle.eva_terms.specs.declared.answer.Truth.{Truth}
use Rattle.eva_terms.specs.declared.answer.Truth.TheVariants as T
use Rattle.eva_expr.specs.Conditions.{narrowed_by_pred, truth_in}
use Rattle.eva_expr.proofs.Keeping.{predicates_keep, truth_is_right}
use Rattle.eva_rules.specs.Passing.{Passed, Record, Step}
use Rattle.eva_rules.specs.Points.{Ground, Noted, admitted_by, admitting, arrive, assumed_if, assuming, clauses_noted, entry_or, is_admitted, is_assumed, is_maybe, point_noted, preconditions_noted, record_of, said_dead, said_if, said_in, said_of}
use Rattle.eva_rules.specs.Statements.{at}
use Rattle.eva_rules.proofs.Cover as cover
use Rattle.eva_rules.proofs.Passing.{front_good, good_from}
use Rattle.eva_rules.proofs.Sets.{all_right, clean_parts, within_new, within_rest}

-- ---- what is said

fits_right : (t : Truth) (b : Bool) → Fits t b → IsRight (said_of t) (b ≡ true)
fits_right T.Yes b h = h
fits_right T.No b h = λ is. false≢true (sym h ∙ is)
fits_right T.Maybe b h = tt

if_right : (e : Env) (said : Said) (c : Cells) (fact : Type 0) → In e c → IsRight said fact
    → IsRight (said_if e said) fact
if_right None said c fact all h = absurd all
if_right (Some cells) said c fact all h = h

said_right : (s entry : State) (p : Pred) (c before : Cells) → In s.env c → In entry.env before
    → IsRight (said_in s entry p) (holds p c before ≡ true)
said_right s entry p c before all first =
    if_right s.env (said_of (truth_in s entry p)) c (holds p c before ≡ true) all
    (fits_right (truth_in s entry p) (holds p c before) (truth_is_right p s entry c before all first))

dead_right : (e : Env) (c : Cells) → In e c → IsRight (said_dead e) (false ≡ true)
dead_right None c all = absurd all
dead_right (Some cells) c all = tt

narrowed_used : (entry s : State) (p : Pred) → (narrowed_by_pred true entry p s).used ≡ s.used
unfolding narrowed_by_pred
narrowed_used entry s p = refl

met_holds : (b h : Bool) → (not b || h) ≡ true → b ≡ true → h ≡ true
met_holds true h is a = is
met_holds false h is a = absurd (false≢true a)

module _ (g : Ground) (holding : ℕ → Bool) where
  abbrev Within : List ℕ → Type 0
  Within = cover.Within g.world.program g.number holding

  abbrev Clean : List Visit → Type 0
  Clean = cover.Clean g.world.program g.number holding

  abbrev AllCovered : List Record → List Visit → Type 0
  AllCovered = cover.AllCovered g.world.program g.number holding

  abbrev Covers : State → Cells → Type 0
  Covers = cover.Covers g.world.program g.number holding

  abbrev Reach : State → State → Cells → Type 0
  Reach = cover.Reach g.world.program g.number holding

  abbrev Good : State → Passed → Out → Type 0
  Good = cover.Good g.world.program g.number holding

  abbrev Sound : Part → Step → Type 0
  Sound = cover.Sound g.world.program g.number holding

  reach_on : (s t u : State) (c : Cells) → Reach s t c → Reach t u c → Reach s u c
  reach_on s t u c first second = λ w. let r = second w in ((first r.0).0, r.1)

  -- ---- cells at the entry

  -- what the second state of a clause stands for
  abbrev pub Sees : Option State → State → Cells → Cells → Type 0
  Sees None s before c = before ≡ c
  Sees (Some entry) s before c = Within s.used → In entry.env before

  sees_in : (entry : Option State) (s : State) (before c : Cells) → Sees entry s before c → Covers s c → Within s.used
      → In (entry_or entry s).env before
  sees_in None s before c sees covers w = subst (λ (d : Cells). In s.env d) (sym sees) (covers w)
  sees_in (Some entry) s before c sees covers w = sees w

  sees_on : (entry : Option State) (s t : State) (before c : Cells) → (Within t.used → Within s.used)
      → Sees entry s before c → Sees entry t before c
  sees_on None s t before c earlier sees = sees
  sees_on (Some entry) s t before c earlier sees = λ w. sees (earlier w)

  -- ---- one clause

  assumed_reach : (b : Bool) (named : Named) (entry : Option State) (p : Pred) (s : State) (before c : Cells)
      → Covers s c → Sees entry s before c → (IsTrue (holding (g.number named)) → holds p c before ≡ true)
      → Reach s (assumed_if b g named (entry_or entry s) p s) c
  assumed_reach true named entry p s before c covers sees true_if = λ w.
      let old = within_rest g.world.program g.number holding (g.number named) s.used w in
      let is = true_if (within_new g.world.program g.number holding (g.number named) s.used w) in (
        old,
        predicates_keep p true s (entry_or entry s) c before (covers old) (sees_in entry s before c sees covers old)
            is,
      )
  assumed_reach false named entry p s before c covers sees true_if = λ w. (w, covers w)

  -- ---- all clauses

  -- what was noted is right of the visits, and the state stands for the cells
  pub record NotedGood (s : State) (n : Noted) (vs : List Visit) (c : Cells) : Type 0 where
    pub covered : AllCovered n.records vs
    pub reach : Reach s n.state c

  note_good : (named : Named) (entry : Option State) (p : Pred) (s t : State) (n : Noted) (vs : List Visit)
      (before c : Cells) → Covers s c → Sees entry s before c → Reach s t c → NotedGood t n vs c
      → AllCovered (record_of named (said_in s (entry_or entry s) p) s ∷ n.records)
      (visit named (holds p c before) ∷ vs) × Reach s n.state c
  note_good named entry p s t n vs before c covers sees reach good =
      let r = record_of named (said_in s (entry_or entry s) p) s in (
        (
          inl (
            refl,
            λ w. said_right s (entry_or entry s) p c before (covers w)
                (sees_in entry s before c sees covers w),
          ),
          all_right g.world.program g.number holding (r ∷ []) n.records vs good.covered,
        ),
        reach_on s t n.state c reach good.reach,
      )

  clauses_good : (q k : ℕ) (entry : Option State) (cs : List PointClause) (s : State) (before c : Cells) → Covers s c
      → Sees entry s before c → Clean (clause_visits q k before c cs)
      → NotedGood s (clauses_noted g q k entry cs s) (clause_visits q k before c cs) c
  clauses_good q k entry [] s before c covers sees clean = record { covered = tt; reach = λ w. (w, covers w) }
  clauses_good q k entry (x ∷ cs) s before c covers sees clean =
      let named = Clause q k in
      let t = assuming g x.kind named (entry_or entry s) x.pred s in
      let b = is_maybe (said_in s (entry_or entry s) x.pred) && (g.assume && is_assumed x.kind) in
      let reach = assumed_reach b named entry x.pred s before c covers sees clean.0 in
      let rest = clauses_good q (k + 1) entry cs t before c (λ w. (reach w).1)
      (sees_on entry s t before c (λ w. (reach w).0) sees) clean.1 in
      let both = note_good named entry x.pred s t (clauses_noted g q (k + 1) entry cs t)
      (clause_visits q (k + 1) before c cs)
      before c covers sees reach rest in
      record { covered = both.0; reach = both.1 }

  pub preconditions_good : (q k : ℕ) (cs : List PointClause) (s : State) (c : Cells) → Covers s c
      → Clean (preconditions q k c cs) → NotedGood s (preconditions_noted g q k cs s) (preconditions q k c cs) c
  preconditions_good q k [] s c covers clean = record { covered = tt; reach = λ w. (w, covers w) }
  preconditions_good q k (x ∷ cs) s c covers clean =
      let named = Precondition q k in
      let t = assuming g K.CallRequires named s x.pred s in
      let b = is_maybe (said_in s s x.pred) && (g.assume && is_assumed K.CallRequires) in
      let reach = assumed_reach b named None x.pred s c c covers refl clean.0 in
      let rest = preconditions_good q (k + 1) cs t c (λ w. (reach w).1) clean.1 in
      let both = note_good named None x.pred s t (preconditions_noted g q (k + 1) cs t) (preconditions q (k + 1) c cs) c
      c
      covers refl reach rest in
      record { covered = both.0; reach = both.1 }

  -- ---- arrivals

  admitted_reach : (b : Bool) (entry : Option State) (p : Pred) (s : State) (before c : Cells) → Covers s c
      → Sees entry s before c → (b ≡ true → holds p c before ≡ true) → Reach s (admitted_by b (entry_or entry s) p s) c
  admitted_reach true entry p s before c covers sees is = λ w.
      let old = subst Within (narrowed_used (entry_or entry s) s p) w in (
        old,
        predicates_keep p true s (entry_or entry s) c before (covers old) (sees_in entry s before c sees covers old)
            (is refl),
      )
  admitted_reach false entry p s before c covers sees is = λ w. (w, covers w)

  admitting_reach : (q : ℕ) (entry : Option State) (cs : List PointClause) (s : State) (before c : Cells) → Covers s c
      → Sees entry s before c → list_all (is_met g.world q before c) cs ≡ true → Reach s (admitting g q entry cs s) c
  admitting_reach q entry [] s before c covers sees met = λ w. (w, covers w)
  admitting_reach q entry (x ∷ cs) s before c covers sees met =
      let parts = and_parts (is_met g.world q before c x) (list_all (is_met g.world q before c) cs) met in
      let b = is_admitted g q x in
      let t = admitted_by b (entry_or entry s) x.pred s in
      let reach = admitted_reach b entry x.pred s before c covers sees (met_holds b (holds x.pred c before) parts.0) in
      reach_on s t (admitting g q entry cs t) c reach
      (admitting_reach q entry cs t before c (λ w. (reach w).1) (sees_on entry s t before c (λ w. (reach w).0) sees)
      parts.1)

  point_good : (q : ℕ) (entry : Option State) (s : State) (before c : Cells) → Covers s c → Sees entry s before c
      → admitted g.world q before c ≡ true → Clean (point_visits g.world.program q before c)
      → NotedGood s (point_noted g q entry s) (point_visits g.world.program q before c) c
  point_good q entry s before c covers sees met clean =
      let cs = clauses_at g.world.program q in
      let t = admitting g q entry cs s in
      let reach = admitting_reach q entry cs s before c covers sees met in
      let good = clauses_good q 0 entry cs t before c (λ w. (reach w).1)
      (sees_on entry s t before c (λ w. (reach w).0) sees)
      clean.1 in
      let n = clauses_noted g q 0 entry cs t in
      record {
        covered = (
          inl (refl, λ w. dead_right t.env c (reach w).1),
          all_right g.world.program g.number holding (record_of (Dead q) (said_dead t.env) t ∷ []) n.records
              (clause_visits q 0 before c cs) good.covered,
        );
        reach = reach_on s t n.state c reach good.reach;
      }

  -- what follows an arrival is right of the state there
  abbrev pub Arrived : State → Step → Part → Cells → List ℤ → State → Type 0
  Arrived s k f c i t = (m : ℕ) → Reach s t c → Clean (all_visits (f m c i).pieces) → Good t (k t) (f m c i)

  admitting_good : (b : Bool) (q : ℕ) (entry : Option State) (before : Cells) (f : Part) (k : Step) (s : State) (n : ℕ)
      (c : Cells) (i : List ℤ) → Typed g.world.program c → Covers s c → Sees entry s before c
      → admitted g.world q before c ≡ b → Arrived s k f c i (point_noted g q entry s).state
      → Clean (all_visits (runs.admitting b (Arrival q c (point_visits g.world.program q before c)) f n c i).pieces)
      → Good s (arrive g q entry k s) (runs.admitting b (Arrival q c (point_visits g.world.program q before c)) f n c i)
  admitting_good false q entry before f k s n c i typed covers sees is h clean =
      record { covered = tt; leaves = tt; typed = typed }
  admitting_good true q entry before f k s n c i typed covers sees is h clean =
      let vs = point_visits g.world.program q before c in
      let noted = point_noted g q entry s in
      let o = f n c i in
      let parts = clean_parts g.world.program g.number holding vs (all_visits o.pieces) clean in
      let good = point_good q entry s before c covers sees is parts.0 in
      front_good g.world.program g.number holding s noted.records (k noted.state) (Arrival q c vs) o good.covered
      (good_from g.world.program g.number holding s noted.state (k noted.state) o (λ w. (good.reach w).0)
      (h n good.reach parts.1))

  pub arrive_good : (q : ℕ) (entry : Option State) (before : Cells) (f : Part) (k : Step) (s : State) (n : ℕ)
      (c : Cells) (i : List ℤ) → Typed g.world.program c → Covers s c → Sees entry s before c
      → Arrived s k f c i (point_noted g q entry s).state
      → Clean (all_visits (run_parts.arrive g.world q before f n c i).pieces)
      → Good s (arrive g q entry k s) (run_parts.arrive g.world q before f n c i)
  arrive_good q entry before f k s zero c i typed covers sees h clean =
      record { covered = tt; leaves = tt; typed = typed }
  arrive_good q entry before f k s (suc n) c i typed covers sees h clean =
      admitting_good (admitted g.world q before c) q entry before f k s n c i typed covers sees refl h clean

  -- a point of a statement
  pub at_sound : (p : PointId) (f : Part) (k : Step) → Sound f k → Sound (run_parts.at g.world p f) (at g p k)
  at_sound p f k sound s n c i typed covers clean =
      arrive_good p.0 None c f k s n c i typed covers refl
      (λ m r cl. sound (point_noted g p.0 None s).state m c i typed (λ w. (r w).1) cl) clean
