-- Records that are noted one after the other, and what is left of clauses and marks at each turn of a loop.
use Rattle.std.proofs.Common.{◌≡◌, ◌∙◌, ◌<◌, ◌≤◌, ◌+◌, ℕ, Bool, true, false, List, [], ◌∷◌, ◌++◌, drop, length, map, get_or, Option, Some, Result, Ok, Err, refl, sym, ap}
use Rattle.std.specs.Prelude.{OnOk, slice_get, slice_set}
use Rattle.std.proofs.lemmas.Result.{on_ok_weaker}
use Rattle.std.proofs.lemmas.Bool.{true≢false}
use Rattle.std.proofs.lemmas.List.{at_drop_all, at_drop_more}
use Rattle.fc_base.specs.declared.ids.SiteId.{SiteId}
use Rattle.int_interval.specs.declared.said.Said.{Said}
use Rattle.prop_set.specs.Sets.{with_member}
use Rattle.c_ir.specs.declared.kind.AlarmKind.TheVariants as A
use Rattle.c_ir.specs.declared.kind.Kind.TheVariants as K
use Rattle.c_ir.specs.declared.tree.PointClause.{PointClause}
use Rattle.c_ir.specs.declared.tree.Pred.{Pred}
use Rattle.c_runs.specs.Statements.{clauses_at}
use Rattle.c_runs.specs.Visits.{Check, Clause, Dead, Named, Precondition}
use Rattle.abs_state.specs.declared.state.State.{State}
use Rattle.eva_expr.specs.Conditions.{narrowed_by_pred}
use Rattle.eva_values.specs.Marks.{mark_at}
use Rattle.eva_values.specs.declared.seen.SiteMark.{SiteMark}
use Rattle.eva_rules.specs.Passing.{Record, mark_record, mark_records}
use Rattle.eva_rules.specs.Points.{Ground, Noted, admitting, arrival_noted, assuming, clauses_noted, entry_or, note, point_noted, preconditions_noted, record_of, said_dead, said_in, using_it}
use Rattle.eva_run.specs.Code.{IsNoted, put, put_in, tallied, tally_with}
use Rattle.eva_run.specs.declared.tallies.Tally.{Tally}

-- ---- one record

pub put_done : (ts new : List Tally) (n : ℕ) (r : Record) (t now : Tally) → slice_get ts n ≡ Some t
    → now ≡ tally_with t r → new ≡ slice_set ts n now → new ≡ put_in ts n r (slice_get ts n)
put_done ts new n r t now at is set = set ∙ ap (slice_set ts n) is ∙ sym (ap (put_in ts n r) at)

pub noted_one : (f : Named → ℕ) (n : Named) (number : ℕ) (noting : Bool) (old new : List Tally) (said : Said)
    (used : List ℕ) → f n ≡ number → noting ≡ true
    → new ≡ put_in old number (record { named = n; said = said; used = used }) (slice_get old number)
    → new ≡ tallied f noting old (record { named = n; said = said; used = used } ∷ [])
unfolding put
noted_one f n number true old new said used is on h =
    h ∙ ap (λ (k : ℕ). put_in old k (record { named = n; said = said; used = used }) (slice_get old k))
    (sym is)
noted_one f n number false old new said used is on h = absurd (true≢false (sym on))

-- ---- records in a row

pub noted_two : (f : Named → ℕ) (noting : Bool) (old : List Tally) (xs ys : List Record)
    → tallied f noting (tallied f noting old xs) ys ≡ tallied f noting old (xs ++ ys)
noted_two f false old xs ys = refl
noted_two f true old [] ys = refl
noted_two f true old (x ∷ xs) ys = noted_two f true (put f old x) xs ys

pub noted_none : (f : Named → ℕ) (noting : Bool) (old : List Tally) → tallied f noting old [] ≡ old
noted_none f false old = refl
noted_none f true old = refl

pub then_noted : (f : Named → ℕ) (noting : Bool) (old now new : List Tally) (xs ys : List Record)
    → now ≡ tallied f noting old xs → new ≡ tallied f noting now ys → new ≡ tallied f noting old (xs ++ ys)
then_noted f noting old now new xs ys h k =
    k ∙ ap (λ (ts : List Tally). tallied f noting ts ys) h ∙ noted_two f noting old xs ys

-- ---- clauses

-- what is left gives the whole
abbrev pub Goes : (Named → ℕ) → Bool → List Tally → Noted → List Tally → Noted → Type 0
Goes f noting old whole now rest =
    (rest.state ≡ whole.state) × (tallied f noting now rest.records ≡ tallied f noting old whole.records)

-- one clause more: first it is noted, and then the rest
goes_on : (f : Named → ℕ) (noting : Bool) (first old new : List Tally) (whole before rest : Noted)
    (r : Record)
    → before ≡ record { state = rest.state; records = r ∷ rest.records }
    → new ≡ tallied f noting old (r ∷ [])
    → Goes f noting first whole old before → Goes f noting first whole new rest
goes_on f noting first old new whole before rest r is noted h = (
  sym (ap (λ (n : Noted). n.state) is) ∙ h.0,
  ap (λ (ts : List Tally). tallied f noting ts rest.records) noted
      ∙ noted_two f noting old (r ∷ []) rest.records
      ∙ sym (ap (λ (n : Noted). tallied f noting old n.records) is) ∙ h.1,
)

pub goes_ends : (f : Named → ℕ) (noting : Bool) (first now : List Tally) (whole rest : Noted) (s : State)
    → rest ≡ record { state = s; records = [] } → Goes f noting first whole now rest
    → (s ≡ whole.state) × (now ≡ tallied f noting first whole.records)
goes_ends f noting first now whole rest s is h = (
  sym (ap (λ (n : Noted). n.state) is) ∙ h.0,
  sym (noted_none f noting now) ∙ sym (ap (λ (n : Noted). tallied f noting now n.records) is) ∙ h.1,
)

pub clause_step : (g : Ground) (noting : Bool) (q k : ℕ) (entry : Option State) (cs : List PointClause)
    (c : PointClause) (s t : State) (first old new : List Tally) (whole : Noted) → k < length cs
    → c ≡ get_or cs k c
    → t ≡ assuming g c.kind (Clause q k) (entry_or entry s) c.pred s
    → new ≡ tallied g.number noting old (record_of (Clause q k) (said_in s (entry_or entry s) c.pred) s ∷ [])
    → Goes g.number noting first whole old (clauses_noted g q k entry (drop k cs) s)
    → Goes g.number noting first whole new (clauses_noted g q (k + 1) entry (drop (k + 1) cs) t)
clause_step g noting q k entry cs c s t first old new whole below is state noted h =
    goes_on g.number noting first old new whole (clauses_noted g q k entry (drop k cs) s)
    (clauses_noted g q (k + 1) entry (drop (k + 1) cs) t)
    (record_of (Clause q k) (said_in s (entry_or entry s) c.pred) s)
    (at_drop_more (λ (xs : List PointClause). clauses_noted g q k entry xs s) cs k c below
    ∙ ap (λ (x : PointClause). clauses_noted g q k entry (x ∷ drop (k + 1) cs) s) (sym is)
    ∙ ap (λ (u : State). note (record_of (Clause q k) (said_in s (entry_or entry s) c.pred) s)
    (clauses_noted g q (k + 1) entry (drop (k + 1) cs) u)) (sym state))
    noted h

pub clauses_end : (g : Ground) (noting : Bool) (q k : ℕ) (entry : Option State) (cs : List PointClause)
    (s : State)
    (first now : List Tally) (whole : Noted) → length cs ≤ k
    → Goes g.number noting first whole now (clauses_noted g q k entry (drop k cs) s)
    → (s ≡ whole.state) × (now ≡ tallied g.number noting first whole.records)
clauses_end g noting q k entry cs s first now whole past h =
    goes_ends g.number noting first now whole (clauses_noted g q k entry (drop k cs) s) s
    (at_drop_all (λ (xs : List PointClause). clauses_noted g q k entry xs s) cs k past) h

-- ---- arrivals

-- the state after what is admitted, and what is said of the point's property of kind Dead
module _ (g : Ground) (noting : Bool) (q : ℕ) (entry : Option State) (s t : State) (said : Said) (number : ℕ)
    (cs : List PointClause) (old now new : List Tally) where
  abbrev all : List PointClause
  all = clauses_at g.world.program q

  abbrev dead : State → Said → Record
  dead u said = record_of (Dead q) said u

  by_clauses : cs ≡ all → said ≡ said_dead t.env
      → now ≡ tallied g.number noting old (dead t said ∷ [])
      → new ≡ tallied g.number noting now (clauses_noted g q 0 entry cs t).records
      → new ≡ tallied g.number noting old (arrival_noted g q entry t).records
  by_clauses is says one rest =
      then_noted g.number noting old now new (dead t said ∷ []) (clauses_noted g q 0 entry cs t).records
      one rest
      ∙ (λ i. tallied g.number noting old (dead t (says i) ∷ (clauses_noted g q 0 entry (is i) t).records))

  pub arrived : {X : Type 0} (r : Result State X) → cs ≡ all → t ≡ admitting g q entry all s
      → said ≡ said_dead t.env → number ≡ g.number (Dead q)
      → ((n : Named) → g.number n ≡ number
      → now ≡ tallied g.number noting old (record { named = n; said = said; used = t.used } ∷ []))
      → IsNoted g.number r noting now new (clauses_noted g q 0 entry cs t)
      → IsNoted g.number r noting old new (point_noted g q entry s)
  arrived (Ok x) is state says at one h = (
    h.0 ∙ ap (λ (ds : List PointClause). (clauses_noted g q 0 entry ds t).state) is
        ∙ ap (λ (u : State). (arrival_noted g q entry u).state) state,
    by_clauses is says (one (Dead q) (sym at)) h.1
        ∙ ap (λ (u : State). tallied g.number noting old (arrival_noted g q entry u).records) state,
  )
  arrived (Err e) is state says at one h = tt

-- ---- preconditions

pub precondition_step : (g : Ground) (noting : Bool) (q k : ℕ) (cs : List PointClause) (z : PointClause)
    (s t : State) (first old new : List Tally) (whole : Noted) → k < length cs
    → t ≡ assuming g K.CallRequires (Precondition q k) s (get_or cs k z).pred s
    → new ≡ tallied g.number noting old (record_of (Precondition q k) (said_in s s (get_or cs k z).pred) s
    ∷ [])
    → Goes g.number noting first whole old (preconditions_noted g q k (drop k cs) s)
    → Goes g.number noting first whole new (preconditions_noted g q (k + 1) (drop (k + 1) cs) t)
precondition_step g noting q k cs z s t first old new whole below state noted h =
    let r = record_of (Precondition q k) (said_in s s (get_or cs k z).pred) s in
    goes_on g.number noting first old new whole (preconditions_noted g q k (drop k cs) s)
    (preconditions_noted g q (k + 1) (drop (k + 1) cs) t) r
    (at_drop_more (λ (xs : List PointClause). preconditions_noted g q k xs s) cs k z below
    ∙ ap (λ (u : State). note r (preconditions_noted g q (k + 1) (drop (k + 1) cs) u)) (sym state))
    noted h

pub preconditions_end : (g : Ground) (noting : Bool) (q k : ℕ) (cs : List PointClause) (s : State)
    (first now : List Tally) (whole : Noted) → length cs ≤ k
    → Goes g.number noting first whole now (preconditions_noted g q k (drop k cs) s)
    → (s ≡ whole.state) × (now ≡ tallied g.number noting first whole.records)
preconditions_end g noting q k cs s first now whole past h =
    goes_ends g.number noting first now whole (preconditions_noted g q k (drop k cs) s) s
    (at_drop_all (λ (xs : List PointClause). preconditions_noted g q k xs s) cs k past) h

-- ---- states

pub used_it : (g : Ground) (n : Named) (number : ℕ) (entry s t : State) (p : Pred) (used : List ℕ)
    → t ≡ narrowed_by_pred true entry p s → used ≡ with_member number t.used → g.number n ≡ number
    → ◌≡◌ {A = State} (record { env = t.env; used = used }) (using_it g n entry p s)
unfolding narrowed_by_pred
used_it g n number entry s t p used h k is =
    (λ i. record { env = t.env; used = k i })
    ∙ (λ i. record { env = (h i).env; used = with_member (sym is i) (h i).used })

-- ---- marks

pub marks_step : (f : Named → ℕ) (noting : Bool) (used : List ℕ) (ms : List SiteMark) (k : ℕ) (z : SiteMark)
    (number : ℕ) (old new : List Tally) → k < length ms
    → number ≡ f (Check (get_or ms k z).site.0 (get_or ms k z).kind)
    → ((n : Named) → f n ≡ number
    → new ≡ tallied f noting old (record { named = n; said = (get_or ms k z).said; used = used } ∷ []))
    → tallied f noting new (mark_records used (drop (k + 1) ms))
    ≡ tallied f noting old (mark_records used (drop k ms))
marks_step f noting used ms k z number old new below is h =
    ap (λ (ts : List Tally). tallied f noting ts (mark_records used (drop (k + 1) ms)))
    (h (Check (get_or ms k z).site.0 (get_or ms k z).kind) (sym is))
    ∙ noted_two f noting old (mark_record used (get_or ms k z) ∷ []) (mark_records used (drop (k + 1) ms))
    ∙ sym (at_drop_more (λ (xs : List SiteMark). tallied f noting old (mark_records used xs)) ms k z below)

pub index_noted : {X Y : Type 0} (r : Result X Y) (f : Named → ℕ) (noting : Bool) (used : List ℕ)
    (o : Option SiteId)
    (s : SiteId) (said spoken : Said) (number : ℕ) (old new : List Tally) → o ≡ Some s → spoken ≡ said
    → number ≡ f (Check s.0 A.IndexBound)
    → OnOk r ((g : Named → ℕ) (n : Named) → g n ≡ number
    → new ≡ tallied g noting old (record { named = n; said = spoken; used = used } ∷ []))
    → OnOk r (new ≡ tallied f noting old (mark_records used (mark_at o A.IndexBound said)))
index_noted r f noting used o s said spoken number old new is same at =
    on_ok_weaker r (λ h. h f (Check s.0 A.IndexBound) (sym at)
    ∙ (λ i. tallied f noting old (mark_records used (mark_at (sym is i) A.IndexBound (same i)))))

pub marks_end : (f : Named → ℕ) (noting : Bool) (used : List ℕ) (ms : List SiteMark) (k : ℕ)
    (now : List Tally)
    → length ms ≤ k → tallied f noting now (mark_records used (drop k ms)) ≡ now
marks_end f noting used ms k now past =
    at_drop_all (λ (xs : List SiteMark). tallied f noting now (mark_records used xs)) ms k past
    ∙ noted_none f noting now
