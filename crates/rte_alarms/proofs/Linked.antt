-- Links are right: where all instances of a precondition hold in all runs, so does the precondition. By the
-- law of pieces.
use Rattle.std.proofs.Common.{◌≡◌, ◌∙◌, ◌==◌, inl, inr, ◌<◌, ◌+◌, ℕ, ℤ, Bool, true, false, not, ◌&&◌, ◌||◌, List, [], ◌∷◌, ◌++◌, length, map, Option, Some, slice_get, refl, ap, sym, subst}
use Rattle.std.proofs.lemmas.Bool.{and_parts, and_from, eq-eqb, true≢false}
use Rattle.std.specs.Prelude.{if◌then◌else◌, nat_lt}
use Rattle.by_key.specs.Keys.{numbers_at}
use Rattle.by_key.specs.declared.lists.Keyed.{Keyed}
use Rattle.fc_base.specs.declared.status.LocalStatus.TheVariants as Status
use Rattle.c_ir.specs.Keeps.{Keeps}
use Rattle.c_ir.specs.Kinds.{is_dead}
use Rattle.c_ir.specs.Programs.{Program}
use Rattle.c_ir.specs.Table.{claims_dead}
use Rattle.c_ir.specs.declared.kind.Kind.{Kind}
use Rattle.c_ir.specs.declared.kind.Kind.TheVariants as K
use Rattle.c_ir.specs.declared.prop.Prop.{Prop}
use Rattle.c_ir.specs.declared.tree.Fun.{Fun}
use Rattle.c_ir.specs.declared.tree.PointInfo.{PointInfo}
use Rattle.c_ir.specs.declared.tree.PointClause.{PointClause}
use Rattle.c_runs.specs.Laws.{RunsAreChained, EntersAt}
use Rattle.c_runs.specs.Parts.{Has}
use Rattle.c_runs.specs.Programs.{world_of, run_of, visits_of_run}
use Rattle.c_runs.specs.Statements.{World, clauses_in, clauses_at, entry_clauses}
use Rattle.c_runs.specs.Visits.{Visit, visit, Named, Dead, Clause, Check, Precondition}
use Rattle.prop_table.specs.Points.{is_requires, calls_at}
use Rattle.prop_table.specs.Rows.{rows_of}
use Rattle.prop_table.proofs.Lists.{some_is, From, from_all, from_here, from_next}
use Rattle.prop_runs.specs.Numbers.{is_call_requires, is_alarm_of, call_requires_at, check_of, number_of, numbered, runs_of}
use Rattle.prop_runs.proofs.Existing.{entered, precondition_exists}
use Rattle.prop_runs.proofs.Finding.{lands}
use Rattle.prop_runs.proofs.Meeting.{met_false}
use Rattle.prop_runs.proofs.Standing.{each_has, has_left, has_right}
use Rattle.prop_runs.proofs.Telling.{pointed, clause_made}
use Rattle.status_history.specs.Claims.{Visits, has_false, AllRuns, AllHold, IsRight}
use Rattle.status_history.specs.declared.history.Entry.{Entry}
use Rattle.rte_alarms.specs.Entries.{entry, prop_id, link_entry, link_entries, links_said}
use Rattle.rte_alarms.specs.Laws.{LinksAreRight}
use Rattle.rte_alarms.specs.Links.{callee_entries, entry_in, links_of}
use Rattle.rte_alarms.proofs.Called.{Instance, Backing, Backed, run_backed}
use Rattle.rte_alarms.proofs.Linking.{numbers_has, instance_linked}
use Rattle.rte_alarms.proofs.Staying.{keyed}

-- ---- the function that is called

entries_has : (p : Program) (gs : List ℕ) (g q : ℕ) → Has gs g → Has (entry_in (slice_get p.fns g)) q
    → Has (callee_entries p gs) q
entries_has p [] g q h own = absurd h
entries_has p (x ∷ gs) g q (inl same) own =
    has_left (entry_in (slice_get p.fns x)) (callee_entries p gs) q
    (subst (λ (y : ℕ). Has (entry_in (slice_get p.fns y)) q) (sym same) own)
entries_has p (x ∷ gs) g q (inr h) own =
    has_right (entry_in (slice_get p.fns x)) (callee_entries p gs) q (entries_has p gs g q h own)

-- the entry of the function that is called
callee_is : (w : World) (q r : ℕ) (vs : List Visit) → Keeps w.program → EntersAt w q r vs
    → Has (callee_entries w.program (calls_at w.program r)) q
callee_is w q r vs keeps h =
    let p = w.program in
    entries_has p (calls_at p r) h.enters.call.function q (entered w r vs keeps h.enters)
    (subst (λ (o : Option Fun). Has (entry_in o) q) (sym h.is_function) (inl h.at_entry))

-- ---- instances

-- the row of the instance that the run visits as false, with its link
record Shown (p : Program) (vs : List Visit) (n : ℕ) : Type 0 where
  number : ℕ
  linked : Has (links_of p (rows_of p)) (keyed n number)
  is_visit : (v : Visit) × Has vs v × (number_of (rows_of p) v.named ≡ number) × (v.holds ≡ false)

instance_met : (w : World) (vs : List Visit) (q k : ℕ) → Keeps w.program → Instance w vs q k
    → Shown w.program vs (number_of (rows_of w.program) (Clause q k))
instance_met w vs q k keeps h =
    let p = w.program in
    let rows = rows_of p in
    let e = h.enters in
    let same : clauses_at p q ≡ entry_clauses p (slice_get p.fns e.enters.call.function) =
    ap (clauses_at p) (sym e.at_entry) ∙ sym (ap (entry_clauses p) e.is_function) in
    let few = subst (λ (cs : List PointClause). k < length cs) same h.few in
    let row = precondition_exists w h.point k h.visits keeps h.is_point e.enters few in
    record {
      number = number_of rows (Precondition h.point k);
      linked = instance_linked p rows h.point q k row.0 (callee_is w q h.point h.visits keeps e) row.1;
      is_visit = (visit (Precondition h.point k) false, h.is_visit, refl, refl);
    }

-- ---- rows

requires_dead : (k : Kind) → k ≡ K.Requires → is_dead k ≡ true → ⊥
requires_dead k is dead = true≢false (sym dead ∙ ap is_dead is)

requires_is : (k : Kind) → is_requires k ≡ true → k ≡ K.Requires
requires_is K.Requires is = refl
requires_is K.CallRequires is = absurd (true≢false (sym is))
requires_is K.Ensures is = absurd (true≢false (sym is))
requires_is K.Assert is = absurd (true≢false (sym is))
requires_is K.Check is = absurd (true≢false (sym is))
requires_is K.Admit is = absurd (true≢false (sym is))
requires_is K.LoopInvariant is = absurd (true≢false (sym is))
requires_is (K.Alarm a) is = absurd (true≢false (sym is))
requires_is K.Dead is = absurd (true≢false (sym is))

-- a false visit of a precondition has a false visit of an instance
backed_met : (w : World) (vs : List Visit) (row : Prop) (named : Named) (b : Bool) → Keeps w.program
    → slice_get (rows_of w.program) (number_of (rows_of w.program) named) ≡ Some row → row.kind ≡ K.Requires
    → b ≡ false → ((q k : ℕ) → named ≡ Clause q k → b ≡ false → Backing w vs q k)
    → Shown w.program vs (number_of (rows_of w.program) named)
backed_met w vs row (Dead q) b keeps is kind fails backs =
    let parts = and_parts (is_dead row.kind) (row.point.0 == q)
    (lands (claims_dead q) (rows_of w.program) 0 row is) in
    absurd (true≢false (sym parts.0 ∙ ap is_dead kind))
backed_met w vs row (Check n a) b keeps is kind fails backs =
    let parts = and_parts (is_alarm_of a row.kind) _ (lands (check_of n a) (rows_of w.program) 0 row is) in
    absurd (true≢false (sym parts.0 ∙ ap (is_alarm_of a) kind))
backed_met w vs row (Precondition q k) b keeps is kind fails backs =
    let parts = and_parts (is_call_requires row.kind) (row.point.0 == q)
    (lands (call_requires_at q) (rows_of w.program) k row is) in
    absurd (true≢false (sym parts.0 ∙ ap is_call_requires kind))
backed_met w vs row (Clause q k) b keeps is kind fails backs =
    let p = w.program in
    let h = backs q k refl fails in
    let at = pointed p q keeps h.is_point in
    let made = clause_made p q k h.clause keeps at
    (ap (λ (o : Option PointInfo). slice_get (clauses_in o) k) (sym at.fits.is_info) ∙ h.is_clause) in
    let same = some_is made.row row (sym made.is_row ∙ is) in
    instance_met w vs q k keeps
    (h.instance_of (sym made.kind ∙ ap (λ (r : Prop). r.kind) same ∙ kind))

-- ---- visits by number

or_left : (a b : Bool) → a ≡ true → (a || b) ≡ true
or_left true b is = refl
or_left false b is = absurd (true≢false (sym is))

or_right : (a b : Bool) → b ≡ true → (a || b) ≡ true
or_right true b is = refl
or_right false b is = is

false_in : (rows : List Prop) (m : ℕ) (vs : List Visit) (v : Visit) → Has vs v → number_of rows v.named ≡ m
    → v.holds ≡ false → has_false m (map (numbered rows) vs) ≡ true
false_in rows m [] v h number fails = absurd h
false_in rows m (u ∷ vs) v (inl same) number fails =
    subst (λ (x : Visit).
    ((number_of rows x.named == m && not x.holds) || has_false m (map (numbered rows) vs)) ≡ true)
    (sym same)
    (or_left (number_of rows v.named == m && not v.holds) (has_false m (map (numbered rows) vs))
    (and_from (number_of rows v.named == m) (not v.holds) (eq-eqb (number_of rows v.named) m number)
    (ap not fails)))
false_in rows m (u ∷ vs) v (inr h) number fails =
    or_right (number_of rows u.named == m && not u.holds) (has_false m (map (numbered rows) vs))
    (false_in rows m vs v h number fails)

not_true : (b : Bool) → (b ≡ true → ⊥) → b ≡ false
not_true true h = absurd (h refl)
not_true false h = refl

not_is : (b : Bool) → not b ≡ true → b ≡ false
not_is true h = sym h
not_is false h = refl

-- ---- entries

hyp_of : (u : Visits) (ms : List ℕ) (m : ℕ) → AllHold u (map prop_id ms) → Has ms m → AllRuns u m
hyp_of u [] m all h = absurd h
hyp_of u (x ∷ ms) m all (inl same) = subst (AllRuns u) same all.0
hyp_of u (x ∷ ms) m all (inr h) = hyp_of u ms m all.1 h

abbrev Follows : Visits → ℕ → List ℕ → Type 0
Follows u n ms = AllHold u (map prop_id ms) → AllRuns u n

entry_right : (u : Visits) (version n : ℕ) (ms : List ℕ) (b : Bool) → Follows u n ms
    → IsRight u (if b then entry 0 (prop_id n) Status.DontKnow [] version
    else entry 0 (prop_id n) Status.True (map prop_id ms) version)
entry_right u version n ms true h = λ hyps. tt
entry_right u version n ms false h = h

-- the entry is of a precondition's row
record Said (links : List Keyed) (rows : List Prop) (version : ℕ) (e : Entry) : Type 0 where
  number : ℕ
  row : Prop
  is_row : slice_get rows number ≡ Some row
  requires : is_requires row.kind ≡ true
  is : link_entry version number (numbers_at number links) ≡ e

one_said : (links : List Keyed) (rows : List Prop) (version n : ℕ) (r : Prop) (e : Entry) (rest : List Entry)
    (b : Bool)
    → is_requires r.kind ≡ b → slice_get rows n ≡ Some r → (Has rest e → Said links rows version e)
    → Has ((if b then link_entry version n (numbers_at n links) ∷ [] else []) ++ rest) e
    → Said links rows version e
one_said links rows version n r e rest true requires is more (inl same) =
    record { number = n; row = r; is_row = is; requires = requires; is = same }
one_said links rows version n r e rest true requires is more (inr h) = more h
one_said links rows version n r e rest false requires is more h = more h

entries_said : (links : List Keyed) (rows : List Prop) (version n : ℕ) (rs : List Prop) (e : Entry)
    → From rows n rs → Has (link_entries version links n rs) e → Said links rows version e
entries_said links rows version n [] e from h = absurd h
entries_said links rows version n (r ∷ rs) e from h =
    one_said links rows version n r e (link_entries version links (n + 1) rs) (is_requires r.kind) refl
    (from_here rows n r rs from) (entries_said links rows version (n + 1) rs e (from_next rows n r rs from)) h

-- where all instances hold in all runs, so does the precondition
follows : RunsAreChained → (p : Program) → Keeps p → (values : List ℤ) (n : ℕ) (row : Prop)
    → slice_get (rows_of p) n ≡ Some row → is_requires row.kind ≡ true
    → Follows (runs_of p values) n (numbers_at n (links_of p (rows_of p)))
unfolding runs_of
follows chained p keeps values n row is requires hyps input arrivals =
    let w = world_of p values in
    let rows = rows_of p in
    let vs = visits_of_run p values input arrivals in
    not_true (has_false n (map (numbered rows) vs)) (λ seen.
    let v = met_false rows n vs seen in
    let fails = not_is v.visit.holds v.truth in
    let backed = run_backed w (run_of p values input arrivals) keeps
    (chained p keeps values input arrivals) in
    let source = each_has (Backed w vs) vs v.visit backed v.is_visit in
    let found = backed_met w vs row v.visit.named v.visit.holds keeps (ap (slice_get rows) v.number ∙ is)
    (requires_is row.kind requires) fails source in
    let linked = subst (λ (m : ℕ). Has (links_of p rows) (keyed m found.number)) v.number found.linked in
    let holds = hyp_of (runs_of p values) (numbers_at n (links_of p rows)) found.number hyps
    (numbers_has (links_of p rows) n found.number linked) input arrivals in
    let seen_false = false_in rows found.number vs found.is_visit.0 found.is_visit.1 found.is_visit.2
    found.is_visit.3 in
    true≢false (sym seen_false ∙ holds))

pub links_right : RunsAreChained → LinksAreRight
unfolding links_said
links_right chained p keeps version e has values =
    let rows = rows_of p in
    let links = links_of p rows in
    let said = entries_said links rows version 0 rows e (from_all rows) has in
    let instances = numbers_at said.number links in
    subst (λ (x : Entry). IsRight (runs_of p values) x) said.is
    (entry_right (runs_of p values) version said.number instances (nat_lt 256 (length instances))
    (follows chained p keeps values said.number said.row said.is_row said.requires))
