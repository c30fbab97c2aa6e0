-- Alarms that are decided by the types have no false visits in any run.
use Rattle.std.proofs.Common.{◌≡◌, ◌∙◌, ◌==◌, inl, inr, ◌+◌, ℕ, Bool, true, false, not, ◌||◌, List, [], ◌∷◌, ◌++◌, map, Option, Some, None, slice_get, refl, ap, sym, subst}
use Rattle.std.proofs.lemmas.Bool.{and_parts, eqb-true, eq-eqb, true≢false}
use Rattle.std.specs.List.{list_any}
use Rattle.std.specs.Prelude.{if◌then◌else◌}
use Rattle.by_key.specs.Keys.{numbers_at}
use Rattle.by_key.specs.declared.lists.Keyed.{Keyed}
use Rattle.fc_base.specs.declared.ids.PointId.{PointId}
use Rattle.fc_base.specs.declared.ids.SiteId.{SiteId}
use Rattle.fc_base.specs.declared.status.LocalStatus.TheVariants as Status
use Rattle.c_ir.specs.Bodies.{Frame, expr_fits}
use Rattle.c_ir.specs.Formed.{on_some, form}
use Rattle.c_ir.specs.Keeps.{Keeps, layout_of}
use Rattle.c_ir.specs.Kinds.{is_dead}
use Rattle.c_ir.specs.Placed.{is_formed}
use Rattle.c_ir.specs.Programs.{Program}
use Rattle.c_ir.specs.Sited.{alarm_number}
use Rattle.c_ir.specs.Table.{claims_dead}
use Rattle.c_ir.specs.declared.kind.AlarmKind.{AlarmKind}
use Rattle.c_ir.specs.declared.kind.Kind.{Kind}
use Rattle.c_ir.specs.declared.kind.Kind.TheVariants as K
use Rattle.c_ir.specs.declared.place.Place.{Place}
use Rattle.c_ir.specs.declared.prop.Prop.{Prop}
use Rattle.c_ir.specs.declared.tree.Expr.{Expr}
use Rattle.c_ir.specs.declared.tree.PointClause.{PointClause}
use Rattle.c_runs.specs.Laws.{RunsAreChained, Arrives, Evaluates, Enters, Fits, Chained, Runs}
use Rattle.c_runs.specs.Parts.{Placed, Has, placed_in_fns}
use Rattle.c_runs.specs.Programs.{world_of, run_of, visits_of_run}
use Rattle.c_runs.specs.Statements.{World, clauses_at, clause_visits, entry_clauses, preconditions}
use Rattle.c_runs.specs.Truth.{holds}
use Rattle.c_runs.specs.Visits.{Cells, Visit, visit, Named, Dead, Clause, Check, Precondition, Piece, Arrival, Between, visits_of, all_visits}
use Rattle.prop_table.specs.Rows.{rows_of}
use Rattle.prop_table.proofs.Lists.{each_append, From, from_all, from_here, from_next}
use Rattle.prop_runs.specs.Numbers.{is_clause, is_call_requires, is_alarm_of, clause_at, call_requires_at, check_of, number_of, numbered, runs_of}
use Rattle.prop_runs.proofs.Finding.{lands}
use Rattle.prop_runs.proofs.Meeting.{met_false}
use Rattle.prop_runs.proofs.Placing.{Evaluated, evaluated}
use Rattle.prop_runs.proofs.Standing.{each_has, has_left, has_right}
use Rattle.status_history.specs.Claims.{has_false, IsRight}
use Rattle.status_history.specs.declared.history.Entry.{Entry}
use Rattle.rte_alarms.specs.Entries.{entry, prop_id, is_open, decided_site, decided_kind, is_decided, decided_entries, decided_said}
use Rattle.rte_alarms.specs.Laws.{DecidedAreRight}
use Rattle.rte_alarms.specs.Ranges.{ranged, open_in, open_checks}
use Rattle.rte_alarms.proofs.Staying.{keyed, Stays, AllStay, Within}
use Rattle.rte_alarms.proofs.Ranging.{open_visits}

-- ---- visits that are of no check

dead_check : (q n : ℕ) (a : AlarmKind) → Dead q ≡ Check n a → ⊥
dead_check q n a is = cc

clause_check : (q k n : ℕ) (a : AlarmKind) → Clause q k ≡ Check n a → ⊥
clause_check q k n a is = cc

precondition_check : (q k n : ℕ) (a : AlarmKind) → Precondition q k ≡ Check n a → ⊥
precondition_check q k n a is = cc

clauses_stay : (all : List Keyed) (q k : ℕ) (entry now : Cells) (cs : List PointClause)
    → AllStay all (clause_visits q k entry now cs)
clauses_stay all q k entry now [] = tt
clauses_stay all q k entry now (c ∷ cs) =
    (λ n a named fails. absurd (clause_check q k n a named), clauses_stay all q (k + 1) entry now cs)

preconditions_stay : (all : List Keyed) (q k : ℕ) (now : Cells) (cs : List PointClause)
    → AllStay all (preconditions q k now cs)
preconditions_stay all q k now [] = tt
preconditions_stay all q k now (c ∷ cs) =
    (λ n a named fails. absurd (precondition_check q k n a named), preconditions_stay all q (k + 1) now cs)

arrival_stays : (all : List Keyed) (w : World) (q : ℕ) (c : Cells) (vs : List Visit) → Arrives w q c vs
    → AllStay all vs
arrival_stays all w q c vs h =
    subst (AllStay all) (sym h.visits) (
      λ n a named fails. absurd (dead_check q n a named),
      clauses_stay all q 0 h.entry c
          (clauses_at w.program q),
    )

call_stays : (all : List Keyed) (w : World) (q : ℕ) (vs : List Visit) → Enters w q vs → AllStay all vs
call_stays all w q vs h =
    subst (AllStay all) (sym h.visits)
    (preconditions_stay all q 0 h.cells (entry_clauses w.program (slice_get w.program.fns h.call.function)))

-- ---- visits of expressions

-- the open checks of an expression of the program are among the program's
opened_in : (xs : List Placed) (x : Placed) → Has xs x → Within (ranged x.expr).opened (open_in xs)
opened_in [] x h m is = absurd h
opened_in (y ∷ ys) x (inl same) m is =
    has_left (ranged y.expr).opened (open_in ys) m
    (subst (λ (z : Placed). Has (ranged z.expr).opened m) (sym same) is)
opened_in (y ∷ ys) x (inr h) m is = has_right (ranged y.expr).opened (open_in ys) m (opened_in ys x h m is)

opened_here : (p : Program) (x : Placed) → Has (placed_in_fns p.fns) x
    → Within (ranged x.expr).opened (open_checks p)
unfolding open_checks
opened_here p x h = opened_in (placed_in_fns p.fns) x h

fits_value : (f : Frame) (q : PointId) (place : Place) (e : Expr) → expr_fits f q place e ≡ true
    → (form f.layout e).value ≡ true
unfolding expr_fits is_formed
fits_value f q place e is = (and_parts _ _ (and_parts _ _ is).0).0

placed_formed : (p : Program) (x : Placed) → Evaluated p x → (form (layout_of p) x.expr).value ≡ true
placed_formed p x h = fits_value _ h.stands.point h.stands.place x.expr h.stands.fits

evaluation_stays : (w : World) (q : ℕ) (vs : List Visit) → Keeps w.program → Evaluates w q vs
    → AllStay (open_checks w.program) vs
evaluation_stays w q vs keeps h =
    let p = w.program in
    open_visits p w.overflow h.placed.expr h.cells (open_checks p) vs h.typed
    (placed_formed p h.placed (evaluated p h.placed keeps h.is_there))
    (opened_here p h.placed h.is_there) h.visits

-- ---- visits of runs

piece_stays : (w : World) (x : Piece) → Keeps w.program → Fits w x
    → AllStay (open_checks w.program) (visits_of x)
piece_stays w (Arrival q c vs) keeps h = arrival_stays (open_checks w.program) w q c vs h
piece_stays w (Between q vs) keeps (inl h) = evaluation_stays w q vs keeps h
piece_stays w (Between q vs) keeps (inr h) = call_stays (open_checks w.program) w q vs h

chain_stays : (w : World) (seen xs : List Piece) → Keeps w.program → Chained w seen xs
    → AllStay (open_checks w.program) (all_visits xs)
chain_stays w seen [] keeps chain = tt
chain_stays w seen (x ∷ xs) keeps chain =
    each_append (Stays (open_checks w.program)) (visits_of x) (all_visits xs)
    (piece_stays w x keeps chain.0.0) (chain_stays w (x ∷ seen) xs keeps chain.1)

run_stays : (w : World) (xs : List Piece) → Keeps w.program → Runs w xs
    → AllStay (open_checks w.program) (all_visits xs)
run_stays w [] keeps runs = tt
run_stays w (Between q vs ∷ xs) keeps runs = absurd runs
run_stays w (Arrival q c vs ∷ xs) keeps runs =
    each_append (Stays (open_checks w.program)) vs (all_visits xs)
    (piece_stays w (Arrival q c vs) keeps runs.0) (chain_stays w (Arrival q c vs ∷ []) xs keeps runs.1)

-- ---- checks that are open

or_left : (a b : Bool) → a ≡ true → (a || b) ≡ true
or_left true b is = refl
or_left false b is = absurd (true≢false (sym is))

or_right : (a b : Bool) → b ≡ true → (a || b) ≡ true
or_right true b is = refl
or_right false b is = is

first_open : (k : ℕ) (ns : List ℕ) (b : Bool) → b ≡ true
    → list_any (λ j. j == k) (if b then k ∷ ns else ns) ≡ true
first_open k ns true is = or_left (k == k) (list_any (λ j. j == k) ns) (eq-eqb k k refl)
first_open k ns false is = absurd (true≢false (sym is))

later_open : (k i : ℕ) (ns : List ℕ) (b : Bool) → list_any (λ j. j == k) ns ≡ true
    → list_any (λ j. j == k) (if b then i ∷ ns else ns) ≡ true
later_open k i ns true h = or_right (i == k) (list_any (λ j. j == k) ns) h
later_open k i ns false h = h

open_has : (all : List Keyed) (n k : ℕ) → Has all (keyed n k)
    → list_any (λ j. j == k) (numbers_at n all) ≡ true
open_has [] n k h = absurd h
open_has (x ∷ xs) n k (inl same) =
    subst (λ (y : Keyed). list_any (λ j. j == k) (numbers_at n (y ∷ xs)) ≡ true) (sym same)
    (first_open k (numbers_at n xs) (n == n) (eq-eqb n n refl))
open_has (x ∷ xs) n k (inr h) = later_open k x.number (numbers_at n xs) (x.key == n) (open_has xs n k h)

lacks : (b : Bool) → not b ≡ true → b ≡ true → ⊥
lacks true e f = true≢false (sym e)
lacks false e f = true≢false (sym f)

-- ---- rows

-- the property is an alarm whose check is decided
record Decision (all : List Keyed) (site : Option SiteId) (kind : Kind) : Type 0 where
  alarm : AlarmKind
  is_alarm : kind ≡ K.Alarm alarm
  decides : decided_site all (alarm_number alarm) site ≡ true

decision : (all : List Keyed) (site : Option SiteId) (k : Kind) → decided_kind all site k ≡ true
    → Decision all site k
decision all site K.Requires is = absurd (true≢false (sym is))
decision all site K.CallRequires is = absurd (true≢false (sym is))
decision all site K.Ensures is = absurd (true≢false (sym is))
decision all site K.Assert is = absurd (true≢false (sym is))
decision all site K.Check is = absurd (true≢false (sym is))
decision all site K.Admit is = absurd (true≢false (sym is))
decision all site K.LoopInvariant is = absurd (true≢false (sym is))
decision all site (K.Alarm a) is = record { alarm = a; is_alarm = refl; decides = is }
decision all site K.Dead is = absurd (true≢false (sym is))

site_of : (n : ℕ) (o : Option SiteId) → on_some (λ s. s.0 == n) o ≡ true
    → (s : SiteId) × (o ≡ Some s) × (s.0 ≡ n)
site_of n None h = absurd (true≢false (sym h))
site_of n (Some s) h = (s, refl, eqb-true s.0 n h)

-- a decided check has no false visit
check_clash : (all : List Keyed) (row : Prop) (n : ℕ) (b : AlarmKind) (holds : Bool) → is_decided all row
    ≡ true
    → check_of n b row ≡ true → Stays all (visit (Check n b) holds) → holds ≡ false → ⊥
check_clash all row n b holds decides passes stays fails =
    let d = decision all row.site row.kind decides in
    let parts = and_parts (is_alarm_of b row.kind) (on_some (λ s. s.0 == n) row.site) passes in
    let s = site_of n row.site parts.1 in
    let same = eqb-true (alarm_number b) (alarm_number d.alarm)
    (subst (λ (k : Kind). is_alarm_of b k ≡ true) d.is_alarm parts.0) in
    let closed = subst (λ (o : Option SiteId). decided_site all (alarm_number d.alarm) o ≡ true) s.1 d.decides
    in
    let has = subst (λ (m : ℕ). Has all (keyed m (alarm_number d.alarm))) (sym s.2)
    (subst (λ (k : ℕ). Has all (keyed n k)) same (stays n b refl fails)) in
    lacks (is_open all s.0 (alarm_number d.alarm)) closed (open_has all s.0.0 (alarm_number d.alarm) has)

clash : (all : List Keyed) (rows : List Prop) (row : Prop) (named : Named) (holds : Bool)
    → slice_get rows (number_of rows named) ≡ Some row → is_decided all row ≡ true
    → Stays all (visit named holds) → holds ≡ false → ⊥
clash all rows row (Dead q) holds is decides stays fails =
    let d = decision all row.site row.kind decides in
    let parts = and_parts (is_dead row.kind) (row.point.0 == q) (lands (claims_dead q) rows 0 row is) in
    true≢false (sym parts.0 ∙ ap is_dead d.is_alarm)
clash all rows row (Clause q k) holds is decides stays fails =
    let d = decision all row.site row.kind decides in
    let parts = and_parts (is_clause row.kind) (row.point.0 == q) (lands (clause_at q) rows k row is) in
    true≢false (sym parts.0 ∙ ap is_clause d.is_alarm)
clash all rows row (Check n b) holds is decides stays fails =
    check_clash all row n b holds decides (lands (check_of n b) rows 0 row is) stays fails
clash all rows row (Precondition q k) holds is decides stays fails =
    let d = decision all row.site row.kind decides in
    let parts = and_parts (is_call_requires row.kind) (row.point.0 == q)
    (lands (call_requires_at q) rows k row is) in
    true≢false (sym parts.0 ∙ ap is_call_requires d.is_alarm)

not_true : (b : Bool) → (b ≡ true → ⊥) → b ≡ false
not_true true h = absurd (h refl)
not_true false h = refl

is_false : (b : Bool) → not b ≡ true → b ≡ false
is_false b h = not_true b (lacks b h)

none_false : (all : List Keyed) (rows : List Prop) (m : ℕ) (row : Prop) (vs : List Visit)
    → slice_get rows m ≡ Some row → is_decided all row ≡ true → AllStay all vs
    → has_false m (map (numbered rows) vs) ≡ false
none_false all rows m row vs is decides stay =
    not_true (has_false m (map (numbered rows) vs)) (λ seen.
    let v = met_false rows m vs seen in
    clash all rows row v.visit.named v.visit.holds (ap (slice_get rows) v.number ∙ is) decides
    (each_has (Stays all) vs v.visit stay v.is_visit) (is_false v.visit.holds v.truth))

-- ---- entries

-- the entry is of a decided row
record Said (all : List Keyed) (rows : List Prop) (version : ℕ) (e : Entry) : Type 0 where
  number : ℕ
  row : Prop
  is_row : slice_get rows number ≡ Some row
  decides : is_decided all row ≡ true
  is : entry 1 (prop_id number) Status.True [] version ≡ e

one_said : (all : List Keyed) (rows : List Prop) (version n : ℕ) (r : Prop) (e : Entry) (rest : List Entry)
    (b : Bool)
    → is_decided all r ≡ b → slice_get rows n ≡ Some r → (Has rest e → Said all rows version e)
    → Has ((if b then entry 1 (prop_id n) Status.True [] version ∷ [] else []) ++ rest) e
    → Said all rows version e
one_said all rows version n r e rest true decides is more (inl same) =
    record { number = n; row = r; is_row = is; decides = decides; is = same }
one_said all rows version n r e rest true decides is more (inr h) = more h
one_said all rows version n r e rest false decides is more h = more h

entries_said : (all : List Keyed) (rows : List Prop) (version n : ℕ) (rs : List Prop) (e : Entry)
    → From rows n rs → Has (decided_entries version all n rs) e → Said all rows version e
entries_said all rows version n [] e from h = absurd h
entries_said all rows version n (r ∷ rs) e from h =
    one_said all rows version n r e (decided_entries version all (n + 1) rs) (is_decided all r) refl
    (from_here rows n r rs from) (entries_said all rows version (n + 1) rs e (from_next rows n r rs from)) h

-- each alarm that types decide is right over the runs
pub decided_right : RunsAreChained → DecidedAreRight
unfolding decided_said runs_of
decided_right chained p keeps version e has values =
    let rows = rows_of p in
    let all = open_checks p in
    let said = entries_said all rows version 0 rows e (from_all rows) has in
    subst (λ (x : Entry). IsRight (runs_of p values) x) said.is (λ hyps input n.
    none_false all rows said.number said.row (visits_of_run p values input n) said.is_row said.decides
    (run_stays (world_of p values) (run_of p values input n) keeps (chained p keeps values input n)))
