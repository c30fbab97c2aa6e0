-- The runs of a program keep the laws of runs over its table, by the law of pieces.
use Rattle.std.proofs.Common.{◌≡◌, ◌∙◌, ◌==◌, inl, ◌<◌, ℕ, suc, ℤ, Bool, true, false, not, List, [], ◌∷◌, map, length, Some, slice_get, refl, ap, sym, subst}
use Rattle.std.proofs.lemmas.Bool.{and_parts, and_from, eqb-true, eq-eqb, true≢false}
use Rattle.fc_base.specs.declared.ids.PropId.{PropId}
use Rattle.c_ir.specs.Keeps.{Keeps}
use Rattle.c_ir.specs.Kinds.{is_dead}
use Rattle.c_ir.specs.Programs.{Program}
use Rattle.c_ir.specs.Table.{row_passes, claims_dead, dead_of, is_dead_row, is_firm_row, is_live, row_admitted}
use Rattle.c_ir.specs.declared.prop.Prop.{Prop}
use Rattle.c_ir.specs.declared.tree.PointClause.{PointClause}
use Rattle.c_runs.specs.Laws.{RunsAreChained}
use Rattle.c_runs.specs.Programs.{world_of, run_of, visits_of_run}
use Rattle.c_runs.specs.Statements.{World, clauses_in, clauses_at}
use Rattle.c_runs.specs.Visits.{Visit, visit, Dead, Clause}
use Rattle.prop_table.specs.Rows.{of_clause, claims_at, rows_of}
use Rattle.prop_table.proofs.Lists.{Each}
use Rattle.prop_table.proofs.Places.{rows_belong, spot_at}
use Rattle.prop_runs.specs.Laws.{RunsKeepLaws}
use Rattle.prop_runs.specs.Numbers.{is_clause, clause_at, number_of, numbered, props_of, runs_of}
use Rattle.prop_runs.proofs.Finding.{passing, position_is, position_member}
use Rattle.prop_runs.proofs.Pieces.{Shows, Source, run_sources, clause_shown}
use Rattle.prop_runs.proofs.Standing.{each_has}
use Rattle.prop_runs.proofs.Points.{clause_claim, row_count}
use Rattle.prop_runs.proofs.Telling.{pointed_at, clauses_are, Told}
use Rattle.status_history.specs.Claims.{Visit as Numbered, has_visit, has_false, has_true}
use Rattle.prop_runs.proofs.Meeting.{Met, Any, met, met_true, met_false, meets, row_if, dead_position, firm_clause, row_firm}

-- ---- the laws

-- a run of a program whose visits have their sources
pub record Ready (w : World) (vs : List Visit) : Type 0 where
  pub keeps : Keeps w.program
  pub sources : Each (Source w vs) vs

abbrev run_in : World → List Visit → List Numbered
run_in w vs = map (numbered (rows_of w.program)) vs

-- what the visit that has this number tells of the property
told : (w : World) (vs : List Visit) (m : ℕ) (row : Prop) (h : Bool → Type 0) → Ready w vs
    → slice_get (rows_of w.program) m ≡ Some row → (v : Met (rows_of w.program) m vs h)
    → (q : ℕ) × Told w.program w.entry q v.visit row × Shows w vs q
told w vs m row h ready is v =
    let source = each_has (Source w vs) vs v.visit ready.sources v.is_visit in
    (source.point, source.tells row (ap (slice_get (rows_of w.program)) v.number ∙ is), source.shows)

dead_number : (rows : List Prop) (m : ℕ) (row : Prop) (d : PropId) (q : ℕ) → slice_get rows m ≡ Some row
    → dead_of rows m ≡ Some d → row.point.0 ≡ q → number_of rows (Dead q) ≡ d.0
dead_number rows m row d q is dead at =
    subst (λ (r : ℕ). number_of rows (Dead r) ≡ d.0) at
    (position_is (claims_dead row.point.0) rows d.0 (dead_position rows m row d is dead))

dead_visited : (w : World) (vs : List Visit) (m : ℕ) (d : PropId) → Ready w vs
    → is_live (props_of w.program) m ≡ true → dead_of (rows_of w.program) m ≡ Some d
    → has_visit m (run_in w vs) ≡ true → has_visit d.0 (run_in w vs) ≡ true
dead_visited w vs m d ready live dead seen =
    let rows = rows_of w.program in
    let row = row_if (λ r. not (is_dead r.kind)) (slice_get rows m) live in
    let h = told w vs m row.0 Any ready row.1 (met rows m vs seen) in
    meets rows d.0 vs (visit (Dead h.0) false) (h.2.visits (visit (Dead h.0) false) (inl refl))
    (dead_number rows m row.0 d h.0 row.1 dead h.1.point)

not_true : (b : Bool) → (b ≡ true → ⊥) → b ≡ false
not_true true h = absurd (h refl)
not_true false h = refl

dead_false : (w : World) (vs : List Visit) (m : ℕ) → Ready w vs → is_dead_row (props_of w.program) m ≡ true
    → has_true m (run_in w vs) ≡ false
dead_false w vs m ready dead = not_true _ (λ seen.
    let rows = rows_of w.program in
    let row = row_if (λ r. is_dead r.kind) (slice_get rows m) dead in
    let v = met_true rows m vs seen in
    let h = told w vs m row.0 (λ b. b ≡ true) ready row.1 v in
    true≢false (sym v.truth ∙ (h.1.dead row.2).1))

lacks : (b : Bool) → not b ≡ true → b ≡ true → ⊥
lacks true n is = true≢false (sym n)
lacks false n is = true≢false (sym is)

admitted_true : (w : World) (vs : List Visit) (m : ℕ) → Ready w vs
    → row_passes (props_of w.program) (row_admitted (props_of w.program) w.entry) m ≡ true
    → has_false m (run_in w vs) ≡ false
admitted_true w vs m ready admitted = not_true _ (λ seen.
    let rows = rows_of w.program in
    let row = row_if (row_admitted (props_of w.program) w.entry) (slice_get rows m) admitted in
    let v = met_false rows m vs seen in
    let h = told w vs m row.0 (λ b. not b ≡ true) ready row.1 v in
    lacks v.visit.holds v.truth (h.1.admitted row.2))

named_point : (q r : ℕ) → Dead q ≡ Dead r → q ≡ r
named_point q r is = cc

-- a property of a clause is visited where its point's own are
clause_met : (w : World) (vs : List Visit) (m : ℕ) (row : Prop) → Keeps w.program
    → slice_get (rows_of w.program) m ≡ Some row → is_clause row.kind ≡ true → Shows w vs row.point.0
    → has_visit m (run_in w vs) ≡ true
clause_met w vs m row keeps is clause shows =
    let p = w.program in
    let q = row.point.0 in
    let belongs = rows_belong p keeps m row is in
    let at = pointed_at p q belongs.point keeps belongs.is_point in
    let k = row_count p (spot_at at.number at.function q) (clause_at q) clause_claim keeps at.fits
    (λ n r. refl) m row is
    (and_from _ _ clause (eq-eqb q q refl)) in
    let many : length (passing clause_claim (claims_at p q at.fits.info)) ≡ length (clauses_at p q) =
    ap length (clauses_are p q at) ∙ same_length at.fits.info.clauses ∙ ap
    (λ o. length (clauses_in o)) (sym at.fits.is_info) in
    let c = clause_shown w vs q k.0 shows (subst (λ (n : ℕ). k.0 < n) many k.2) in
    meets (rows_of p) m vs (visit (Clause q k.0) c.0) c.1 k.1
  where
    same_length : (cs : List PointClause) → length (map of_clause cs) ≡ length cs
    same_length [] = refl
    same_length (c ∷ cs) = ap (λ (n : ℕ). suc n) (same_length cs)

firm_visited : (w : World) (vs : List Visit) (m : ℕ) (d : PropId) → Ready w vs
    → is_firm_row (props_of w.program) m ≡ true → dead_of (rows_of w.program) m ≡ Some d
    → has_visit d.0 (run_in w vs) ≡ true → has_visit m (run_in w vs) ≡ true
firm_visited w vs m d ready firm dead seen =
    let rows = rows_of w.program in
    let row = row_if (λ r. r.firm) (slice_get rows m) firm in
    let there = position_member (claims_dead row.0.point.0) rows d.0
    (dead_position rows m row.0 d row.1 dead) in
    let parts = and_parts (is_dead there.0.kind) (there.0.point.0 == row.0.point.0) there.2 in
    let h = told w vs d.0 there.0 Any ready there.1 (met rows d.0 vs seen) in
    let at : h.0 ≡ row.0.point.0 = sym h.1.point ∙ eqb-true there.0.point.0 row.0.point.0 parts.1 in
    clause_met w vs m row.0 ready.keeps row.1
    (firm_clause row.0.kind (sym (row_firm w.program m row.0 row.1) ∙ row.2)) (subst (Shows w vs) at h.2)

pub run_ready : RunsAreChained → (p : Program) → Keeps p → (values input : List ℤ) (n : ℕ)
    → Ready (world_of p values) (visits_of_run p values input n)
run_ready chained p keeps values input n = record {
  keeps = keeps;
  sources = run_sources (world_of p values) (run_of p values input n) keeps (chained p keeps values input n);
}

-- the runs keep the laws
pub keeps_laws : RunsAreChained → RunsKeepLaws
unfolding runs_of
keeps_laws chained p keeps values input n =
    let w = world_of p values in
    let vs = visits_of_run p values input n in
    let ready = run_ready chained p keeps values input n in
    record {
      dead_visited = λ m d. dead_visited w vs m d ready;
      dead_false = λ m. dead_false w vs m ready;
      firm_visited = λ m d. firm_visited w vs m d ready;
      admitted_true = λ m. admitted_true w vs m ready;
    }
