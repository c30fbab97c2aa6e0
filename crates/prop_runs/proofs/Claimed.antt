-- What a run names of the clauses and checks of a point of the program is in the table, and so is its Dead.
use Rattle.std.proofs.Common.{◌≡◌, ◌∙◌, ◌==◌, ◌⊎◌, inl, inr, ◌<◌, ◌+◌, ℕ, zero, suc, Bool, true, false, ◌&&◌, List, [], ◌∷◌, ◌++◌, map, length, Option, Some, None, slice_get, refl, ap, sym, subst, arith}
use Rattle.std.proofs.lemmas.Bool.{and_parts, and_from, eqb-true, eq-eqb, true≢false}
use Rattle.std.specs.Prelude.{if◌then◌else◌}
use Rattle.fc_base.specs.declared.ids.Line.{Line}
use Rattle.fc_base.specs.declared.ids.SiteId.{SiteId}
use Rattle.c_ir.specs.Formed.{on_some}
use Rattle.c_ir.specs.Keeps.{Keeps}
use Rattle.c_ir.specs.Kinds.{is_dead}
use Rattle.c_ir.specs.Programs.{Program}
use Rattle.c_ir.specs.Sited.{alarm_number}
use Rattle.c_ir.specs.Table.{claims_dead}
use Rattle.c_ir.specs.declared.kind.AlarmKind.{AlarmKind}
use Rattle.c_ir.specs.declared.kind.Kind.TheVariants as K
use Rattle.c_ir.specs.declared.prop.Prop.{Prop}
use Rattle.c_ir.specs.declared.tree.PointClause.{PointClause}
use Rattle.c_ir.specs.declared.tree.PointInfo.{PointInfo}
use Rattle.c_ir.specs.declared.tree.SiteInfo.{SiteInfo}
use Rattle.c_runs.specs.Parts.{Has}
use Rattle.c_runs.specs.Statements.{clauses_in}
use Rattle.c_runs.specs.Visits.{Visit, Named, Dead, Clause}
use Rattle.prop_table.specs.Points.{numbers_at, noted_sites, sites_at, calls_at}
use Rattle.prop_table.specs.Rows.{Claim, plain, of_clause, alarm, alarms_of, alarms, call_requires, claims_at, rows_of}
use Rattle.prop_table.proofs.Deads.{one_dead}
use Rattle.prop_table.proofs.Lists.{not_some}
use Rattle.prop_table.proofs.Places.{spot_at}
use Rattle.prop_runs.specs.Numbers.{is_alarm_of, check_of, place, number_of}
use Rattle.prop_runs.proofs.Finding.{lands, first_place, some_passes}
use Rattle.prop_runs.proofs.Standing.{has_left, has_right}
use Rattle.prop_runs.proofs.Points.{claim_row}
use Rattle.prop_runs.proofs.Operators.{IsAlarm, OwnCheck}
use Rattle.prop_runs.proofs.Telling.{pointed, clause_made}

-- what is named has a property
abbrev pub Exists : Program → Named → Type 0
Exists p v = (row : Prop) × (slice_get (rows_of p) (number_of (rows_of p) v) ≡ Some row)

-- ---- Dead and clauses

pub dead_exists : (p : Program) (q : ℕ) → Keeps p → q < length p.points → Exists p (Dead q)
dead_exists p q keeps less =
    let h = one_dead p keeps q less in
    let d = h.is_dead in
    first_place (claims_dead q) (rows_of p) h.number d.row d.is_row
    (and_from (is_dead d.row.kind) (d.row.point.0 == q) (ap is_dead d.kind) (eq-eqb d.row.point.0 q d.point))

pub clause_exists : (p : Program) (q k : ℕ) (c : PointClause) → Keeps p → q < length p.points
    → slice_get (clauses_in (slice_get p.points q)) k ≡ Some c → Exists p (Clause q k)
clause_exists p q k c keeps less is =
    let h = pointed p q keeps less in
    let made = clause_made p q k c keeps h
    (ap (λ (o : Option PointInfo). slice_get (clauses_in o) k) (sym h.fits.is_info) ∙ is) in
    (made.row, made.is_row)

-- ---- checks

pub numbers_first : (b : Bool) (n : ℕ) (ns : List ℕ) → b ≡ true → Has (if b then n ∷ ns else ns) n
numbers_first true n ns is = inl refl
numbers_first false n ns is = absurd (true≢false (sym is))

pub numbers_later : (b : Bool) (m n : ℕ) (ns : List ℕ) → Has ns n → Has (if b then m ∷ ns else ns) n
numbers_later true m n ns h = inr h
numbers_later false m n ns h = h

-- an operator is noted at its point
site_noted : (q m j : ℕ) (ss : List SiteInfo) (s : SiteInfo) → slice_get ss j ≡ Some s → s.point.0 ≡ q
    → Has (numbers_at q (noted_sites m ss)) (m + j)
site_noted q m j [] s is at = absurd (not_some s is)
site_noted q m zero (x ∷ ss) s is at =
    let same : x ≡ s = cc in
    let e : m ≡ m + 0 = omega arith in
    subst (λ (n : ℕ). Has (numbers_at q (noted_sites m (x ∷ ss))) n) e
    (numbers_first (x.point.0 == q) m (numbers_at q (noted_sites (m + 1) ss))
    (eq-eqb x.point.0 q (ap (λ (i : SiteInfo). i.point.0) same ∙ at)))
site_noted q m (suc j) (x ∷ ss) s is at =
    let e : (m + 1) + j ≡ m + suc j = omega arith in
    subst (λ (n : ℕ). Has (numbers_at q (noted_sites m (x ∷ ss))) n) e
    (numbers_later (x.point.0 == q) m ((m + 1) + j) (numbers_at q (noted_sites (m + 1) ss))
    (site_noted q (m + 1) j ss s is at))

site_at : (p : Program) (q n : ℕ) (s : SiteInfo) → slice_get p.sites n ≡ Some s → s.point.0 ≡ q
    → Has (sites_at p q) n
unfolding sites_at
site_at p q n s is at =
    let e : 0 + n ≡ n = omega arith in
    subst (λ (m : ℕ). Has (numbers_at q (noted_sites 0 p.sites)) m) e (site_noted q 0 n p.sites s is at)

-- what a claim of this check passes
abbrev alarm_claim : ℕ → AlarmKind → Claim → Bool
alarm_claim n a c = is_alarm_of a c.kind && on_some (λ s. s.0 == n) c.site

-- a claim that passes
abbrev HasOne : (Claim → Bool) → List Claim → Type 0
HasOne t cs = (c : Claim) × Has cs c × (t c ≡ true)

one_left : (t : Claim → Bool) (xs ys : List Claim) → HasOne t xs → HasOne t (xs ++ ys)
one_left t xs ys h = (h.0, has_left xs ys h.0 h.1, h.2)

one_right : (t : Claim → Bool) (xs ys : List Claim) → HasOne t ys → HasOne t (xs ++ ys)
one_right t xs ys h = (h.0, has_right xs ys h.0 h.1, h.2)

alarm_one : (line : Line) (n : ℕ) (a : AlarmKind) (o : Option AlarmKind) → IsAlarm o a
    → HasOne (alarm_claim n a) (alarm line n o)
alarm_one line n a None is = absurd (true≢false (sym is))
alarm_one line n a (Some b) is =
    let same = sym (eqb-true (alarm_number b) (alarm_number a) is) in
    let site : Option SiteId = Some (record { 0 = n }) in (
      plain (K.Alarm b) line site,
      inl refl,
      and_from (alarm_number a == alarm_number b) (n == n)
          (eq-eqb (alarm_number a) (alarm_number b) same) (eq-eqb n n refl),
    )

alarms_of_one : (line : Line) (n : ℕ) (a : AlarmKind) (s : SiteInfo)
    → IsAlarm s.checks.first a ⊎ IsAlarm s.checks.second a
    → HasOne (alarm_claim n a) (alarms_of line n (Some s))
alarms_of_one line n a s (inl is) =
    one_left (alarm_claim n a) (alarm line n s.checks.first) (alarm line n s.checks.second)
    (alarm_one line n a s.checks.first is)
alarms_of_one line n a s (inr is) =
    one_right (alarm_claim n a) (alarm line n s.checks.first) (alarm line n s.checks.second)
    (alarm_one line n a s.checks.second is)

alarms_one : (p : Program) (line : Line) (n : ℕ) (a : AlarmKind) (ns : List ℕ)
    → HasOne (alarm_claim n a) (alarms_of line n (slice_get p.sites n)) → Has ns n
    → HasOne (alarm_claim n a) (alarms p line ns)
alarms_one p line n a [] one h = absurd h
alarms_one p line n a (m ∷ ns) one (inl is) =
    one_left (alarm_claim n a) (alarms_of line m (slice_get p.sites m)) (alarms p line ns)
    (subst (λ (x : ℕ). HasOne (alarm_claim n a) (alarms_of line x (slice_get p.sites x))) (sym is) one)
alarms_one p line n a (m ∷ ns) one (inr h) =
    one_right (alarm_claim n a) (alarms_of line m (slice_get p.sites m)) (alarms p line ns)
    (alarms_one p line n a ns one h)

check_claimed : (p : Program) (q : ℕ) (v : Visit) (info : PointInfo) → (h : OwnCheck p q v)
    → HasOne (alarm_claim h.site h.alarm) (claims_at p q info)
unfolding claims_at
check_claimed p q v info h =
    let t = alarm_claim h.site h.alarm in
    let sites = alarms p info.line (sites_at p q) in
    let calls = call_requires p info.line (calls_at p q) in
    let here = subst (λ (o : Option SiteInfo). HasOne t (alarms_of info.line h.site o)) (sym h.is_operator)
    (alarms_of_one info.line h.site h.alarm h.operator h.check) in
    let one = alarms_one p info.line h.site h.alarm (sites_at p q) here
    (site_at p q h.site h.operator h.is_operator h.at_point) in
    one_right t (plain K.Dead info.line None ∷ []) (map of_clause info.clauses ++ (sites ++ calls))
    (one_right t (map of_clause info.clauses) (sites ++ calls) (one_left t sites calls one))

pub check_exists : (p : Program) (q : ℕ) (v : Visit) → Keeps p → q < length p.points → OwnCheck p q v
    → Exists p v.named
check_exists p q v keeps less h =
    let at = pointed p q keeps less in
    let claim = check_claimed p q v at.fits.info h in
    let c = alarm_claim h.site h.alarm in
    let first = some_passes c (claims_at p q at.fits.info) claim.0 claim.1 claim.2 in
    let t : Prop → Bool = λ r. check_of h.site h.alarm r && (r.point.0 == q) in
    let made = claim_row p (spot_at at.number at.function q) t c keeps at.fits
    (λ n r. refl) 0 first.0 first.1 in
    let passes = and_parts (check_of h.site h.alarm made.row) (made.row.point.0 == q)
    (lands t (rows_of p) 0 made.row made.is_row) in
    subst (Exists p) (sym h.is)
    (first_place (check_of h.site h.alarm) (rows_of p) (place t (rows_of p) 0) made.row made.is_row passes.0)
