-- What a visit of a run says of the property that has its number: where that stands, and of which kind it is.
use Rattle.std.proofs.Common.{◌≡◌, ◌∙◌, ◌==◌, ◌<◌, ℕ, zero, suc, ℤ, Bool, true, false, not, ◌||◌, List, [], ◌∷◌, map, length, Option, Some, None, slice_get, refl, ap, sym, subst}
use Rattle.std.proofs.lemmas.Bool.{and_parts, eqb-true, true≢false}
use Rattle.std.proofs.lemmas.Option.{slice_get_within}
use Rattle.fc_base.specs.declared.ids.SiteId.{SiteId}
use Rattle.c_ir.specs.Formed.{on_some}
use Rattle.c_ir.specs.Keeps.{Keeps, frame_of}
use Rattle.c_ir.specs.Kinds.{is_dead}
use Rattle.c_ir.specs.Programs.{Program}
use Rattle.c_ir.specs.Props.{Props}
use Rattle.c_ir.specs.Table.{claims_dead, kind_admitted, row_admitted}
use Rattle.c_ir.specs.declared.kind.AlarmKind.{AlarmKind}
use Rattle.c_ir.specs.declared.kind.Kind.{Kind}
use Rattle.c_ir.specs.declared.kind.Kind.TheVariants as K
use Rattle.c_ir.specs.declared.prop.Prop.{Prop}
use Rattle.c_ir.specs.declared.tree.Fun.{Fun}
use Rattle.c_ir.specs.declared.tree.PointClause.{PointClause}
use Rattle.c_ir.specs.declared.tree.PointInfo.{PointInfo}
use Rattle.c_ir.specs.declared.tree.SiteInfo.{SiteInfo}
use Rattle.c_runs.specs.Visits.{Cells, Visit, visit, Named, Dead, Clause, Check, Precondition}
use Rattle.c_runs.specs.Statements.{World, clauses_in, clauses_at, owner_in, owner_at, is_met, functions_of}
use Rattle.c_runs.specs.Truth.{holds}
use Rattle.prop_table.specs.Laws.{Belongs}
use Rattle.prop_table.specs.Rows.{Claim, of_clause, claims_at, rows_of}
use Rattle.prop_table.proofs.Lists.{some_is, not_some}
use Rattle.prop_table.proofs.Places.{spot_at, SpotFits, spot_fits, rows_belong}
use Rattle.prop_runs.specs.Numbers.{is_clause, is_call_requires, is_alarm_of, clause_at, call_requires_at, check_of, place, number_of, props_of}
use Rattle.prop_runs.proofs.Finding.{passing, lands}
use Rattle.prop_runs.proofs.Points.{clause_claim, clause_claims, claim_row, Made}
use Rattle.prop_runs.proofs.Operators.{OwnCheck}

-- ---- kinds

-- neither Dead nor ever admitted
abbrev Lone : Kind → Type 0
Lone k = (is_dead k ≡ false) × ((t : Props) (entry : ℤ) (f : ℕ) → kind_admitted t entry f k ≡ false)

requires_lone : (k : Kind) → is_call_requires k ≡ true → Lone k
requires_lone K.Requires h = absurd (true≢false (sym h))
requires_lone K.CallRequires h = (refl, λ t entry f. refl)
requires_lone K.Ensures h = absurd (true≢false (sym h))
requires_lone K.Assert h = absurd (true≢false (sym h))
requires_lone K.Check h = absurd (true≢false (sym h))
requires_lone K.Admit h = absurd (true≢false (sym h))
requires_lone K.LoopInvariant h = absurd (true≢false (sym h))
requires_lone (K.Alarm a) h = absurd (true≢false (sym h))
requires_lone K.Dead h = absurd (true≢false (sym h))

alarm_lone : (a : AlarmKind) (k : Kind) → is_alarm_of a k ≡ true → Lone k
alarm_lone a K.Requires h = absurd (true≢false (sym h))
alarm_lone a K.CallRequires h = absurd (true≢false (sym h))
alarm_lone a K.Ensures h = absurd (true≢false (sym h))
alarm_lone a K.Assert h = absurd (true≢false (sym h))
alarm_lone a K.Check h = absurd (true≢false (sym h))
alarm_lone a K.Admit h = absurd (true≢false (sym h))
alarm_lone a K.LoopInvariant h = absurd (true≢false (sym h))
alarm_lone a (K.Alarm b) h = (refl, λ t entry f. refl)
alarm_lone a K.Dead h = absurd (true≢false (sym h))

dead_admits : (t : Props) (entry : ℤ) (f : ℕ) (k : Kind) → is_dead k ≡ true → kind_admitted t entry f k ≡ true
    → ⊥
dead_admits t entry f K.Requires h is = true≢false (sym h)
dead_admits t entry f K.CallRequires h is = true≢false (sym h)
dead_admits t entry f K.Ensures h is = true≢false (sym h)
dead_admits t entry f K.Assert h is = true≢false (sym h)
dead_admits t entry f K.Check h is = true≢false (sym h)
dead_admits t entry f K.Admit h is = true≢false (sym h)
dead_admits t entry f K.LoopInvariant h is = true≢false (sym h)
dead_admits t entry f (K.Alarm a) h is = true≢false (sym h)
dead_admits t entry f K.Dead h is = true≢false (sym is)

clause_alive : (k : Kind) → is_clause k ≡ true → is_dead k ≡ true → ⊥
clause_alive K.Requires h is = true≢false (sym is)
clause_alive K.CallRequires h is = true≢false (sym is)
clause_alive K.Ensures h is = true≢false (sym is)
clause_alive K.Assert h is = true≢false (sym is)
clause_alive K.Check h is = true≢false (sym is)
clause_alive K.Admit h is = true≢false (sym is)
clause_alive K.LoopInvariant h is = true≢false (sym is)
clause_alive (K.Alarm a) h is = true≢false (sym is)
clause_alive K.Dead h is = true≢false (sym h)

-- ---- what a visit tells

-- the property is of this point; if it is Dead, so is what is named, and it is false; an admitted one holds
pub record Told (p : Program) (entry : ℤ) (q : ℕ) (v : Visit) (row : Prop) : Type 0 where
  pub point : row.point.0 ≡ q
  pub dead : is_dead row.kind ≡ true → (v.named ≡ Dead q) × (v.holds ≡ false)
  pub admitted : row_admitted (props_of p) entry row ≡ true → v.holds ≡ true

-- of the property with the visit's number, if there is one
abbrev pub Tells : Program → ℤ → ℕ → Visit → Type 0
Tells p entry q v =
    (row : Prop) → slice_get (rows_of p) (number_of (rows_of p) v.named) ≡ Some row → Told p entry q v row

pub dead_tells : (p : Program) (entry : ℤ) (q : ℕ) → Tells p entry q (visit (Dead q) false)
dead_tells p entry q row is =
    let parts = and_parts (is_dead row.kind) (row.point.0 == q)
    (lands (claims_dead q) (rows_of p) 0 row is) in
    record {
      point = eqb-true row.point.0 q parts.1;
      dead = λ h. (refl, refl);
      admitted = λ h. absurd (dead_admits (props_of p) entry row.function.0 row.kind parts.0 h);
    }

lone_told : (p : Program) (entry : ℤ) (q : ℕ) (v : Visit) (row : Prop) → row.point.0 ≡ q → Lone row.kind
    → Told p entry q v row
lone_told p entry q v row is h = record {
  point = is;
  dead = λ d. absurd (true≢false (sym d ∙ h.0));
  admitted = λ a. absurd (true≢false (sym a ∙ h.1 (props_of p) entry row.function.0));
}

pub precondition_tells : (p : Program) (entry : ℤ) (q k : ℕ) (b : Bool)
    → Tells p entry q (visit (Precondition q k) b)
precondition_tells p entry q k b row is =
    let parts = and_parts (is_call_requires row.kind) (row.point.0 == q)
    (lands (call_requires_at q) (rows_of p) k row is) in
    lone_told p entry q (visit (Precondition q k) b) row (eqb-true row.point.0 q parts.1)
    (requires_lone row.kind parts.0)

-- ---- checks

site_of : (n : ℕ) (o : Option SiteId) → on_some (λ s. s.0 == n) o ≡ true
    → (s : SiteId) × (o ≡ Some s) × (s.0 ≡ n)
site_of n None h = absurd (true≢false (sym h))
site_of n (Some s) h = (s, refl, eqb-true s.0 n h)

-- the operator of a check has one point
check_point : (p : Program) (q n : ℕ) (row : Prop) (operator : SiteInfo) → Belongs p row
    → on_some (λ s. s.0 == n) row.site ≡ true → slice_get p.sites n ≡ Some operator → operator.point.0 ≡ q
    → row.point.0 ≡ q
check_point p q n row operator b has is at =
    let s = site_of n row.site has in
    let check = b.check s.0 s.1 in
    let there = subst (λ (m : ℕ). slice_get p.sites m ≡ Some check.operator) s.2 check.is_operator in
    let same = some_is check.operator operator (sym there ∙ is) in
    sym check.at_point ∙ ap (λ (i : SiteInfo). i.point.0) same ∙ at

check_told : (p : Program) (entry : ℤ) (q n : ℕ) (a : AlarmKind) (v : Visit) (operator : SiteInfo) → Keeps p
    → v.named ≡ Check n a → slice_get p.sites n ≡ Some operator → operator.point.0 ≡ q → Tells p entry q v
check_told p entry q n a v operator keeps named is at row has =
    let m = number_of (rows_of p) v.named in
    let there = subst (λ (x : Named). slice_get (rows_of p) (number_of (rows_of p) x) ≡ Some row) named has in
    let parts = and_parts (is_alarm_of a row.kind) (on_some (λ s. s.0 == n) row.site)
    (lands (check_of n a) (rows_of p) 0 row there) in
    lone_told p entry q v row (check_point p q n row operator (rows_belong p keeps m row has) parts.1 is at)
    (alarm_lone a row.kind parts.0)

pub check_tells : (p : Program) (entry : ℤ) (q : ℕ) (v : Visit) → Keeps p → OwnCheck p q v → Tells p entry q v
check_tells p entry q v keeps h =
    check_told p entry q h.site h.alarm v h.operator keeps h.is h.is_operator h.at_point

-- ---- clauses

-- the point is one of a function
pub record Pointed (p : Program) (q : ℕ) : Type 0 where
  pub number : ℕ
  pub function : Fun
  pub fits : SpotFits p (spot_at number function q)

pub pointed : (p : Program) (q : ℕ) → Keeps p → q < length p.points → Pointed p q
pointed p q keeps less =
    let h = keeps.points q less in
    record {
      number = h.number;
      function = h.function;
      fits = spot_fits p h.number q h.function keeps h.is_function h.from h.to;
    }

pub pointed_at : (p : Program) (q : ℕ) (info : PointInfo) → Keeps p → slice_get p.points q ≡ Some info
    → Pointed p q
pointed_at p q info keeps is = pointed p q keeps (slice_get_within p.points q info is)

mapped : (cs : List PointClause) (k : ℕ) (c : PointClause) → slice_get cs k ≡ Some c
    → slice_get (map of_clause cs) k ≡ Some (of_clause c)
mapped [] k c is = absurd (not_some c is)
mapped (x ∷ cs) zero c is = ap (λ (y : PointClause). Some (of_clause y)) (some_is x c is)
mapped (x ∷ cs) (suc k) c is = mapped cs k c is

-- the claims of clauses at a point
pub clauses_are : (p : Program) (q : ℕ) (h : Pointed p q)
    → passing clause_claim (claims_at p q h.fits.info) ≡ map of_clause h.fits.info.clauses
clauses_are p q h = clause_claims p q (frame_of p h.number h.function) h.fits.stand h.fits.info h.fits.stands

pub clause_made : (p : Program) (q k : ℕ) (c : PointClause) → Keeps p → (h : Pointed p q)
    → slice_get h.fits.info.clauses k ≡ Some c
    → Made p (spot_at h.number h.function q) (of_clause c) (place (clause_at q) (rows_of p) k)
clause_made p q k c keeps h is =
    claim_row p (spot_at h.number h.function q) (clause_at q) clause_claim keeps h.fits (λ n r. refl) k
    (of_clause c)
    (ap (λ (cs : List Claim). slice_get cs k) (clauses_are p q h) ∙ mapped h.fits.info.clauses k c is)

or_true : (a b : Bool) → (not a || b) ≡ true → a ≡ true → b ≡ true
or_true true b is h = is
or_true false b is h = absurd (true≢false (sym h))

clause_told : (w : World) (q k : ℕ) (entry now : Cells) (c : PointClause) → Keeps w.program
    → (h : Pointed w.program q) → slice_get h.fits.info.clauses k ≡ Some c → is_met w q entry now c ≡ true
    → Tells w.program w.entry q (visit (Clause q k) (holds c.pred now entry))
clause_told w q k entry now c keeps h at met row is =
    let p = w.program in
    let made = clause_made p q k c keeps h at in
    let same = some_is made.row row (sym made.is_row ∙ is) in
    let kind = sym (ap (λ (r : Prop). r.kind) same) ∙ made.kind in
    let function = sym (ap (λ (r : Prop). r.function.0) same) ∙ made.function in
    let owner : owner_at p q ≡ h.number = ap owner_in h.fits.is_info ∙ h.fits.owned in
    let passes = and_parts (is_clause row.kind) (row.point.0 == q)
    (lands (clause_at q) (rows_of p) k row is) in
    record {
      point = eqb-true row.point.0 q passes.1;
      dead = λ d. absurd (clause_alive row.kind passes.0 d);
      admitted = λ a.
          let here = subst
          (λ (x : Kind). kind_admitted (props_of p) w.entry row.function.0 x ≡ true) kind a in
          let there = subst (λ (f : ℕ). kind_admitted (props_of p) w.entry f c.kind ≡ true)
          (function ∙ sym owner) here in
          or_true (kind_admitted (functions_of p) w.entry (owner_at p q) c.kind)
          (holds c.pred now entry) met there;
    }

clause_by : (w : World) (q k : ℕ) (entry now : Cells) (c : PointClause) (o : Option PointInfo)
    → Keeps w.program → slice_get w.program.points q ≡ o → slice_get (clauses_in o) k ≡ Some c
    → is_met w q entry now c ≡ true → Tells w.program w.entry q (visit (Clause q k) (holds c.pred now entry))
clause_by w q k entry now c None keeps is at met = absurd (not_some c at)
clause_by w q k entry now c (Some info) keeps is at met =
    let h = pointed_at w.program q info keeps is in
    let same = some_is info h.fits.info (sym is ∙ h.fits.is_info) in
    clause_told w q k entry now c keeps h
    (subst (λ (i : PointInfo). slice_get i.clauses k ≡ Some c) same at) met

pub clause_tells : (w : World) (q k : ℕ) (entry now : Cells) (c : PointClause) → Keeps w.program
    → slice_get (clauses_at w.program q) k ≡ Some c → is_met w q entry now c ≡ true
    → Tells w.program w.entry q (visit (Clause q k) (holds c.pred now entry))
clause_tells w q k entry now c keeps at met =
    clause_by w q k entry now c (slice_get w.program.points q) keeps refl at met
