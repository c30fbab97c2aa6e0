-- What holds of each claim at a point of a function: an alarm is a check of its operator, and only the first is Dead.
use Rattle.std.proofs.Common.{◌≡◌, ◌∙◌, ◌+◌, ◌⊎◌, inl, inr, ℕ, Bool, true, false, List, [], ◌∷◌, ◌++◌, map, refl, ap, sym, subst}
use Rattle.std.proofs.lemmas.Bool.{and_parts, eqb-true, true≢false}
use Rattle.std.specs.List.{list_all}
use Rattle.std.specs.Prelude.{◌==◌, Some, None, Option, slice_get, is_some, if◌then◌else◌}
use Rattle.fc_base.specs.declared.ids.Line.{Line}
use Rattle.fc_base.specs.declared.ids.SiteId.{SiteId}
use Rattle.c_ir.specs.Bodies.{Frame, Stand, bears, clause_fits, stand_of, same_stand}
use Rattle.c_ir.specs.Formed.{on_some}
use Rattle.c_ir.specs.Kinds.{is_dead}
use Rattle.c_ir.specs.Programs.{Program}
use Rattle.c_ir.specs.declared.kind.AlarmKind.{AlarmKind}
use Rattle.c_ir.specs.declared.kind.Kind.{Kind}
use Rattle.c_ir.specs.declared.kind.Kind.TheVariants as K
use Rattle.c_ir.specs.declared.tree.PointClause.{PointClause}
use Rattle.c_ir.specs.declared.tree.PointInfo.{PointInfo}
use Rattle.c_ir.specs.declared.tree.SiteInfo.{SiteInfo}
use Rattle.prop_table.specs.Laws.{IsCheck, is_alarm}
use Rattle.prop_table.specs.Points.{numbers_at, noted_sites, sites_at, calls_at, requires_at}
use Rattle.prop_table.specs.Rows.{Claim, plain, of_clause, alarm, alarms_of, alarms, of_requires, call_requires, claims_at}
use Rattle.prop_table.proofs.Lists.{some_is, not_some, Each, each_append, each_more, From, from_all, from_here, from_next, tally, tally_none}

pub record ClaimFits (p : Program) (q : ℕ) (c : Claim) : Type 0 where
  pub check : (s : SiteId) → c.site ≡ Some s → IsCheck p q c.kind s.0
  pub has_site : is_some c.site ≡ is_alarm c.kind

-- one after the first
record LaterFits (p : Program) (q : ℕ) (c : Claim) : Type 0 where
  fits : ClaimFits p q c
  not_dead : is_dead c.kind ≡ false

without_site : (p : Program) (q : ℕ) (c : Claim) → c.site ≡ None → is_alarm c.kind ≡ false → ClaimFits p q c
without_site p q c none kind = record {
  check = λ s is. absurd (not_some s (sym none ∙ is));
  has_site = ap (λ (s : Option SiteId). is_some s) none ∙ sym kind;
}

-- ---- clauses

-- neither an alarm nor Dead
abbrev IsNote : Kind → Type 0
IsNote k = (is_alarm k ≡ false) × (is_dead k ≡ false)

note_kind : (s : Stand) (k : Kind) → on_some (same_stand s) (stand_of k) ≡ true → IsNote k
note_kind s K.Requires h = (refl, refl)
note_kind s K.CallRequires h = (refl, refl)
note_kind s K.Ensures h = (refl, refl)
note_kind s K.Assert h = (refl, refl)
note_kind s K.Check h = (refl, refl)
note_kind s K.Admit h = (refl, refl)
note_kind s K.LoopInvariant h = (refl, refl)
note_kind s (K.Alarm a) h = absurd (true≢false (sym h))
note_kind s K.Dead h = absurd (true≢false (sym h))

clauses_later : (p : Program) (q : ℕ) (f : Frame) (s : Stand) (cs : List PointClause) → list_all (clause_fits f s) cs ≡ true → Each (LaterFits p q) (map of_clause cs)
clauses_later p q f s [] h = tt
clauses_later p q f s (c ∷ cs) h =
    let parts = and_parts _ _ h in
    let kind = note_kind s c.kind (and_parts _ _ parts.0).0 in
    (record { fits = without_site p q (of_clause c) refl kind.0; not_dead = kind.1 }, clauses_later p q f s cs parts.1)

-- ---- operators

-- the operator with this number is evaluated at this point
record IsAt (p : Program) (q : ℕ) (n : ℕ) : Type 0 where
  site : SiteInfo
  is_site : slice_get p.sites n ≡ Some site
  point : site.point.0 ≡ q

one_at : (p : Program) (q n : ℕ) (s : SiteInfo) (ns : List ℕ) (t : Bool) → (s.point.0 == q) ≡ t → slice_get p.sites n ≡ Some s → Each (IsAt p q) ns → Each (IsAt p q) (if t then n ∷ ns else ns)
one_at p q n s ns true is here rest = (record { site = s; is_site = here; point = eqb-true s.point.0 q is }, rest)
one_at p q n s ns false is here rest = rest

all_at : (p : Program) (q n : ℕ) (ss : List SiteInfo) → From p.sites n ss → Each (IsAt p q) (numbers_at q (noted_sites n ss))
all_at p q n [] h = tt
all_at p q n (s ∷ ss) h =
    one_at p q n s (numbers_at q (noted_sites (n + 1) ss)) (s.point.0 == q) refl (from_here p.sites n s ss h) (all_at p q (n + 1) ss (from_next p.sites n s ss h))

sites_are_at : (p : Program) (q : ℕ) → Each (IsAt p q) (sites_at p q)
unfolding sites_at
sites_are_at p q = all_at p q 0 p.sites (from_all p.sites)

alarm_later : (p : Program) (q : ℕ) (line : Line) (n : ℕ) (o : Option AlarmKind) → ((a : AlarmKind) → o ≡ Some a → IsCheck p q (K.Alarm a) n) → Each (LaterFits p q) (alarm line n o)
alarm_later p q line n None h = tt
alarm_later p q line n (Some a) h = (record { fits = fits; not_dead = refl }, tt)
  where
    number : SiteId
    number = record { 0 = n }

    fits : ClaimFits p q (plain (K.Alarm a) line (Some number))
    fits = record {
      check = λ s is. subst (λ (m : SiteId). IsCheck p q (K.Alarm a) m.0) (some_is number s is) (h a refl);
      has_site = refl;
    }

alarms_of_later : (p : Program) (q : ℕ) (line : Line) (n : ℕ) (o : Option SiteInfo) → slice_get p.sites n ≡ o → IsAt p q n → Each (LaterFits p q) (alarms_of line n o)
alarms_of_later p q line n None is at = tt
alarms_of_later p q line n (Some s) is at =
    let point : s.point.0 ≡ q = subst (λ (x : SiteInfo). x.point.0 ≡ q) (some_is at.site s (sym at.is_site ∙ is)) at.point in
    let first = λ (a : AlarmKind) (e : s.checks.first ≡ Some a). check_of a (inl e) point in
    let second = λ (a : AlarmKind) (e : s.checks.second ≡ Some a). check_of a (inr e) point in
    each_append (LaterFits p q) (alarm line n s.checks.first) (alarm line n s.checks.second)
    (alarm_later p q line n s.checks.first first) (alarm_later p q line n s.checks.second second)
  where
    check_of : (a : AlarmKind) → (s.checks.first ≡ Some a) ⊎ (s.checks.second ≡ Some a) → s.point.0 ≡ q → IsCheck p q (K.Alarm a) n
    check_of a has point = record { operator = s; is_operator = is; at_point = point; alarm = a; is_kind = refl; check = has }

alarms_later : (p : Program) (q : ℕ) (line : Line) (ns : List ℕ) → Each (IsAt p q) ns → Each (LaterFits p q) (alarms p line ns)
alarms_later p q line [] h = tt
alarms_later p q line (n ∷ ns) h =
    each_append (LaterFits p q) (alarms_of line n (slice_get p.sites n)) (alarms p line ns)
    (alarms_of_later p q line n (slice_get p.sites n) refl h.0) (alarms_later p q line ns h.1)

-- ---- calls

requires_later : (p : Program) (q : ℕ) (line : Line) (cs : List PointClause) → Each (LaterFits p q) (map (of_requires line) cs)
requires_later p q line [] = tt
requires_later p q line (c ∷ cs) =
    (record { fits = without_site p q (of_requires line c) refl refl; not_dead = refl }, requires_later p q line cs)

calls_later : (p : Program) (q : ℕ) (line : Line) (gs : List ℕ) → Each (LaterFits p q) (call_requires p line gs)
calls_later p q line [] = tt
calls_later p q line (g ∷ gs) =
    each_append (LaterFits p q) (map (of_requires line) (requires_at p g)) (call_requires p line gs)
    (requires_later p q line (requires_at p g)) (calls_later p q line gs)

-- ---- all claims at a point

abbrev later : Program → ℕ → PointInfo → List Claim
later p q info = map of_clause info.clauses ++ (alarms p info.line (sites_at p q) ++ call_requires p info.line (calls_at p q))

all_later : (p : Program) (q : ℕ) (f : Frame) (s : Stand) (info : PointInfo) → bears f s info ≡ true → Each (LaterFits p q) (later p q info)
all_later p q f s info is =
    let clauses = (and_parts _ _ (and_parts _ _ is).1).1 in
    each_append (LaterFits p q) (map of_clause info.clauses) _ (clauses_later p q f s info.clauses clauses)
    (each_append (LaterFits p q) (alarms p info.line (sites_at p q)) _ (alarms_later p q info.line (sites_at p q) (sites_are_at p q)) (calls_later p q info.line (calls_at p q)))

pub claims_fit : (p : Program) (q : ℕ) (f : Frame) (s : Stand) (info : PointInfo) → bears f s info ≡ true → Each (ClaimFits p q) (claims_at p q info)
unfolding claims_at
claims_fit p q f s info is =
    (without_site p q (plain K.Dead info.line None) refl refl, each_more (LaterFits p q) (ClaimFits p q) (later p q info) (λ c h. h.fits) (all_later p q f s info is))

abbrev pub claims_dead : Claim → Bool
claims_dead c = is_dead c.kind

pub one_claims_dead : (p : Program) (q : ℕ) (f : Frame) (s : Stand) (info : PointInfo) → bears f s info ≡ true → tally claims_dead (claims_at p q info) ≡ 1
unfolding claims_at
one_claims_dead p q f s info is =
    let none = tally_none claims_dead (later p q info) (each_more (LaterFits p q) (λ c. claims_dead c ≡ false) (later p q info) (λ c h. h.not_dead) (all_later p q f s info is)) in
    ap (λ (n : ℕ). 1 + n) none
