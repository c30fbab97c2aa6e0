-- The properties of a point: the clauses' are the point's clauses in their order.
use Rattle.std.proofs.Common.{◌≡◌, ◌∙◌, ◌+◌, ◌<◌, ℕ, Bool, true, false, List, [], ◌∷◌, ◌++◌, append-nil, map, length, refl, ap, sym, subst}
use Rattle.std.proofs.lemmas.Bool.{and_parts, true≢false, eq-eqb}
use Rattle.std.proofs.lemmas.Option.{slice_get_within}
use Rattle.std.specs.List.{list_all}
use Rattle.std.specs.Prelude.{◌&&◌, Some, None, Option, slice_get}
use Rattle.fc_base.specs.declared.ids.Line.{Line}
use Rattle.c_ir.specs.Bodies.{Frame, Stand, bears, clause_fits, stand_of, same_stand}
use Rattle.c_ir.specs.Formed.{on_some}
use Rattle.c_ir.specs.Keeps.{Keeps}
use Rattle.c_ir.specs.Programs.{Program}
use Rattle.c_ir.specs.declared.kind.AlarmKind.{AlarmKind}
use Rattle.c_ir.specs.declared.kind.Kind.{Kind}
use Rattle.c_ir.specs.declared.kind.Kind.TheVariants as K
use Rattle.c_ir.specs.declared.prop.Prop.{Prop}
use Rattle.c_ir.specs.declared.tree.PointClause.{PointClause}
use Rattle.c_ir.specs.declared.tree.PointInfo.{PointInfo}
use Rattle.c_ir.specs.declared.tree.SiteInfo.{SiteInfo}
use Rattle.prop_table.specs.Points.{sites_at, calls_at, requires_at}
use Rattle.prop_table.specs.Rows.{Claim, Row, Spot, of_clause, alarm, alarms_of, alarms, of_requires, call_requires, claims_at, rows_behind, rows_at, point_rows, fns_rows, prop_of, numbered, rows_of}
use Rattle.prop_table.proofs.Lists.{Each, each_append}
use Rattle.prop_table.proofs.Places.{SpotFits}
use Rattle.prop_runs.specs.Numbers.{is_clause, place}
use Rattle.prop_runs.proofs.Blocks.{row_passes, block}
use Rattle.prop_runs.proofs.Finding.{passing, passing_append, passing_none, passing_all, found, kth, Along, passing_along, get_along, length_along}

-- ---- which claims are those of clauses

abbrev pub clause_claim : Claim → Bool
clause_claim c = is_clause c.kind

pub clause_kind : (s : Stand) (k : Kind) → on_some (same_stand s) (stand_of k) ≡ true → is_clause k ≡ true
clause_kind s K.Requires h = refl
clause_kind s K.CallRequires h = absurd (true≢false (sym h))
clause_kind s K.Ensures h = refl
clause_kind s K.Assert h = refl
clause_kind s K.Check h = refl
clause_kind s K.Admit h = refl
clause_kind s K.LoopInvariant h = refl
clause_kind s (K.Alarm a) h = absurd (true≢false (sym h))
clause_kind s K.Dead h = absurd (true≢false (sym h))

abbrev IsClause : Claim → Type 0
IsClause c = clause_claim c ≡ true

abbrev IsOther : Claim → Type 0
IsOther c = clause_claim c ≡ false

clauses_pass : (f : Frame) (s : Stand) (cs : List PointClause) → list_all (clause_fits f s) cs ≡ true
    → Each IsClause (map of_clause cs)
clauses_pass f s [] h = tt
clauses_pass f s (c ∷ cs) h =
    let parts = and_parts _ _ h in
    (clause_kind s c.kind (and_parts _ _ parts.0).0, clauses_pass f s cs parts.1)

alarm_other : (line : Line) (n : ℕ) (o : Option AlarmKind) → Each IsOther (alarm line n o)
alarm_other line n None = tt
alarm_other line n (Some a) = (refl, tt)

alarms_of_other : (line : Line) (n : ℕ) (o : Option SiteInfo) → Each IsOther (alarms_of line n o)
alarms_of_other line n None = tt
alarms_of_other line n (Some s) =
    each_append IsOther (alarm line n s.checks.first) (alarm line n s.checks.second)
    (alarm_other line n s.checks.first) (alarm_other line n s.checks.second)

alarms_other : (p : Program) (line : Line) (ns : List ℕ) → Each IsOther (alarms p line ns)
alarms_other p line [] = tt
alarms_other p line (n ∷ ns) =
    each_append IsOther (alarms_of line n (slice_get p.sites n)) (alarms p line ns)
    (alarms_of_other line n (slice_get p.sites n)) (alarms_other p line ns)

requires_other : (line : Line) (cs : List PointClause) → Each IsOther (map (of_requires line) cs)
requires_other line [] = tt
requires_other line (c ∷ cs) = (refl, requires_other line cs)

calls_other : (p : Program) (line : Line) (gs : List ℕ) → Each IsOther (call_requires p line gs)
calls_other p line [] = tt
calls_other p line (g ∷ gs) =
    each_append IsOther (map (of_requires line) (requires_at p g)) (call_requires p line gs)
    (requires_other line (requires_at p g)) (calls_other p line gs)

only_these : (xs ys : List Claim) → Each IsClause xs → Each IsOther ys → passing clause_claim (xs ++ ys) ≡ xs
only_these xs ys all none =
    let here : passing clause_claim xs ≡ xs = passing_all clause_claim xs all in
    let rest : passing clause_claim ys ≡ [] = passing_none clause_claim ys none in
    passing_append clause_claim xs ys ∙ ap (λ zs. passing clause_claim xs ++ zs) rest ∙ append-nil
    (passing clause_claim xs) ∙ here

-- those of the clauses of a point
pub clause_claims : (p : Program) (q : ℕ) (f : Frame) (s : Stand) (info : PointInfo) → bears f s info ≡ true
    → passing clause_claim (claims_at p q info) ≡ map of_clause info.clauses
unfolding claims_at
clause_claims p q f s info is =
    only_these (map of_clause info.clauses)
    (alarms p info.line (sites_at p q) ++ call_requires p info.line (calls_at p q))
    (clauses_pass f s info.clauses (and_parts _ _ (and_parts _ _ is).1).1)
    (each_append IsOther (alarms p info.line (sites_at p q)) _ (alarms_other p info.line (sites_at p q))
    (calls_other p info.line (calls_at p q)))

-- ---- from claims to rows, and from rows to properties

abbrev OfClaim : Spot → Row → Claim → Type 0
OfClaim s r c = (r.claim ≡ c) × (r.spot ≡ s)

behind_along : (s : Spot) (before cs : List Claim) → Along (OfClaim s) (rows_behind s before cs) cs
behind_along s before [] = tt
behind_along s before (c ∷ cs) = ((refl, refl), behind_along s (before ++ c ∷ []) cs)

abbrev pub OfRow : Prop → Row → Type 0
OfRow x r = (n : ℕ) × (prop_of n r ≡ x)

numbered_along : (id : ℕ) (rs : List Row) → Along OfRow (numbered id rs) rs
numbered_along id [] = tt
numbered_along id (r ∷ rs) = ((id, refl), numbered_along (id + 1) rs)

pub table_along : (p : Program) → Along OfRow (rows_of p) (fns_rows p 0 p.fns)
unfolding rows_of
table_along p = numbered_along 0 (fns_rows p 0 p.fns)

point_along : (p : Program) (s : Spot) (at : SpotFits p s)
    → Along (OfClaim s) (point_rows p s) (claims_at p s.point at.info)
point_along p s at =
    subst (λ (o : Option PointInfo). Along (OfClaim s) (rows_at p s o) (claims_at p s.point at.info))
    (sym at.is_info)
    (behind_along s [] (claims_at p s.point at.info))

-- the test of properties asks for the point, and for that what the test of claims asks for
abbrev pub Agrees : (Prop → Bool) → (Claim → Bool) → ℕ → Type 0
Agrees t c q = (n : ℕ) (r : Row) → t (prop_of n r) ≡ row_passes c q r

and_true : (a b : Bool) → b ≡ true → (a && b) ≡ a
and_true true b is = is
and_true false b is = refl

claim_agrees : (c : Claim → Bool) (s : Spot) (r : Row) (x : Claim) → OfClaim s r x
    → row_passes c s.point r ≡ c x
claim_agrees c s r x h =
    and_true (c r.claim) _ (eq-eqb r.spot.point s.point (ap (λ (u : Spot). u.point) h.1)) ∙ ap c h.0

passing_claims : (p : Program) (s : Spot) (c : Claim → Bool) → Keeps p → (at : SpotFits p s)
    → Along (OfClaim s) (passing (row_passes c s.point) (fns_rows p 0 p.fns))
    (passing c (claims_at p s.point at.info))
passing_claims p s c keeps at =
    subst (λ (rs : List Row). Along (OfClaim s) rs (passing c (claims_at p s.point at.info)))
    (sym (block c p s keeps at))
    (passing_along (OfClaim s) (row_passes c s.point) c (point_rows p s) (claims_at p s.point at.info)
    (claim_agrees c s) (point_along p s at))

passing_rows : (p : Program) (t : Prop → Bool) (c : Claim → Bool) (q : ℕ) → Agrees t c q
    → Along OfRow (passing t (rows_of p)) (passing (row_passes c q) (fns_rows p 0 p.fns))
passing_rows p t c q agrees =
    passing_along OfRow t (row_passes c q) (rows_of p) (fns_rows p 0 p.fns)
    (λ x r h. sym (ap t h.1) ∙ agrees h.0 r) (table_along p)

-- a property that is made of this claim
pub record Made (p : Program) (s : Spot) (c : Claim) (n : ℕ) : Type 0 where
  pub row : Prop
  pub is_row : slice_get (rows_of p) n ≡ Some row
  pub kind : row.kind ≡ c.kind
  pub function : row.function.0 ≡ s.number
  pub point : row.point.0 ≡ s.point

-- the k-th claim of a point that passes has the k-th property
pub claim_row : (p : Program) (s : Spot) (t : Prop → Bool) (c : Claim → Bool) → Keeps p → (at : SpotFits p s)
    → Agrees t c s.point
    → (k : ℕ) (x : Claim) → slice_get (passing c (claims_at p s.point at.info)) k ≡ Some x → Made p s x
    (place t (rows_of p) k)
claim_row p s t c keeps at agrees k x is =
    let r = get_along (OfClaim s) _ _ k x (passing_claims p s c keeps at) is in
    let y = get_along OfRow _ _ k r.0 (passing_rows p t c s.point agrees) r.1 in
    let same = y.2.1 in
    record {
      row = y.0;
      is_row = found t (rows_of p) k y.0 y.1;
      kind = sym (ap (λ (z : Prop). z.kind) same) ∙ ap (λ (z : Claim). z.kind) r.2.0;
      function = sym (ap (λ (z : Prop). z.function.0) same) ∙ ap (λ (z : Spot). z.number) r.2.1;
      point = sym (ap (λ (z : Prop). z.point.0) same) ∙ ap (λ (z : Spot). z.point) r.2.1;
    }

-- each property that passes is one of so many
pub row_count : (p : Program) (s : Spot) (t : Prop → Bool) (c : Claim → Bool) → Keeps p → (at : SpotFits p s)
    → Agrees t c s.point
    → (m : ℕ) (row : Prop) → slice_get (rows_of p) m ≡ Some row → t row ≡ true
    → (k : ℕ) × (place t (rows_of p) k ≡ m) × (k < length (passing c (claims_at p s.point at.info)))
row_count p s t c keeps at agrees m row is passes =
    let h = kth t (rows_of p) m row is passes in
    let within = slice_get_within (passing t (rows_of p)) h.count row h.is_member in
    let rows = length_along OfRow _ _ (passing_rows p t c s.point agrees) in
    let claims = length_along (OfClaim s) _ _ (passing_claims p s c keeps at) in
    (h.count, h.is_place, subst (λ (n : ℕ). h.count < n) (rows ∙ claims) within)
