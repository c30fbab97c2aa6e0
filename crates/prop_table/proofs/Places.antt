-- Each property stands at a point of its function, and an alarm is a check of its operator.
use Rattle.std.proofs.Common.{◌≡◌, ◌∙◌, ◌+◌, ◌-◌, ◌≤◌, ℕ, zero, suc, true, List, [], ◌∷◌, ◌++◌, refl, ap, sym, subst, arith}
use Rattle.std.proofs.lemmas.Bool.{and_parts, eqb-true, true≢false}
use Rattle.std.specs.Prelude.{Some, None, Option, slice_get}
use Rattle.c_ir.specs.Bodies.{Stand, bears, is_owned}
use Rattle.c_ir.specs.Formed.{on_some}
use Rattle.c_ir.specs.Keeps.{Keeps, frame_of}
use Rattle.c_ir.specs.Programs.{Program}
use Rattle.c_ir.specs.declared.prop.Prop.{Prop}
use Rattle.c_ir.specs.declared.tree.Fun.{Fun}
use Rattle.c_ir.specs.declared.tree.PointInfo.{PointInfo}
use Rattle.prop_table.specs.Laws.{Belongs, RowsBelong}
use Rattle.prop_table.specs.Rows.{Claim, Row, Spot, claims_at, rows_behind, rows_at, point_rows, points_rows, fn_rows, fns_rows, prop_of, numbered, rows_of}
use Rattle.prop_table.proofs.Claims.{ClaimFits, claims_fit}
use Rattle.prop_table.proofs.Lists.{not_some, some_is, Each, each_append, each_more, each_at, From, from_all, from_here, from_next}
use Rattle.prop_table.proofs.Ranges.{own_between}

-- ---- points

abbrev pub spot_at : ℕ → Fun → ℕ → Spot
spot_at n f q = record { number = n; function = f; point = q }

-- the point is one of the function's, and its clauses are those that may stand there
pub record SpotFits (p : Program) (s : Spot) : Type 0 where
  pub is_function : slice_get p.fns s.number ≡ Some s.function
  pub from : s.function.entry.0 ≤ s.point
  pub to : s.point ≤ s.function.exit.0
  pub info : PointInfo
  pub is_info : slice_get p.points s.point ≡ Some info
  pub stand : Stand
  pub stands : bears (frame_of p s.number s.function) stand info ≡ true
  pub owned : info.owner.0 ≡ s.number

spot_by : (p : Program) (n q : ℕ) (f : Fun) (stand : Stand) (o : Option PointInfo) → slice_get p.fns n ≡ Some f → f.entry.0 ≤ q → q ≤ f.exit.0 → slice_get p.points q ≡ o → on_some (bears (frame_of p n f) stand) o ≡ true → SpotFits p (spot_at n f q)
spot_by p n q f stand None is from to has fits = absurd (true≢false (sym fits))
spot_by p n q f stand (Some info) is from to has fits = record {
  is_function = is;
  from = from;
  to = to;
  info = info;
  is_info = has;
  stand = stand;
  stands = fits;
  owned = eqb-true info.owner.0 n (and_parts (is_owned n info) _ fits).0;
}

pub spot_fits : (p : Program) (n q : ℕ) (f : Fun) → Keeps p → slice_get p.fns n ≡ Some f → f.entry.0 ≤ q → q ≤ f.exit.0 → SpotFits p (spot_at n f q)
spot_fits p n q f k is from to =
    let own = own_between p n q f k is from to in
    spot_by p n q f own.0 (slice_get p.points q) is from to refl own.1

-- a point has one owner
pub same_number : (p : Program) (s t : Spot) → SpotFits p s → SpotFits p t → s.point ≡ t.point → s.number ≡ t.number
same_number p s t a b e =
    let there = subst (λ (q : ℕ). slice_get p.points q ≡ Some a.info) e a.is_info in
    let one = some_is a.info b.info (sym there ∙ b.is_info) in
    sym a.owned ∙ ap (λ (i : PointInfo). i.owner.0) one ∙ b.owned

-- ---- the properties of a point

pub record RowFits (p : Program) (r : Row) : Type 0 where
  pub spot : SpotFits p r.spot
  pub claim : ClaimFits p r.spot.point r.claim

-- it is of this function, and its point is this one or later
pub record InFn (p : Program) (n q : ℕ) (r : Row) : Type 0 where
  pub fits : RowFits p r
  pub number : r.spot.number ≡ n
  pub from : q ≤ r.spot.point

behind_fit : (p : Program) (s : Spot) (before cs : List Claim) → SpotFits p s → Each (ClaimFits p s.point) cs → Each (InFn p s.number s.point) (rows_behind s before cs)
behind_fit p s before [] at h = tt
behind_fit p s before (c ∷ cs) at h =
    (record { fits = record { spot = at; claim = h.0 }; number = refl; from = omega arith }, behind_fit p s (before ++ c ∷ []) cs at h.1)

pub point_fit : (p : Program) (s : Spot) → SpotFits p s → Each (InFn p s.number s.point) (point_rows p s)
point_fit p s at =
    let claims = claims_fit p s.point (frame_of p s.number s.function) at.stand at.info at.stands in
    subst (λ (o : Option PointInfo). Each (InFn p s.number s.point) (rows_at p s o)) (sym at.is_info) (behind_fit p s [] (claims_at p s.point at.info) at claims)

-- ---- those of a function

further : (p : Program) (n q : ℕ) (r : Row) → InFn p n (q + 1) r → InFn p n q r
further p n q r h = record { fits = h.fits; number = h.number; from = omega (arith, h.from) }

pub points_fit : (p : Program) (n q k : ℕ) (f : Fun) → Keeps p → slice_get p.fns n ≡ Some f → f.entry.0 ≤ q → k ≤ f.exit.0 + 1 - q → Each (InFn p n q) (points_rows p n f q k)
points_fit p n q zero f keeps is from room = tt
points_fit p n q (suc k) f keeps is from room =
    let at = spot_fits p n q f keeps is from (omega arith) in
    let rest = points_fit p n (q + 1) k f keeps is (omega arith) (omega arith) in
    each_append (InFn p n q) (point_rows p (spot_at n f q)) (points_rows p n f (q + 1) k) (point_fit p (spot_at n f q) at)
    (each_more (InFn p n (q + 1)) (InFn p n q) (points_rows p n f (q + 1) k) (further p n q) rest)

pub fn_fit : (p : Program) (n : ℕ) (f : Fun) → Keeps p → slice_get p.fns n ≡ Some f → Each (InFn p n f.entry.0) (fn_rows p n f)
fn_fit p n f keeps is = points_fit p n f.entry.0 (f.exit.0 + 1 - f.entry.0) f keeps is (omega arith) (omega arith)

-- ---- those of all functions

-- it is of this function or of a later one
pub record InFns (p : Program) (n : ℕ) (r : Row) : Type 0 where
  pub fits : RowFits p r
  pub from : n ≤ r.spot.number

in_fn : (p : Program) (n q : ℕ) (r : Row) → InFn p n q r → InFns p n r
in_fn p n q r h = record { fits = h.fits; from = omega (arith, h.number) }

in_later : (p : Program) (n : ℕ) (r : Row) → InFns p (n + 1) r → InFns p n r
in_later p n r h = record { fits = h.fits; from = omega (arith, h.from) }

pub fns_fit : (p : Program) (n : ℕ) (fs : List Fun) → Keeps p → From p.fns n fs → Each (InFns p n) (fns_rows p n fs)
fns_fit p n [] keeps all = tt
fns_fit p n (f ∷ fs) keeps all =
    let here = fn_fit p n f keeps (from_here p.fns n f fs all) in
    let rest = fns_fit p (n + 1) fs keeps (from_next p.fns n f fs all) in
    each_append (InFns p n) (fn_rows p n f) (fns_rows p (n + 1) fs) (each_more (InFn p n f.entry.0) (InFns p n) (fn_rows p n f) (in_fn p n f.entry.0) here)
    (each_more (InFns p (n + 1)) (InFns p n) (fns_rows p (n + 1) fs) (in_later p n) rest)

-- ---- properties with their numbers

-- the property at this place is made of a row there
pub record Numbered (rs : List Row) (i : ℕ) (r : Prop) : Type 0 where
  pub row : Row
  pub is_row : slice_get rs i ≡ Some row
  pub number : ℕ
  pub is : prop_of number row ≡ r

pub numbered_at : (id : ℕ) (rs : List Row) (i : ℕ) (r : Prop) → slice_get (numbered id rs) i ≡ Some r → Numbered rs i r
numbered_at id [] i r is = absurd (not_some r is)
numbered_at id (x ∷ rs) zero r is = record { row = x; is_row = refl; number = id; is = some_is (prop_of id x) r is }
numbered_at id (x ∷ rs) (suc i) r is =
    let h = numbered_at (id + 1) rs i r is in
    record { row = h.row; is_row = h.is_row; number = h.number; is = h.is }

belongs : (p : Program) (id : ℕ) (r : Row) → RowFits p r → Belongs p (prop_of id r)
belongs p id r h = record {
  function = r.spot.function;
  is_function = h.spot.is_function;
  from = h.spot.from;
  to = h.spot.to;
  point = h.spot.info;
  is_point = h.spot.is_info;
  owned = h.spot.owned;
  check = h.claim.check;
  has_site = h.claim.has_site;
}

pub rows_belong : RowsBelong
unfolding rows_of
rows_belong p keeps i r is =
    let h = numbered_at 0 (fns_rows p 0 p.fns) i r is in
    let fits = each_at (InFns p 0) (fns_rows p 0 p.fns) i h.row (fns_fit p 0 p.fns keeps (from_all p.fns)) h.is_row in
    subst (Belongs p) h.is (belongs p h.number h.row fits.fits)
