-- The properties of one point stand side by side.
use Rattle.std.proofs.Common.{◌≡◌, ◌∙◌, ◌+◌, ◌-◌, ◌≤◌, ℕ, zero, suc, List, [], ◌∷◌, ◌++◌, refl, ap, sym, arith}
use Rattle.std.specs.Prelude.{Some, None, Option, slice_get}
use Rattle.c_ir.specs.Keeps.{Keeps}
use Rattle.c_ir.specs.Programs.{Program}
use Rattle.c_ir.specs.declared.prop.Prop.{Prop}
use Rattle.c_ir.specs.declared.tree.Fun.{Fun}
use Rattle.c_ir.specs.declared.tree.PointInfo.{PointInfo}
use Rattle.prop_table.specs.Laws.{RowsTogether}
use Rattle.prop_table.specs.Rows.{Claim, Row, Spot, claims_at, rows_behind, rows_at, point_rows, points_rows, fn_rows, fns_rows, rows_of}
use Rattle.prop_table.proofs.Lists.{Each, each_at, From, from_all, from_here, from_next, Apart, Together, together_append, together_same}
use Rattle.prop_table.proofs.Places.{spot_at, same_number, InFn, InFns, points_fit, fn_fit, fns_fit, numbered_at}

abbrev point_of : Row → ℕ
point_of r = r.spot.point

-- ---- a point

behind_same : (s : Spot) (before cs : List Claim) → Each (λ r. point_of r ≡ s.point) (rows_behind s before cs)
behind_same s before [] = tt
behind_same s before (c ∷ cs) = (refl, behind_same s (before ++ c ∷ []) cs)

at_same : (p : Program) (s : Spot) (o : Option PointInfo) → Each (λ r. point_of r ≡ s.point) (rows_at p s o)
at_same p s None = tt
at_same p s (Some info) = behind_same s [] (claims_at p s.point info)

-- ---- a function

points_apart : (p : Program) (n q k : ℕ) (f : Fun) → Keeps p → slice_get p.fns n ≡ Some f → f.entry.0 ≤ q → suc k ≤ f.exit.0 + 1 - q → Apart point_of (point_rows p (spot_at n f q)) (points_rows p n f (q + 1) k)
points_apart p n q k f keeps is from room i j a c x y e =
    let here = each_at (λ r. point_of r ≡ q) (point_rows p (spot_at n f q)) i a (at_same p (spot_at n f q) (slice_get p.points q)) x in
    let there = each_at (InFn p n (q + 1)) (points_rows p n f (q + 1) k) j c (points_fit p n (q + 1) k f keeps is (omega arith) (omega arith)) y in
    omega (arith, here, there.from, e)

points_together : (p : Program) (n q k : ℕ) (f : Fun) → Keeps p → slice_get p.fns n ≡ Some f → f.entry.0 ≤ q → k ≤ f.exit.0 + 1 - q → Together point_of (points_rows p n f q k)
points_together p n q zero f keeps is from room = together_same point_of 0 [] tt
points_together p n q (suc k) f keeps is from room =
    together_append point_of (point_rows p (spot_at n f q)) (points_rows p n f (q + 1) k)
    (together_same point_of q (point_rows p (spot_at n f q)) (at_same p (spot_at n f q) (slice_get p.points q)))
    (points_together p n (q + 1) k f keeps is (omega arith) (omega arith))
    (points_apart p n q k f keeps is from room)

-- ---- all functions

fns_apart : (p : Program) (n : ℕ) (f : Fun) (fs : List Fun) → Keeps p → From p.fns n (f ∷ fs) → Apart point_of (fn_rows p n f) (fns_rows p (n + 1) fs)
fns_apart p n f fs keeps all i j a c x y e =
    let here = each_at (InFn p n f.entry.0) (fn_rows p n f) i a (fn_fit p n f keeps (from_here p.fns n f fs all)) x in
    let there = each_at (InFns p (n + 1)) (fns_rows p (n + 1) fs) j c (fns_fit p (n + 1) fs keeps (from_next p.fns n f fs all)) y in
    omega (arith, here.number, there.from, same_number p a.spot c.spot here.fits.spot there.fits.spot e)

fns_together : (p : Program) (n : ℕ) (fs : List Fun) → Keeps p → From p.fns n fs → Together point_of (fns_rows p n fs)
fns_together p n [] keeps all = together_same point_of 0 [] tt
fns_together p n (f ∷ fs) keeps all =
    together_append point_of (fn_rows p n f) (fns_rows p (n + 1) fs)
    (points_together p n f.entry.0 (f.exit.0 + 1 - f.entry.0) f keeps (from_here p.fns n f fs all) (omega arith) (omega arith))
    (fns_together p (n + 1) fs keeps (from_next p.fns n f fs all))
    (fns_apart p n f fs keeps all)

pub rows_together : RowsTogether
unfolding rows_of
rows_together p keeps i j k a b c ij jk x y z e =
    let rows = fns_rows p 0 p.fns in
    let l = numbered_at 0 rows i a x in
    let m = numbered_at 0 rows j b y in
    let n = numbered_at 0 rows k c z in
    let first = ap (λ (r : Prop). r.point.0) l.is in
    let middle = ap (λ (r : Prop). r.point.0) m.is in
    let last = ap (λ (r : Prop). r.point.0) n.is in
    let same = fns_together p 0 p.fns keeps (from_all p.fns) i j k l.row m.row n.row ij jk l.is_row m.is_row n.is_row (first ∙ e ∙ sym last) in
    sym middle ∙ same ∙ first
