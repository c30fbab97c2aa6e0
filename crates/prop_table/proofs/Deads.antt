-- Each point has one Dead.
use Rattle.std.proofs.Common.{◌≡◌, ◌∙◌, ◌+◌, ◌-◌, ◌<◌, ◌≤◌, ◌⊎◌, inl, inr, ℕ, zero, suc, Bool, true, false, List, [], ◌∷◌, ◌++◌, length, refl, ap, sym, subst, arith}
use Rattle.std.proofs.lemmas.Bool.{and_parts, and_from, eqb-true, eq-eqb, ne_eqb, true≢false}
use Rattle.std.proofs.lemmas.Option.{slice_get_within}
use Rattle.std.specs.Prelude.{◌==◌, ◌&&◌, Some, Option, slice_get}
use Rattle.c_ir.specs.Keeps.{Keeps, frame_of}
use Rattle.c_ir.specs.Kinds.{is_dead}
use Rattle.c_ir.specs.Programs.{Program}
use Rattle.c_ir.specs.declared.kind.Kind.{Kind}
use Rattle.c_ir.specs.declared.kind.Kind.TheVariants as K
use Rattle.c_ir.specs.declared.prop.Prop.{Prop}
use Rattle.c_ir.specs.declared.tree.Fun.{Fun}
use Rattle.c_ir.specs.declared.tree.PointInfo.{PointInfo}
use Rattle.prop_table.specs.Laws.{IsDeadOf, OneDead}
use Rattle.prop_table.specs.Rows.{Claim, Row, Spot, claims_at, row_of, rows_behind, rows_at, point_rows, points_rows, fn_rows, fns_rows, prop_of, numbered, rows_of}
use Rattle.prop_table.proofs.Claims.{claims_dead, one_claims_dead}
use Rattle.prop_table.proofs.Lists.{some_is, not_some, Each, each_more, From, from_all, from_here, from_next, one_if, tally, tally_append, tally_none, Sole, sole}
use Rattle.prop_table.proofs.Places.{spot_at, SpotFits, spot_fits, same_number, InFn, InFns, points_fit, fn_fit, fns_fit, numbered_at}

-- the row is a Dead of this point
abbrev row_dead : ℕ → Row → Bool
row_dead q r = r.spot.point == q && claims_dead r.claim

abbrev deads : ℕ → List Row → ℕ
deads q rs = tally (row_dead q) rs

-- ---- at one point

behind_here : (q : ℕ) (s : Spot) (before cs : List Claim) → (s.point == q) ≡ true → deads q (rows_behind s before cs) ≡ tally claims_dead cs
behind_here q s before [] is = refl
behind_here q s before (c ∷ cs) is =
    let first : one_if (row_dead q (row_of s before c)) ≡ one_if (claims_dead c) = ap (λ (b : Bool). one_if (b && claims_dead c)) is in
    omega (arith, first, behind_here q s (before ++ c ∷ []) cs is)

behind_other : (q : ℕ) (s : Spot) (before cs : List Claim) → (s.point == q) ≡ false → deads q (rows_behind s before cs) ≡ 0
behind_other q s before [] is = refl
behind_other q s before (c ∷ cs) is =
    let first : one_if (row_dead q (row_of s before c)) ≡ 0 = ap (λ (b : Bool). one_if (b && claims_dead c)) is in
    omega (arith, first, behind_other q s (before ++ c ∷ []) cs is)

point_here : (p : Program) (q : ℕ) (s : Spot) → SpotFits p s → (s.point == q) ≡ true → deads q (point_rows p s) ≡ 1
point_here p q s at is =
    let one = one_claims_dead p s.point (frame_of p s.number s.function) at.stand at.info at.stands in
    subst (λ (o : Option PointInfo). deads q (rows_at p s o) ≡ 1) (sym at.is_info) (behind_here q s [] (claims_at p s.point at.info) is ∙ one)

point_other : (p : Program) (q : ℕ) (s : Spot) → SpotFits p s → (s.point == q) ≡ false → deads q (point_rows p s) ≡ 0
point_other p q s at is =
    subst (λ (o : Option PointInfo). deads q (rows_at p s o) ≡ 0) (sym at.is_info) (behind_other q s [] (claims_at p s.point at.info) is)

-- ---- rows of other points

none_of : (q : ℕ) (rs : List Row) → Each (λ r. r.spot.point ≡ q → ⊥) rs → deads q rs ≡ 0
none_of q rs h =
    tally_none (row_dead q) rs
    (each_more (λ (r : Row). r.spot.point ≡ q → ⊥) (λ (r : Row). row_dead q r ≡ false) rs (λ r other. ap (λ (b : Bool). b && claims_dead r.claim) (ne_eqb r.spot.point q other)) h)

after_point : (p : Program) (n q : ℕ) (r : Row) → InFn p n (q + 1) r → r.spot.point ≡ q → ⊥
after_point p n q r h e = omega (arith, h.from, e)

-- ---- a function

here_or_later : (a b : ℕ) → a ≤ b → (a ≡ b) ⊎ (a < b)
here_or_later a b h = grind arith

sum_first : (a b : ℕ) → a ≡ 1 → b ≡ 0 → a + b ≡ 1
sum_first a b x y = omega (arith, x, y)

sum_second : (a b : ℕ) → a ≡ 0 → b ≡ 1 → a + b ≡ 1
sum_second a b x y = omega (arith, x, y)

-- rows of points after this one
points_none : (p : Program) (n q k : ℕ) (f : Fun) → Keeps p → slice_get p.fns n ≡ Some f → f.entry.0 ≤ q → suc k ≤ f.exit.0 + 1 - q → deads q (points_rows p n f (q + 1) k) ≡ 0
points_none p n q k f keeps is from room =
    let rest = points_fit p n (q + 1) k f keeps is (omega arith) (omega arith) in
    none_of q (points_rows p n f (q + 1) k)
    (each_more (InFn p n (q + 1)) (λ r. r.spot.point ≡ q → ⊥) (points_rows p n f (q + 1) k) (after_point p n q) rest)

points_one : (p : Program) (n q s k : ℕ) (f : Fun) → Keeps p → slice_get p.fns n ≡ Some f → f.entry.0 ≤ s → k ≤ f.exit.0 + 1 - s → s ≤ q → q < s + k → deads q (points_rows p n f s k) ≡ 1
points_one p n q s zero f keeps is from room low high = absurd (omega arith)
points_one p n q s (suc k) f keeps is from room low high =
    let at = spot_fits p n s f keeps is from (omega arith) in
    let both = tally_append (row_dead q) (point_rows p (spot_at n f s)) (points_rows p n f (s + 1) k) in
    let none = points_none p n s k f keeps is from room in
    elim (here_or_later s q low) [
      | inl e ↦ both ∙ sum_first _ _ (point_here p q (spot_at n f s) at (eq-eqb s q e)) (subst (λ (x : ℕ). deads x (points_rows p n f (s + 1) k) ≡ 0) e none)
      | inr less ↦ both ∙ sum_second _ _ (point_other p q (spot_at n f s) at (ne_eqb s q (λ e. omega (arith, less, e)))) (points_one p n q (s + 1) k f keeps is (omega arith) (omega arith) (omega (arith, less)) (omega arith))
    ]

fn_one : (p : Program) (s : Spot) → Keeps p → SpotFits p s → deads s.point (fn_rows p s.number s.function) ≡ 1
fn_one p s keeps at =
    let entry = s.function.entry.0 in
    points_one p s.number s.point entry (s.function.exit.0 + 1 - entry) s.function keeps at.is_function (omega arith) (omega arith) at.from (omega (arith, at.from, at.to))

-- ---- all functions

-- rows of functions from one on that is behind the point's own
fns_none : (p : Program) (s : Spot) (n : ℕ) (fs : List Fun) → Keeps p → SpotFits p s → s.number < n → From p.fns n fs → deads s.point (fns_rows p n fs) ≡ 0
fns_none p s n fs keeps at less all =
    none_of s.point (fns_rows p n fs)
    (each_more (InFns p n) (λ r. r.spot.point ≡ s.point → ⊥) (fns_rows p n fs) (λ r h e. omega (arith, same_number p r.spot s h.fits.spot at e, h.from, less)) (fns_fit p n fs keeps all))

fn_none : (p : Program) (s : Spot) (n : ℕ) (f : Fun) → Keeps p → SpotFits p s → n < s.number → slice_get p.fns n ≡ Some f → deads s.point (fn_rows p n f) ≡ 0
fn_none p s n f keeps at less is =
    none_of s.point (fn_rows p n f)
    (each_more (InFn p n f.entry.0) (λ r. r.spot.point ≡ s.point → ⊥) (fn_rows p n f) (λ r h e. omega (arith, same_number p r.spot s h.fits.spot at e, h.number, less)) (fn_fit p n f keeps is))

own_one : (p : Program) (s : Spot) (n : ℕ) (f : Fun) → Keeps p → SpotFits p s → n ≡ s.number → slice_get p.fns n ≡ Some f → deads s.point (fn_rows p n f) ≡ 1
own_one p s n f keeps at e is =
    let there = subst (λ (m : ℕ). slice_get p.fns m ≡ Some f) e is in
    let same_fn : s.function ≡ f = some_is s.function f (sym at.is_function ∙ there) in
    subst (λ (m : ℕ). deads s.point (fn_rows p m f) ≡ 1) (sym e) (subst (λ (g : Fun). deads s.point (fn_rows p s.number g) ≡ 1) same_fn (fn_one p s keeps at))

fns_one : (p : Program) (s : Spot) (n : ℕ) (fs : List Fun) → Keeps p → SpotFits p s → n ≤ s.number → s.number < n + length fs → From p.fns n fs → deads s.point (fns_rows p n fs) ≡ 1
fns_one p s n [] keeps at low high all = absurd (omega (arith, low, high))
fns_one p s n (f ∷ fs) keeps at low high all =
    let here = from_here p.fns n f fs all in
    let next = from_next p.fns n f fs all in
    let both = tally_append (row_dead s.point) (fn_rows p n f) (fns_rows p (n + 1) fs) in
    elim (here_or_later n s.number low) [
      | inl e ↦ both ∙ sum_first _ _ (own_one p s n f keeps at e here) (fns_none p s (n + 1) fs keeps at (omega (arith, e)) next)
      | inr less ↦ both ∙ sum_second _ _ (fn_none p s n f keeps at less here) (fns_one p s (n + 1) fs keeps at (omega (arith, less)) (omega (arith, high)) next)
    ]

-- ---- properties with their numbers

dead_kind : (k : Kind) → is_dead k ≡ true → k ≡ K.Dead
dead_kind K.Requires h = absurd (true≢false (sym h))
dead_kind K.CallRequires h = absurd (true≢false (sym h))
dead_kind K.Ensures h = absurd (true≢false (sym h))
dead_kind K.Assert h = absurd (true≢false (sym h))
dead_kind K.Check h = absurd (true≢false (sym h))
dead_kind K.Admit h = absurd (true≢false (sym h))
dead_kind K.LoopInvariant h = absurd (true≢false (sym h))
dead_kind (K.Alarm a) h = absurd (true≢false (sym h))
dead_kind K.Dead h = refl

-- a row has a number
record HasNumber (id : ℕ) (rs : List Row) (i : ℕ) (r : Row) : Type 0 where
  number : ℕ
  is : slice_get (numbered id rs) i ≡ Some (prop_of number r)

has_number : (id : ℕ) (rs : List Row) (i : ℕ) (r : Row) → slice_get rs i ≡ Some r → HasNumber id rs i r
has_number id [] i r is = absurd (not_some r is)
has_number id (x ∷ rs) zero r is = record { number = id; is = ap (λ (y : Row). Some (prop_of id y)) (some_is x r is) }
has_number id (x ∷ rs) (suc i) r is =
    let h = has_number (id + 1) rs i r is in
    record { number = h.number; is = h.is }

is_dead_of : (p : Program) (q : ℕ) (i : ℕ) (r : Row) → slice_get (fns_rows p 0 p.fns) i ≡ Some r → row_dead q r ≡ true → IsDeadOf p q i
unfolding rows_of
is_dead_of p q i r is dead =
    let h = has_number 0 (fns_rows p 0 p.fns) i r is in
    let parts = and_parts _ _ dead in
    record { row = prop_of h.number r; is_row = h.is; kind = dead_kind r.claim.kind parts.1; point = eqb-true r.spot.point q parts.0 }

only_dead : (p : Program) (q : ℕ) (s : Sole (row_dead q) (fns_rows p 0 p.fns)) (i : ℕ) → IsDeadOf p q i → i ≡ s.place
unfolding rows_of
only_dead p q s i h =
    let n = numbered_at 0 (fns_rows p 0 p.fns) i h.row h.is_row in
    let kind = ap (λ (r : Prop). r.kind) n.is ∙ h.kind in
    let point = ap (λ (r : Prop). r.point.0) n.is ∙ h.point in
    s.only i n.row n.is_row (and_from _ _ (eq-eqb n.row.spot.point q point) (ap (λ (k : Kind). is_dead k) kind))

pub one_dead : OneDead
one_dead p keeps q less =
    let h = keeps.points q less in
    let s = spot_at h.number h.function q in
    let at = spot_fits p h.number q h.function keeps h.is_function h.from h.to in
    let within = slice_get_within p.fns h.number h.function h.is_function in
    let one = sole (row_dead q) (fns_rows p 0 p.fns) (fns_one p s 0 p.fns keeps at (omega arith) (omega (arith, within)) (from_all p.fns)) in
    record {
      number = one.place;
      is_dead = is_dead_of p q one.place one.member one.is_member one.passes;
      only = only_dead p q one;
    }
