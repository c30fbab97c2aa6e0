-- Of all rows only those of one point pass a test that asks for the point.
use Rattle.std.proofs.Common.{◌≡◌, ◌∙◌, ◌+◌, ◌-◌, ◌<◌, ◌≤◌, ◌⊎◌, inl, inr, ℕ, zero, suc, Bool, true, false, List, [], ◌∷◌, ◌++◌, append-nil, length, refl, ap, sym, subst, arith}
use Rattle.std.proofs.lemmas.Bool.{ne_eqb}
use Rattle.std.proofs.lemmas.Option.{slice_get_within}
use Rattle.std.specs.Prelude.{◌==◌, ◌&&◌, Some, None, Option, slice_get}
use Rattle.c_ir.specs.Keeps.{Keeps}
use Rattle.c_ir.specs.Programs.{Program}
use Rattle.c_ir.specs.declared.tree.Fun.{Fun}
use Rattle.c_ir.specs.declared.tree.PointInfo.{PointInfo}
use Rattle.prop_table.specs.Rows.{Claim, Row, Spot, claims_at, rows_behind, rows_at, point_rows, points_rows, fn_rows, fns_rows}
use Rattle.prop_table.proofs.Lists.{some_is, Each, each_more, From, from_all, from_here, from_next}
use Rattle.prop_table.proofs.Places.{spot_at, SpotFits, same_number, InFn, InFns, points_fit, fn_fit, fns_fit}
use Rattle.prop_runs.proofs.Finding.{passing, passing_append, passing_none}

-- the row is of this point, and its claim passes
abbrev pub row_passes : (Claim → Bool) → ℕ → Row → Bool
row_passes t q r = t r.claim && (r.spot.point == q)

and_no : (a b : Bool) → b ≡ false → (a && b) ≡ false
and_no true b is = is
and_no false b is = refl

both_parts : {X : Type 0} (us vs xs ys : List X) → us ≡ xs → vs ≡ ys → us ++ vs ≡ xs ++ ys
both_parts us vs xs ys a b = cc

-- the first part passes, and nothing of the second
only_first : {X : Type 0} (us vs xs : List X) → us ≡ xs → vs ≡ [] → us ++ vs ≡ xs
only_first us vs xs a b = both_parts us vs xs [] a b ∙ append-nil xs

only_second : {X : Type 0} (us vs ys : List X) → us ≡ [] → vs ≡ ys → us ++ vs ≡ ys
only_second us vs ys a b = both_parts us vs [] ys a b

-- rows of other points
none_of : (t : Claim → Bool) (q : ℕ) (rs : List Row) → Each (λ r. r.spot.point ≡ q → ⊥) rs
    → passing (row_passes t q) rs ≡ []
none_of t q rs h =
    passing_none (row_passes t q) rs
    (each_more (λ (r : Row). r.spot.point ≡ q → ⊥) (λ (r : Row). row_passes t q r ≡ false) rs
    (λ r other. and_no (t r.claim) _ (ne_eqb r.spot.point q other)) h)

-- ---- a function

here_or_later : (a b : ℕ) → a ≤ b → (a ≡ b) ⊎ (a < b)
here_or_later a b h = grind arith

behind_same : (s : Spot) (before cs : List Claim)
    → Each (λ r. r.spot.point ≡ s.point) (rows_behind s before cs)
behind_same s before [] = tt
behind_same s before (c ∷ cs) = (refl, behind_same s (before ++ c ∷ []) cs)

at_same : (p : Program) (s : Spot) (o : Option PointInfo) → Each (λ r. r.spot.point ≡ s.point) (rows_at p s o)
at_same p s None = tt
at_same p s (Some info) = behind_same s [] (claims_at p s.point info)

point_other : (t : Claim → Bool) (p : Program) (q : ℕ) (s : Spot) → (s.point ≡ q → ⊥)
    → passing (row_passes t q) (point_rows p s) ≡ []
point_other t p q s other =
    none_of t q (point_rows p s)
    (each_more (λ (r : Row). r.spot.point ≡ s.point) (λ (r : Row). r.spot.point ≡ q → ⊥) (point_rows p s)
    (λ r is e. other (sym is ∙ e)) (at_same p s (slice_get p.points s.point)))

-- rows of points after this one
points_none : (t : Claim → Bool) (p : Program) (n q k : ℕ) (f : Fun) → Keeps p → slice_get p.fns n ≡ Some f
    → f.entry.0 ≤ q → suc k ≤ f.exit.0 + 1 - q → passing (row_passes t q) (points_rows p n f (q + 1) k) ≡ []
points_none t p n q k f keeps is from room =
    let rest = points_fit p n (q + 1) k f keeps is (omega arith) (omega arith) in
    none_of t q (points_rows p n f (q + 1) k)
    (each_more (InFn p n (q + 1)) (λ r. r.spot.point ≡ q → ⊥) (points_rows p n f (q + 1) k)
    (λ r h e. omega (arith, h.from, e)) rest)

points_one : (t : Claim → Bool) (p : Program) (n q s k : ℕ) (f : Fun) → Keeps p → slice_get p.fns n ≡ Some f
    → f.entry.0 ≤ s → k ≤ f.exit.0 + 1 - s → s ≤ q → q < s + k
    → passing (row_passes t q) (points_rows p n f s k) ≡ passing (row_passes t q)
    (point_rows p (spot_at n f q))
points_one t p n q s zero f keeps is from room low high = absurd (omega arith)
points_one t p n q s (suc k) f keeps is from room low high =
    let both = passing_append (row_passes t q) (point_rows p (spot_at n f s)) (points_rows p n f (s + 1) k) in
    let none = points_none t p n s k f keeps is from room in
    let here : (e : s ≡ q) → passing (row_passes t q) (point_rows p (spot_at n f s)) ≡ passing
    (row_passes t q) (point_rows p (spot_at n f q)) =
    λ e. ap (λ (x : ℕ). passing (row_passes t q) (point_rows p (spot_at n f x))) e in
    elim (here_or_later s q low) [
      | inl e ↦ both ∙ only_first _ _ _ (here e)
          (subst (λ (x : ℕ). passing (row_passes t x) (points_rows p n f (s + 1) k) ≡ []) e none)
      | inr less ↦ both ∙ only_second _ _ _ (point_other t p q (spot_at n f s) (λ e. omega (arith, less, e)))
          (points_one t p n q (s + 1) k f keeps is (omega arith) (omega arith) (omega (arith, less))
          (omega arith))
    ]

fn_one : (t : Claim → Bool) (p : Program) (s : Spot) → Keeps p → SpotFits p s
    → passing (row_passes t s.point) (fn_rows p s.number s.function)
    ≡ passing (row_passes t s.point) (point_rows p s)
fn_one t p s keeps at =
    let entry = s.function.entry.0 in
    points_one t p s.number s.point entry (s.function.exit.0 + 1 - entry) s.function keeps at.is_function
    (omega arith) (omega arith) at.from (omega (arith, at.from, at.to))

-- ---- all functions

-- rows of functions from one on that is behind the point's own
fns_none : (t : Claim → Bool) (p : Program) (s : Spot) (n : ℕ) (fs : List Fun) → Keeps p → SpotFits p s
    → s.number < n → From p.fns n fs → passing (row_passes t s.point) (fns_rows p n fs) ≡ []
fns_none t p s n fs keeps at less all =
    none_of t s.point (fns_rows p n fs)
    (each_more (InFns p n) (λ r. r.spot.point ≡ s.point → ⊥) (fns_rows p n fs)
    (λ r h e. omega (arith, same_number p r.spot s h.fits.spot at e, h.from, less))
    (fns_fit p n fs keeps all))

fn_none : (t : Claim → Bool) (p : Program) (s : Spot) (n : ℕ) (f : Fun) → Keeps p → SpotFits p s
    → n < s.number → slice_get p.fns n ≡ Some f → passing (row_passes t s.point) (fn_rows p n f) ≡ []
fn_none t p s n f keeps at less is =
    none_of t s.point (fn_rows p n f)
    (each_more (InFn p n f.entry.0) (λ r. r.spot.point ≡ s.point → ⊥) (fn_rows p n f)
    (λ r h e. omega (arith, same_number p r.spot s h.fits.spot at e, h.number, less)) (fn_fit p n f keeps is))

own_one : (t : Claim → Bool) (p : Program) (s : Spot) (n : ℕ) (f : Fun) → Keeps p → SpotFits p s
    → n ≡ s.number → slice_get p.fns n ≡ Some f
    → passing (row_passes t s.point) (fn_rows p n f) ≡ passing (row_passes t s.point) (point_rows p s)
own_one t p s n f keeps at e is =
    let there = subst (λ (m : ℕ). slice_get p.fns m ≡ Some f) e is in
    let same_fn : s.function ≡ f = some_is s.function f (sym at.is_function ∙ there) in
    let mine = passing (row_passes t s.point) (point_rows p s) in
    subst (λ (m : ℕ). passing (row_passes t s.point) (fn_rows p m f) ≡ mine) (sym e)
    (subst (λ (g : Fun). passing (row_passes t s.point) (fn_rows p s.number g) ≡ mine) same_fn
    (fn_one t p s keeps at))

fns_one : (t : Claim → Bool) (p : Program) (s : Spot) (n : ℕ) (fs : List Fun) → Keeps p → SpotFits p s
    → n ≤ s.number → s.number < n + length fs → From p.fns n fs
    → passing (row_passes t s.point) (fns_rows p n fs) ≡ passing (row_passes t s.point) (point_rows p s)
fns_one t p s n [] keeps at low high all = absurd (omega (arith, low, high))
fns_one t p s n (f ∷ fs) keeps at low high all =
    let here = from_here p.fns n f fs all in
    let next = from_next p.fns n f fs all in
    let both = passing_append (row_passes t s.point) (fn_rows p n f) (fns_rows p (n + 1) fs) in
    elim (here_or_later n s.number low) [
      | inl e ↦ both ∙ only_first _ _ _ (own_one t p s n f keeps at e here)
          (fns_none t p s (n + 1) fs keeps at (omega (arith, e)) next)
      | inr less ↦ both ∙ only_second _ _ _ (fn_none t p s n f keeps at less here)
          (fns_one t p s (n + 1) fs keeps at (omega (arith, less)) (omega (arith, high)) next)
    ]

pub block : (t : Claim → Bool) (p : Program) (s : Spot) → Keeps p → SpotFits p s
    → passing (row_passes t s.point) (fns_rows p 0 p.fns) ≡ passing (row_passes t s.point) (point_rows p s)
block t p s keeps at =
    let within = slice_get_within p.fns s.number s.function at.is_function in
    fns_one t p s 0 p.fns keeps at (omega arith) (omega (arith, within)) (from_all p.fns)
