-- Expressions that fit where they stand, and whose calls are noted at their point.
use Rattle.std.proofs.Common.{◌≡◌, inl, inr, ℕ, true, List, [], ◌∷◌, ◌++◌, Option, Some, None, slice_get, refl, ap, sym, subst}
use Rattle.std.proofs.lemmas.Bool.{and_parts, true≢false}
use Rattle.std.specs.List.{list_all}
use Rattle.by_key.specs.declared.lists.Keyed.{Keyed}
use Rattle.fc_base.specs.declared.ids.PointId.{PointId}
use Rattle.c_ir.specs.Bodies.{Frame, expr_fits, value_fits, value_if_fits, init_fits, is_declared, declared_fits, return_fits}
use Rattle.c_ir.specs.Calls.{calls_of, calls_of_all, calls_if, calls_of_init}
use Rattle.c_ir.specs.Formed.{on_some}
use Rattle.c_ir.specs.declared.place.Place.{Place}
use Rattle.c_ir.specs.declared.place.Place.TheVariants as P
use Rattle.c_ir.specs.declared.ty.IntType.{IntType}
use Rattle.c_ir.specs.declared.tree.CellInfo.{CellInfo}
use Rattle.c_ir.specs.declared.tree.Expr.{Expr}
use Rattle.c_ir.specs.declared.tree.Init.{Init}
use Rattle.c_ir.specs.declared.tree.Init.TheVariants as I
use Rattle.c_runs.specs.Parts.{Placed, at_point, exprs_if, exprs_of_init, Has}
use Rattle.prop_table.specs.Points.{at_point as noted_at}
use Rattle.prop_table.proofs.Lists.{Each}

-- ---- members

pub has_left : {X : Type 0} (xs ys : List X) (x : X) → Has xs x → Has (xs ++ ys) x
has_left [] ys x h = absurd h
has_left (z ∷ xs) ys x (inl is) = inl is
has_left (z ∷ xs) ys x (inr h) = inr (has_left xs ys x h)

pub has_right : {X : Type 0} (xs ys : List X) (x : X) → Has ys x → Has (xs ++ ys) x
has_right [] ys x h = h
has_right (z ∷ xs) ys x h = inr (has_right xs ys x h)

pub each_has : {X : Type 0} (Q : X → Type 0) (xs : List X) (x : X) → Each Q xs → Has xs x → Q x
each_has Q [] x all h = absurd h
each_has Q (y ∷ xs) x all (inl is) = subst Q is all.0
each_has Q (y ∷ xs) x all (inr h) = each_has Q xs x all.1 h

abbrev pub Within : List Keyed → List Keyed → Type 0
Within xs all = (m : Keyed) → Has xs m → Has all m

pub left : (xs ys all : List Keyed) → Within (xs ++ ys) all → Within xs all
left xs ys all within m h = within m (has_left xs ys m h)

pub right : (xs ys all : List Keyed) → Within (xs ++ ys) all → Within ys all
right xs ys all within m h = within m (has_right xs ys m h)

-- ---- expressions at a point

-- these calls are noted there
abbrev pub Among : ℕ → List ℕ → List Keyed → Type 0
Among q gs all = (g : ℕ) → Has gs g → Has all (record { key = q; number = g })

noted_has : (p : PointId) (gs : List ℕ) (g : ℕ) → Has gs g
    → Has (noted_at p gs) (record { key = p.0; number = g })
noted_has p [] g h = absurd h
noted_has p (x ∷ gs) g (inl is) =
    inl (ap (λ (n : ℕ). let m : Keyed = record { key = p.0; number = n } in m) is)
noted_has p (x ∷ gs) g (inr h) = inr (noted_has p gs g h)

among : (p : PointId) (gs : List ℕ) (all : List Keyed) → Within (noted_at p gs) all → Among p.0 gs all
among p gs all within g h = within (record { key = p.0; number = g }) (noted_has p gs g h)

-- the expression fits where it stands, and its calls are noted
pub record Stands (f : Frame) (all : List Keyed) (x : Placed) : Type 0 where
  pub point : PointId
  pub place : Place
  pub is_point : point.0 ≡ x.point
  pub fits : expr_fits f point place x.expr ≡ true
  pub calls : Among x.point (calls_of x.expr) all

abbrev pub expr_at : PointId → Expr → Placed
expr_at p e = record { point = p.0; expr = e }

pub one : (f : Frame) (all : List Keyed) (p : PointId) (place : Place) (e : Expr) → expr_fits f p place e ≡ true
    → Within (noted_at p (calls_of e)) all → Stands f all (expr_at p e)
one f all p place e is within = record {
  point = p;
  place = place;
  is_point = refl;
  fits = is;
  calls = among p (calls_of e) all within;
}

pub one_if : (f : Frame) (all : List Keyed) (p : PointId) (place : Place) (o : Option Expr)
    → value_if_fits f p place o ≡ true → Within (noted_at p (calls_if o)) all
    → Each (Stands f all) (at_point p (exprs_if o))
one_if f all p place None is within = tt
one_if f all p place (Some e) is within = (one f all p place e is within, tt)

each_stands : (f : Frame) (all : List Keyed) (p : PointId) (ty : IntType) (es : List Expr)
    → list_all (value_fits f p P.Inner ty) es ≡ true → Among p.0 (calls_of_all es) all
    → Each (Stands f all) (at_point p es)
each_stands f all p ty [] is calls = tt
each_stands f all p ty (e ∷ es) is calls =
    let parts = and_parts _ _ is in (
      record {
        point = p;
        place = P.Inner;
        is_point = refl;
        fits = (and_parts _ _ parts.0).0;
        calls = λ g h. calls g (has_left (calls_of e) (calls_of_all es) g h);
      },
      each_stands f all p ty es parts.1 (λ g h. calls g (has_right (calls_of e) (calls_of_all es) g h)),
    )

init_stands : (f : Frame) (all : List Keyed) (p : PointId) (ty : IntType) (size : Option ℕ) (value : Init)
    → init_fits f p ty size value ≡ true → Within (noted_at p (calls_of_init value)) all
    → Each (Stands f all) (at_point p (exprs_of_init value))
init_stands f all p ty size I.Nothing is within = tt
init_stands f all p ty None (I.One e) is within = (one f all p P.Value e (and_parts _ _ is).0 within, tt)
init_stands f all p ty (Some n) (I.One e) is within = absurd (true≢false (sym is))
init_stands f all p ty None (I.Many es) is within = absurd (true≢false (sym is))
init_stands f all p ty (Some n) (I.Many es) is within =
    each_stands f all p ty es (and_parts _ _ is).1 (among p (calls_of_all es) all within)

declared_if : (f : Frame) (all : List Keyed) (p : PointId) (first : ℕ) (size : Option ℕ) (value : Init)
    (o : Option CellInfo)
    → on_some (is_declared f p first size value) o ≡ true → Within (noted_at p (calls_of_init value)) all
    → Each (Stands f all) (at_point p (exprs_of_init value))
declared_if f all p first size value None is within = absurd (true≢false (sym is))
declared_if f all p first size value (Some c) is within =
    init_stands f all p c.ty size value (and_parts _ _ is).1 within

pub declared : (f : Frame) (all : List Keyed) (p : PointId) (first : ℕ) (size : Option ℕ) (value : Init)
    → declared_fits f p first size value ≡ true → Within (noted_at p (calls_of_init value)) all
    → Each (Stands f all) (at_point p (exprs_of_init value))
unfolding declared_fits
declared f all p first size value is within =
    declared_if f all p first size value (slice_get f.layout.cells first) is within

pub returned : (f : Frame) (all : List Keyed) (p : PointId) (r : Option IntType) (o : Option Expr)
    → return_fits f p r o ≡ true → Within (noted_at p (calls_if o)) all
    → Each (Stands f all) (at_point p (exprs_if o))
returned f all p r None is within = tt
returned f all p None (Some e) is within = absurd (true≢false (sym is))
returned f all p (Some ty) (Some e) is within = (one f all p P.Value e (and_parts _ _ is).0 within, tt)
