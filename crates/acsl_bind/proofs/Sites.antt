-- Expressions at points that get new numbers: what is at its sites at the old number of its point is there at the new one.
use Rattle.std.proofs.Common.{◌≡◌, ◌∙◌, ◌==◌, ◌&&◌, ℕ, zero, suc, Bool, true, false, List, [], ◌∷◌, length, map, slice_get, Option, Some, None, refl, ap, sym, subst}
use Rattle.std.proofs.lemmas.Bool.{and_parts, and_from, true≢false, eq-eqb, eqb-true}
use Rattle.std.proofs.lemmas.Option.{slice_get-map}
use Rattle.std.specs.List.{list_all}
use Rattle.std.specs.Option.{option_map}
use Rattle.fc_base.specs.declared.ids.PointId.{PointId}
use Rattle.fc_base.specs.declared.ids.SiteId.{SiteId}
use Rattle.c_ir.specs.Bodies.{Frame, expr_fits, value_fits, value_if_fits, init_fits, is_declared, declared_fits, return_fits}
use Rattle.c_ir.specs.Formed.{on_some}
use Rattle.c_ir.specs.Programs.{Program}
use Rattle.c_ir.specs.Sited.{Sited, sited, sited_step, at_sites, all_hold, parts_hold, checks_at, has_entry, is_entry, same_checks}
use Rattle.c_ir.specs.declared.place.Place.{Place}
use Rattle.c_ir.specs.declared.place.Place.TheVariants as P
use Rattle.c_ir.specs.declared.ty.IntType.{IntType}
use Rattle.c_ir.specs.declared.tree.CellInfo.{CellInfo}
use Rattle.c_ir.specs.declared.tree.Checks.{Checks}
use Rattle.c_ir.specs.declared.tree.Expr.{Expr, map-Expr, roll-Expr}
use Rattle.c_ir.specs.declared.tree.Expr.TheFolds.{fold-roll-Expr, ind-Expr}
use Rattle.c_ir.specs.declared.tree.Expr.TheOpen.{Expr-F}
use Rattle.c_ir.specs.declared.tree.Init.{Init}
use Rattle.c_ir.specs.declared.tree.Init.TheVariants as I
use Rattle.c_ir.specs.declared.tree.Node.{Node}
use Rattle.c_ir.specs.declared.tree.Node.TheVariants as N
use Rattle.c_ir.specs.declared.tree.PointInfo.{PointInfo}
use Rattle.c_ir.specs.declared.tree.SiteInfo.{SiteInfo}
use Rattle.acsl_bind.specs.Programs.{moved_to, moved_site}

-- the same type, and what held holds
pub record Moves (a b : Sited) : Type 0 where
  pub ty : b.ty ≡ a.ty
  pub holds : a.holds ≡ true → b.holds ≡ true

-- sites with their points, and what becomes of them at a point's new number
pub record Moving : Type 0 where
  pub old : List SiteInfo
  pub new : List SiteInfo
  pub from : PointId
  pub to : PointId
  pub entries : (site : Option SiteId) (checks : Checks) → has_entry old from site checks ≡ true → has_entry new to site checks ≡ true

abbrev the_point : ℕ → PointId
the_point n = record { 0 = n }

abbrev before : Moving → Expr → Sited
before m = sited m.old m.from

abbrev behind : Moving → Expr → Sited
behind m = sited m.new m.to

abbrev With : Moving → Type 0
With m = (e : Expr) × Moves (before m e) (behind m e)

abbrev befores : (m : Moving) → Expr-F (With m) → Expr-F Sited
befores m y = map-Expr Expr Sited (before m) (map-Expr (With m) Expr (λ e. e.0) y)

abbrev behinds : (m : Moving) → Expr-F (With m) → Expr-F Sited
behinds m y = map-Expr Expr Sited (behind m) (map-Expr (With m) Expr (λ e. e.0) y)

all_move : (m : Moving) (es : List (With m)) → all_hold (map (before m) (map (λ e. e.0) es)) ≡ true → all_hold (map (behind m) (map (λ e. e.0) es)) ≡ true
all_move m [] is = refl
all_move m (e ∷ es) is = let parts = and_parts _ _ is in and_from _ _ (e.1.holds parts.0) (all_move m es parts.1)

abbrev tree : (m : Moving) → IntType → Option SiteId → Node (With m) (List (With m)) → Expr-F (With m)
tree m ty site n = record { ty = ty; site = site; node = n }

abbrev Layer : (m : Moving) → Expr-F (With m) → Type 0
Layer m y = Moves (sited_step m.old m.from (befores m y)) (sited_step m.new m.to (behinds m y))

by_node : (m : Moving) (ty : IntType) (site : Option SiteId) (n : Node (With m) (List (With m))) → Layer m (tree m ty site n)
by_node m ty site (N.Literal v) = record {
  ty = refl;
  holds = λ is. let p = and_parts _ _ is in and_from _ _ (m.entries site _ p.0) refl;
}
by_node m ty site (N.Cell c k) = record {
  ty = refl;
  holds = λ is. let p = and_parts _ _ is in and_from _ _ (m.entries site _ p.0) refl;
}
by_node m ty site (N.Element f n i k) = record {
  ty = refl;
  holds = λ is. let p = and_parts _ _ is in and_from _ _ (m.entries site _ p.0) (i.1.holds p.1);
}
by_node m ty site (N.Call g es) = record {
  ty = refl;
  holds = λ is. let p = and_parts _ _ is in and_from _ _ (m.entries site _ p.0) (all_move m es p.1);
}
by_node m ty site (N.Unary op e) = record {
  ty = refl;
  holds = λ is. let p = and_parts _ _ is in and_from _ _ (m.entries site _ p.0) (e.1.holds p.1);
}
by_node m ty site (N.Binary op a b) = record {
  ty = refl;
  holds = λ is.
      let p = and_parts _ _ is in
      let q = and_parts _ _ p.1 in
      and_from _ _
      (ap (λ (t : IntType). has_entry m.new m.to site (checks_at ty (N.Binary op (record { ty = t; holds = true }) (behind m b.0)))) a.1.ty ∙ m.entries site _ p.0)
      (and_from _ _ (a.1.holds q.0) (b.1.holds q.1));
}
by_node m ty site (N.Assign t e) = record {
  ty = refl;
  holds = λ is.
      let p = and_parts _ _ is in
      let q = and_parts _ _ p.1 in
      and_from _ _ (m.entries site _ p.0) (and_from _ _ (t.1.holds q.0) (e.1.holds q.1));
}
by_node m ty site (N.Cond c a b) = record {
  ty = refl;
  holds = λ is.
      let p = and_parts _ _ is in
      let q = and_parts _ _ p.1 in
      let r = and_parts _ _ q.1 in
      and_from _ _ (m.entries site _ p.0) (and_from _ _ (c.1.holds q.0) (and_from _ _ (a.1.holds r.0) (b.1.holds r.1)));
}
by_node m ty site (N.Cast e) = record {
  ty = refl;
  holds = λ is. let p = and_parts _ _ is in and_from _ _ (m.entries site _ p.0) (e.1.holds p.1);
}

layer : (m : Moving) (y : Expr-F (With m)) → Layer m y
layer m y = by_node m y.ty y.site y.node

expr_moves : (m : Moving) (e : Expr) → Moves (before m e) (behind m e)
expr_moves m =
    ind-Expr (λ e. Moves (before m e) (behind m e)) (λ x y is.
    let here = subst (λ (z : Expr-F Expr). Moves (sited_step m.old m.from (map-Expr Expr Sited (before m) z)) (sited_step m.new m.to (map-Expr Expr Sited (behind m) z))) is (layer m y) in
    let left = subst (λ (s : Sited). Moves s (sited_step m.new m.to (map-Expr Expr Sited (behind m) x))) (sym (fold-roll-Expr Sited (sited_step m.old m.from) x)) here in
    subst (λ (s : Sited). Moves (before m (roll-Expr x)) s) (sym (fold-roll-Expr Sited (sited_step m.new m.to) x)) left)

pub at_sites_move : (m : Moving) (e : Expr) → at_sites m.old m.from e ≡ true → at_sites m.new m.to e ≡ true
unfolding at_sites
at_sites_move m e is = (expr_moves m e).holds is

-- what has an entry at one point has one at the other
abbrev pub Follows : List SiteInfo → List SiteInfo → PointId → PointId → Type 0
Follows old new from to = (site : Option SiteId) (checks : Checks) → has_entry old from site checks ≡ true → has_entry new to site checks ≡ true

-- ---- expressions of statements

-- the same function over other sites and points
abbrev pub frame_to : Frame → List SiteInfo → List PointInfo → Frame
frame_to f sites points = record { layout = f.layout; sites = sites; points = points; function = f.function; result = f.result }

pub expr_moves_to : (f : Frame) (sites : List SiteInfo) (points : List PointInfo) (p q : PointId) → Follows f.sites sites p q → (place : Place) (e : Expr) → expr_fits f p place e ≡ true → expr_fits (frame_to f sites points) q place e ≡ true
unfolding expr_fits
expr_moves_to f sites points p q h place e is =
    let parts = and_parts _ _ is in
    and_from _ _ parts.0 (at_sites_move (record { old = f.sites; new = sites; from = p; to = q; entries = h }) e parts.1)

pub value_moves : (f : Frame) (sites : List SiteInfo) (points : List PointInfo) (p q : PointId) → Follows f.sites sites p q → (place : Place) (ty : IntType) (e : Expr) → value_fits f p place ty e ≡ true → value_fits (frame_to f sites points) q place ty e ≡ true
value_moves f sites points p q h place ty e is =
    let parts = and_parts _ _ is in
    and_from _ _ (expr_moves_to f sites points p q h place e parts.0) parts.1

pub if_moves : (f : Frame) (sites : List SiteInfo) (points : List PointInfo) (p q : PointId) → Follows f.sites sites p q → (place : Place) (e : Option Expr) → value_if_fits f p place e ≡ true → value_if_fits (frame_to f sites points) q place e ≡ true
if_moves f sites points p q h place None is = refl
if_moves f sites points p q h place (Some e) is = expr_moves_to f sites points p q h place e is

pub return_moves : (f : Frame) (sites : List SiteInfo) (points : List PointInfo) (p q : PointId) → Follows f.sites sites p q → (ty : Option IntType) (e : Option Expr) → return_fits f p ty e ≡ true → return_fits (frame_to f sites points) q ty e ≡ true
return_moves f sites points p q h None None is = refl
return_moves f sites points p q h None (Some e) is = absurd (true≢false (sym is))
return_moves f sites points p q h (Some ty) None is = absurd (true≢false (sym is))
return_moves f sites points p q h (Some ty) (Some e) is = value_moves f sites points p q h P.Value ty e is

values_move : (f : Frame) (sites : List SiteInfo) (points : List PointInfo) (p q : PointId) → Follows f.sites sites p q → (ty : IntType) (es : List Expr) → list_all (value_fits f p P.Inner ty) es ≡ true → list_all (value_fits (frame_to f sites points) q P.Inner ty) es ≡ true
values_move f sites points p q h ty [] is = refl
values_move f sites points p q h ty (e ∷ es) is =
    let parts = and_parts _ _ is in
    and_from _ _ (value_moves f sites points p q h P.Inner ty e parts.0) (values_move f sites points p q h ty es parts.1)

init_moves : (f : Frame) (sites : List SiteInfo) (points : List PointInfo) (p q : PointId) → Follows f.sites sites p q → (ty : IntType) (size : Option ℕ) (value : Init) → init_fits f p ty size value ≡ true → init_fits (frame_to f sites points) q ty size value ≡ true
init_moves f sites points p q h ty size I.Nothing is = refl
init_moves f sites points p q h ty None (I.One e) is = value_moves f sites points p q h P.Value ty e is
init_moves f sites points p q h ty None (I.Many es) is = absurd (true≢false (sym is))
init_moves f sites points p q h ty (Some n) (I.One e) is = absurd (true≢false (sym is))
init_moves f sites points p q h ty (Some n) (I.Many es) is =
    let parts = and_parts _ _ is in
    and_from _ _ parts.0 (values_move f sites points p q h ty es parts.1)

declared_by : (f : Frame) (sites : List SiteInfo) (points : List PointInfo) (p q : PointId) → Follows f.sites sites p q → (first : ℕ) (size : Option ℕ) (value : Init) (o : Option CellInfo) → on_some (is_declared f p first size value) o ≡ true → on_some (is_declared (frame_to f sites points) q first size value) o ≡ true
declared_by f sites points p q h first size value None is = is
declared_by f sites points p q h first size value (Some c) is =
    let parts = and_parts _ _ is in
    and_from _ _ parts.0 (init_moves f sites points p q h c.ty size value parts.1)

pub declared_moves : (f : Frame) (sites : List SiteInfo) (points : List PointInfo) (p q : PointId) → Follows f.sites sites p q → (first : ℕ) (size : Option ℕ) (value : Init) → declared_fits f p first size value ≡ true → declared_fits (frame_to f sites points) q first size value ≡ true
unfolding declared_fits
declared_moves f sites points p q h first size value is = declared_by f sites points p q h first size value (slice_get f.layout.cells first) is

-- ---- sites of the new program

entry_by : (p : Program) (moves : List (List ℕ)) (from to : PointId) (checks : Checks) (o : Option SiteInfo) → moved_to p moves from ≡ to → on_some (is_entry from checks) o ≡ true → on_some (is_entry to checks) (option_map (moved_site p moves) o) ≡ true
entry_by p moves from to checks None is h = h
entry_by p moves from to checks (Some info) is h =
    let parts = and_parts _ _ h in
    let same : info.point ≡ from = ap (λ (n : ℕ). the_point n) (eqb-true _ _ parts.0) in
    let there : moved_to p moves info.point ≡ to = ap (moved_to p moves) same ∙ is in
    and_from _ _ (eq-eqb _ _ (ap (λ (r : PointId). r.0) there)) parts.1

follows_by : (p : Program) (moves : List (List ℕ)) (from to : PointId) → moved_to p moves from ≡ to → (site : Option SiteId) (checks : Checks) → has_entry p.sites from site checks ≡ true → has_entry (map (moved_site p moves) p.sites) to site checks ≡ true
follows_by p moves from to is None checks h = refl
follows_by p moves from to is (Some n) checks h =
    ap (on_some (is_entry to checks)) (slice_get-map (moved_site p moves) p.sites n.0)
    ∙ entry_by p moves from to checks (slice_get p.sites n.0) is h

-- what is at its sites at a point is so at the point's new number
pub follows : (p : Program) (moves : List (List ℕ)) (from to : PointId) → moved_to p moves from ≡ to → Follows p.sites (map (moved_site p moves) p.sites) from to
follows p moves from to is = follows_by p moves from to is
