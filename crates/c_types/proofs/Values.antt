-- Values: what they are after their conversions.
use Rattle.std.proofs.Common.{◌≡◌, ◌∙◌, ℕ, Bool, true, false, List, [], ◌∷◌, ◌++◌, Some, refl, ap}
use Rattle.std.proofs.lemmas.Bool.{and_from, and_parts}
use Rattle.fc_base.specs.declared.ids.PointId.{PointId}
use Rattle.c_ir.specs.Formed.{Layout}
use Rattle.c_ir.specs.Numbers.{Numbers, none, both, count, points_of, points_of_all, points_step, stmt_sites, stmt_sites_of_all, stmt_sites_step}
use Rattle.c_ir.specs.declared.ty.IntType.{IntType}
use Rattle.c_ir.specs.declared.tree.Expr.{Expr}
use Rattle.c_ir.specs.declared.tree.Stmt.{Stmt, roll-Stmt, map-Stmt}
use Rattle.c_ir.specs.declared.tree.Stmt.TheFolds.{fold-roll-Stmt}
use Rattle.c_ir.specs.declared.tree.Stmt.TheOpen.{Stmt-F}
use Rattle.c_typing.proofs.Args.{anywhere}
use Rattle.c_rules.specs.Breaches.{is_dropped}
use Rattle.c_rules.specs.Fits.{Keeps}
use Rattle.c_ir.specs.Placed.{is_formed}
use Rattle.c_rules.specs.Typing as rule
use Rattle.c_ir.specs.declared.place.Place.{Place}
use Rattle.c_ir.specs.declared.place.Place.TheVariants as P
use Rattle.c_rules.proofs.Formed.{converted_keeps, converted_ty, same_self}
use Rattle.c_rules.proofs.Sited.{converted_sited}
use Rattle.c_ir.specs.Bodies.{Frame, expr_fits, value_fits, fits, fits_step, stmts_fit}
use Rattle.c_types.proofs.Steps.{two}

kept : (l : Layout) (place : Place) (from to : Expr) → Keeps l from to → is_dropped place ≡ false → is_formed l place from ≡ true → is_formed l place to ≡ true
unfolding is_formed
kept l P.Inner from to k d is = rw (k.value, k.plain) is
kept l P.Value from to k d is = rw (k.value, k.plain, k.call) is
kept l P.Dropped from to k d is = absurd (cc)

-- a value is of the type that it is converted to
pub converted_fits : (f : Frame) (p : PointId) (place : Place) (ty : IntType) (e : Expr) → is_dropped place ≡ false → expr_fits f p place e ≡ true → value_fits f p place ty (rule.converted ty e) ≡ true
unfolding expr_fits
converted_fits f p place ty e d is =
    let parts = and_parts _ _ is in
    and_from _ _ (and_from _ _ (kept f.layout place e _ (converted_keeps f.layout ty e) d parts.0) (converted_sited f.sites p ty e parts.1))
    (rw (converted_ty ty e) (same_self ty))

-- what may be part of another expression may be a value
pub inner_value : (f : Frame) (p : PointId) (e : Expr) → expr_fits f p P.Inner e ≡ true → expr_fits f p P.Value e ≡ true
unfolding expr_fits
inner_value f p e is = let parts = and_parts _ _ is in and_from _ _ (anywhere f.layout P.Value e parts.0) parts.1

-- ---- one statement

pub one_fits : (f : Frame) (in_loop : Bool) (x : Stmt-F Stmt) → fits_step f (map-Stmt Stmt (Bool → Bool) (fits f) x) in_loop ≡ true → stmts_fit f in_loop (roll-Stmt x ∷ []) ≡ true
unfolding stmts_fit
one_fits f in_loop x is =
    and_from _ _ (ap (λ (g : Bool → Bool). g in_loop) (fold-roll-Stmt (Bool → Bool) (fits_step f) x) ∙ is) refl

pub one_points : (x : Stmt-F Stmt) (a b : ℕ) → count a (points_step (map-Stmt Stmt Numbers points_of x)) ≡ Some b → count a (points_of_all (roll-Stmt x ∷ [])) ≡ Some b
one_points x a b is =
    ap (λ (n : Numbers). count a (both n none)) (fold-roll-Stmt Numbers points_step x) ∙ two (points_step (map-Stmt Stmt Numbers points_of x)) none a b (Some b) is refl

pub one_sites : (x : Stmt-F Stmt) (a b : ℕ) → count a (stmt_sites_step (map-Stmt Stmt Numbers stmt_sites x)) ≡ Some b → count a (stmt_sites_of_all (roll-Stmt x ∷ [])) ≡ Some b
one_sites x a b is =
    ap (λ (n : Numbers). count a (both n none)) (fold-roll-Stmt Numbers stmt_sites_step x) ∙ two (stmt_sites_step (map-Stmt Stmt Numbers stmt_sites x)) none a b (Some b) is refl

-- statements after others
pub fit_more : (f : Frame) (in_loop : Bool) (xs ys : List Stmt) → stmts_fit f in_loop xs ≡ true → stmts_fit f in_loop ys ≡ true → stmts_fit f in_loop (xs ++ ys) ≡ true
unfolding stmts_fit
fit_more f in_loop [] ys p q = q
fit_more f in_loop (x ∷ xs) ys p q =
    let parts = and_parts _ _ p in and_from _ _ parts.0 (fit_more f in_loop xs ys parts.1 q)
