-- Lists of arguments: well formed trees, and sites with their entries.
use Rattle.std.proofs.Common.{◌≡◌, ◌∙◌, ◌||◌, ℕ, Bool, true, List, [], ◌∷◌, ◌++◌, length, drop, Result, Ok, Err, IfOk, refl, ap, sym, subst, length-append}
use Rattle.std.proofs.Math.Seq.{drop-nil}
use Rattle.std.proofs.lemmas.List.{drop-drop}
use Rattle.std.specs.declared.alloc.AllocError.{AllocError}
use Rattle.std.proofs.lemmas.Bool.{and_parts, and_from}
use Rattle.c_ir.specs.declared.ty.IntType.{IntType}
use Rattle.c_ir.specs.declared.tree.Expr.{Expr}
use Rattle.c_ir.specs.Formed.{Layout, form}
use Rattle.c_ir.specs.Sited.{at_sites, all_at_sites}
use Rattle.c_ir.specs.declared.tree.SiteInfo.{SiteInfo}
use Rattle.fc_base.specs.declared.ids.PointId.{PointId}
use Rattle.c_ir.specs.declared.place.Place.{Place}
use Rattle.c_ir.specs.declared.place.Place.TheVariants as P
use Rattle.c_rules.specs.Fits.{EnvFits, is_arg, are_args}
use Rattle.c_ir.specs.Placed.{is_formed}
use Rattle.c_rules.specs.Breaches.{Env}

-- what may be part of another expression may stand anywhere
pub anywhere : (l : Layout) (place : Place) (e : Expr) → is_formed l P.Inner e ≡ true → is_formed l place e ≡ true
unfolding is_formed
anywhere l P.Inner e is = is
anywhere l P.Value e is =
    let parts = and_parts _ _ is in and_from _ _ parts.0 (ap (λ (b : Bool). b || (form l e).call) parts.1)
anywhere l P.Dropped e is =
    let parts = and_parts _ _ is in
    and_from _ _ parts.0 (ap (λ (b : Bool). b || ((form l e).call || (form l e).assign)) parts.1)

-- one argument more
pub args_push : (l : Layout) (tys : List IntType) (done : List Expr) (t : Expr) → are_args l tys done ≡ true → is_arg l (drop (length done) tys) t ≡ true → are_args l tys (done ++ t ∷ []) ≡ true
unfolding are_args
args_push l [] [] t are is = and_from _ _ is refl
args_push l (ty ∷ tys) [] t are is = and_from _ _ is refl
args_push l [] (d ∷ ds) t are is =
    let parts = and_parts _ _ are in
    and_from _ _ parts.0 (args_push l [] ds t parts.1 (subst (λ (xs : List IntType). is_arg l xs t ≡ true) (sym (drop-nil (length ds))) is))
args_push l (ty ∷ tys) (d ∷ ds) t are is =
    let parts = and_parts _ _ are in and_from _ _ parts.0 (args_push l tys ds t parts.1 is)

pub args_none : (l : Layout) (tys : List IntType) (done : List Expr) → done ≡ [] → are_args l tys done ≡ true
unfolding are_args
args_none l tys done is = rw is refl

pub formals_push : (tys left new : List IntType) (done more : List Expr) (t : Expr) → new ≡ drop 1 left → left ≡ drop (length done) tys → more ≡ done ++ t ∷ [] → new ≡ drop (length more) tys
formals_push tys left new done more t p q r =
    p ∙ ap (drop 1) q ∙ drop-drop 1 (length done) tys
    ∙ ap (λ (n : ℕ). drop n tys) (sym (ap length r ∙ length-append done (t ∷ [])))

pub anywhere_ok : (env : Env) (place : Place) (r : Result Expr AllocError) → IfOk r (λ t. (l : Layout) → EnvFits l env → is_formed l P.Inner t ≡ true) → IfOk r (λ t. (l : Layout) → EnvFits l env → is_formed l place t ≡ true)
anywhere_ok env place (Ok t) is = λ l fits. anywhere l place t (is l fits)
anywhere_ok env place (Err e) is = is

pub sited_none : (infos : List SiteInfo) (point : PointId) (done : List Expr) → done ≡ [] → all_at_sites infos point done ≡ true
unfolding all_at_sites
sited_none infos point done is = rw is refl

pub sited_push : (infos : List SiteInfo) (point : PointId) (done : List Expr) (t : Expr) → all_at_sites infos point done ≡ true → at_sites infos point t ≡ true → all_at_sites infos point (done ++ t ∷ []) ≡ true
unfolding all_at_sites at_sites
sited_push infos point [] t all is = and_from _ _ is refl
sited_push infos point (d ∷ ds) t all is =
    let parts = and_parts _ _ all in and_from _ _ parts.0 (sited_push infos point ds t parts.1 is)
