-- Functions that the walk makes, each with its contract: they fit where the old ones did.
use Rattle.std.proofs.Common.{◌≡◌, ◌∙◌, ◌==◌, ◌+◌, ◌&&◌, ℕ, suc, Bool, true, false, not, List, [], ◌∷◌, ◌++◌, length, map, slice_get, Option, Some, None, refl, ap, sym, subst, arith}
use Rattle.std.proofs.lemmas.Bool.{and_parts, and_from, true≢false}
use Rattle.std.specs.List.{list_all}
use Rattle.fc_base.specs.declared.ids.FnId.{FnId}
use Rattle.fc_base.specs.declared.ids.PointId.{PointId}
use Rattle.c_ir.specs.Bodies.{Frame, Stand, AtEntry, AtExit, is_own, clauses_are, clause_fits, fits, all_fit, stmts_fit, points_of_body}
use Rattle.c_ir.specs.Calls.{calls_of_stmts}
use Rattle.c_ir.specs.Formed.{cell_is, cell_passes, on_some}
use Rattle.c_ir.specs.Keeps.{calls_in, is_set_of, Keeps, Defines}
use Rattle.c_ir.specs.Keeps as keep
use Rattle.c_ir.specs.Numbers.{Numbers, none, both, own_point, count, points_of_all, stmt_sites_of_all}
use Rattle.c_ir.specs.Preds.{is_seen, is_seen_by}
use Rattle.c_ir.specs.declared.tree.CellInfo.{CellInfo}
use Rattle.c_ir.specs.declared.tree.Fun.{Fun}
use Rattle.c_ir.specs.declared.tree.PointClause.{PointClause}
use Rattle.c_ir.specs.declared.tree.Stmt.{Stmt}
use Rattle.acsl_terms.specs.Fits as fit
use Rattle.acsl_terms.specs.Fits.{Free, ViewFits}
use Rattle.acsl_bind.specs.Notes.{Noted, standing}
use Rattle.acsl_bind.specs.Placing.{Made, Went, Placing, Scene, pure, after, moved, stmts, placed_of}
use Rattle.acsl_bind.specs.Programs.{view_of, contract_clauses, contract_of, body_of, function, noted_all}
use Rattle.acsl_bind.proofs.Bodies.{ListGood, body_good}
use Rattle.acsl_bind.proofs.Clauses.{all_stand, Names, contract_fits}
use Rattle.acsl_bind.proofs.Steps.{Same, same0, same1, same3, both_same, grouped, Whole, old, new, Part, still_part, pure_part, then_part, as_part, Stands, Moved_point, point_part}

-- ---- contracts

seen_by : (f : ℕ) (o : Option FnId) → on_some (λ (g : FnId). g.0 == f) o ≡ true → is_seen_by f o ≡ true
seen_by f None is = absurd (true≢false (sym is))
seen_by f (Some g) is = is

seen_cell : (f : ℕ) (o : Option CellInfo) → on_some (is_set_of f) o ≡ true → on_some (is_seen f) o ≡ true
seen_cell f None is = is
seen_cell f (Some c) is = seen_by f c.owner (and_parts _ _ is).1

seen_at : (cells : List CellInfo) (f c : ℕ) → cell_is (is_set_of f) cells c ≡ true → cell_is (is_seen f) cells c ≡ true
unfolding cell_passes
seen_at cells f c is = let parts = and_parts _ _ is in and_from _ _ parts.0 (seen_cell f (slice_get cells c) parts.1)

pub view_by : (cells : List CellInfo) (n : ℕ) (o : Option ℕ) → keep.result_fits cells n o ≡ true → fit.result_fits cells n o
view_by cells n None is = tt
view_by cells n (Some c) is = seen_at cells n c is

-- the clauses of a contract, at the entry and at the exit
abbrev Held : Whole → List PointClause → Type 0
Held w cs = (list_all (clause_fits (new w) AtEntry) (standing AtEntry cs) ≡ true) × (list_all (clause_fits (new w) AtExit) (standing AtExit cs) ≡ true)

clauses_part : (w : Whole) (o : Option Noted) (m : Made) → ViewFits w.program.cells w.scene.function.0 (view_of w.function) → ((n : Noted) → o ≡ Some n → Names w.program.cells w.scene.function.0 n) → Part w m (contract_clauses w.function o m) (Held w (contract_clauses w.function o m).value) none none
clauses_part w None m view names = still_part w m _ _ _ (λ free. (refl, refl))
clauses_part w (Some n) m view names =
    let here = names n refl in
    still_part w m _ _ _ (λ free. (
      all_stand w.clause (new w) AtEntry n.spot.names (view_of w.function) n.annot.clauses here.names view tt free,
      all_stand w.clause (new w) AtExit n.spot.names (view_of w.function) n.annot.clauses here.names view refl free,
    ))

-- ---- bodies

abbrev pub points_in : Option (List Stmt) → Numbers
points_in None = none
points_in (Some ss) = points_of_all ss

abbrev pub sites_in : Option (List Stmt) → Numbers
sites_in None = none
sites_in (Some ss) = stmt_sites_of_all ss

abbrev pub BodyFits : Frame → Option (List Stmt) → Type 0
BodyFits f None = Unit {0}
BodyFits f (Some ss) = all_fit (map (fits f) ss) false ≡ true

-- both have a body, or neither
abbrev pub Paired : Option (List Stmt) → Option (List Stmt) → Type 0
Paired None None = Unit {0}
Paired None (Some ys) = ⊥
Paired (Some xs) None = ⊥
Paired (Some xs) (Some ys) = Unit {0}

pub record BodyGood (w : Whole) (m : Made) (v : Went (Option (List Stmt))) (o : Option (List Stmt)) : Type 0 where
  pub part : Part w m v (BodyFits (new w) v.value) (points_in o) (points_in v.value)
  pub sites : Same (sites_in v.value) (sites_in o)
  pub calls : calls_in v.value ≡ calls_in o
  pub paired : Paired o v.value

body_part : (w : Whole) (o : Option (List Stmt)) (m : Made) → BodyFits (old w) o → BodyGood w m (body_of w.scene o m) o
body_part w None m is = record {
  part = pure_part w m None;
  sites = same0 none;
  calls = refl;
  paired = tt;
}
body_part w (Some ss) m is =
    let g = body_good w false ss m is in
    record {
      part = as_part _ _ _ (λ h. h.0) (same1 _) (same1 _) (then_part g.part (pure_part w _ _));
      sites = g.sites;
      calls = g.calls;
      paired = tt;
    }

-- ---- functions

-- the points of a function in their order
abbrev pub points_for : PointId → Option (List Stmt) → PointId → Numbers
points_for entry body exit = both (both (own_point entry) (points_in body)) (own_point exit)

pub record Fitting (f : Frame) (g : Fun) : Type 0 where
  pub entry : is_own f AtEntry g.entry ≡ true
  pub exit : is_own f AtExit g.exit ≡ true
  pub body : BodyFits f g.body

-- what a function keeps of the one that it was
pub record Twin (f g : Fun) : Type 0 where
  pub formals : g.formals ≡ f.formals
  pub result : g.result ≡ f.result
  pub sites : Same (sites_in g.body) (sites_in f.body)
  pub calls : calls_in g.body ≡ calls_in f.body
  pub paired : Paired f.body g.body

pub record FunctionGood (w : Whole) (m : Made) (v : Went Fun) : Type 0 where
  pub part : Part w m v (Fitting (new w) v.value) (points_for w.function.entry w.function.body w.function.exit) (points_for v.value.entry v.value.body v.value.exit)
  pub twin : Twin w.function v.value

-- what is known of the old function
pub record Known (w : Whole) : Type 0 where
  pub view : ViewFits w.program.cells w.scene.function.0 (view_of w.function)
  pub fitting : Fitting (old w) w.function

in_order : (x y z : Numbers) → Same (both none (both x (both y (both z none)))) (both (both x y) z)
in_order x y z = record { at = (same3 x y z).at }

pub function_good : (w : Whole) (o : Option Noted) (m : Made) → Known w → ((n : Noted) → o ≡ Some n → Names w.program.cells w.scene.function.0 n) → FunctionGood w m (function w.scene o w.function m)
unfolding function
function_good w o m known names =
    let f = w.function in
    let a = contract_clauses f o m in
    let b = moved w.scene f.entry (standing AtEntry a.value) a.made in
    let body = body_part w f.body b.made known.fitting.body in
    let c = body_of w.scene f.body b.made in
    record {
      part = as_part _ _ _
          (λ h. record { entry = h.1.0.own h.0.0; exit = h.1.1.1.0.own h.0.1; body = h.1.1.0 })
          (in_order (own_point f.entry) (points_in f.body) (own_point f.exit))
          (in_order (own_point _) (points_in c.value) (own_point _))
          (then_part (clauses_part w o m known.view names)
          (then_part (point_part w AtEntry AtEntry f.entry (standing AtEntry a.value) a.made known.fitting.entry)
          (then_part body.part
          (then_part (point_part w AtExit AtExit f.exit (standing AtExit a.value) c.made known.fitting.exit) (pure_part w _ _)))));
      twin = record { formals = refl; result = refl; sites = body.sites; calls = body.calls; paired = body.paired };
    }
