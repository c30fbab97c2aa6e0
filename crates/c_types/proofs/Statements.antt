-- Statements: what they make fits.
use Rattle.std.proofs.Common.{◌≡◌, ◌∙◌, ℕ, Bool, true, false, not, List, [], ◌∷◌, ◌++◌, length, map, Option, Some, None, refl, ap, sym, subst, append_assoc}
use Rattle.std.proofs.lemmas.Bool.{and_from}
use Rattle.std.proofs.lemmas.List.{append-nil}
use Rattle.std.specs.Option.{option_and_then}
use Rattle.fc_base.specs.declared.ids.PointId.{PointId}
use Rattle.fc_base.specs.declared.syntax.Spot.{Spot}
use Rattle.c_ast.specs.declared.expr.Expr.{Expr as AstExpr}
use Rattle.c_ast.specs.declared.expr.Spec.{Spec}
use Rattle.c_ast.specs.declared.stmt.Declr.{Declr}
use Rattle.c_ast.specs.declared.stmt.First.{First}
use Rattle.c_ast.specs.declared.stmt.First.TheVariants as F
use Rattle.c_ast.specs.declared.stmt.Stmt.{Stmt as Ast, fold-roll-Stmt as fold-roll-Ast}
use Rattle.c_ast.specs.declared.stmt.Stmt.TheFolds.{ind-Stmt as ind-Ast, map-Stmt as map-Ast}
use Rattle.c_ast.specs.declared.stmt.Stmt.TheOpen.{Stmt-F as Ast-F}
use Rattle.c_ast.specs.declared.stmt.Sub.{Sub, Sub-F, fold-roll-Sub, map-Sub}
use Rattle.c_ir.specs.declared.note.InScope.{InScope}
use Rattle.c_ir.specs.declared.ty.IntType.{IntType}
use Rattle.c_ir.specs.declared.tree.Stmt.{Stmt, roll-Stmt, map-Stmt}
use Rattle.c_ir.specs.declared.tree.Stmt.TheOpen.{Stmt-F}
use Rattle.c_ir.specs.Numbers.{Numbers, none, both, own_point, count, sites, sites_if, points_of, points_of_all, points_step, stmt_sites, stmt_sites_of_all, stmt_sites_step}
use Rattle.c_rules.specs.Breaches.{Breaches, one, only_if}
use Rattle.c_rules.specs.declared.breach.Fault.{Fault}
use Rattle.c_rules.specs.declared.breach.Fault.TheVariants as B
use Rattle.c_ir.specs.declared.place.Place.{Place}
use Rattle.c_ir.specs.declared.place.Place.TheVariants as P
use Rattle.c_typing.specs.Meaning.{meaning}
use Rattle.c_typing.specs.Statements as spec
use Rattle.c_typing.specs.Statements.{Meant, Governed, stmts_from, meant_of, governed_of}
use Rattle.c_typing.specs.Walking as walk
use Rattle.c_typing.specs.Walking.{Names, Made, Went, Walking, pure, after, alone}
use Rattle.c_typing.specs.declared.context.Context.{Context}
use Rattle.c_typing.proofs.Numbering.{added}
use Rattle.c_ir.specs.Bodies.{Frame, Stand, AtLoop, Plain, clauses_are, is_own, expr_fits, value_if_fits, return_fits, fits, fits_step, stmts_fit}
use Rattle.c_types.proofs.Expressions.{converted_sites}
use Rattle.c_types.proofs.Steps.{Whole, frame, Free, Step, pure_step, then_step, as_step, alone_step, Adds, none_added, two, new_point_step, new_point_adds, new_note_step, new_note_adds, breach_step, value_step, value_adds, aside_step, aside_adds, StmtsGood}
use Rattle.c_types.proofs.Values.{converted_fits, one_fits, one_points, one_sites, fit_more}
use Rattle.c_types.proofs.Locals.{declaration_good}

-- ---- parts: a step and what it adds

record Part {X : Type 0} (w : Whole) (s : Names) (m : Made) (v : Went X) (Q : Type 0) (ps ss : Numbers) : Type 0 where
  step : Step w s m v Q
  adds : Adds m v.made ps ss

pure_part : {X : Type 0} (w : Whole) (s : Names) (m : Made) (x : X) → Part w s m (pure x s m) (Unit {0}) none none
pure_part w s m x = record { step = pure_step w s m x (Unit {0}) tt; adds = none_added m }

then_part : {X Y : Type 0} {w : Whole} {s : Names} {m : Made} {a : Went X} {b : Went Y} {Q R : Type 0} {ps ss qs ts : Numbers} → Part w s m a Q ps ss → Part w a.names a.made b R qs ts → Part w s m (after a b) (Q × R) (both ps qs) (both ss ts)
then_part {X} {Y} {w} {s} {m} {a} {b} {Q} {R} {ps} {ss} {qs} {ts} p q = record {
  step = then_step w s m a b Q R p.step q.step;
  adds = record {
    points = two ps qs (length m.points) (length a.made.points) (Some (length b.made.points)) p.adds.points q.adds.points;
    sites = two ss ts (length m.sites) (length a.made.sites) (Some (length b.made.sites)) p.adds.sites q.adds.sites;
  };
}

-- numbers that count on as far as others
abbrev Regroups : Numbers → Numbers → Type 0
Regroups x y = (a b : ℕ) → count a x ≡ Some b → count a y ≡ Some b

as_part : {X : Type 0} {w : Whole} {s : Names} {m : Made} {v : Went X} {Q : Type 0} {ps ss : Numbers} (R : Type 0) (qs ts : Numbers) → (Q → R) → Regroups ps qs → Regroups ss ts → Part w s m v Q ps ss → Part w s m v R qs ts
as_part {X} {w} {s} {m} {v} {Q} {ps} {ss} R qs ts f g h p = record {
  step = as_step w s m v Q R f p.step;
  adds = record { points = g _ _ p.adds.points; sites = h _ _ p.adds.sites };
}

ends_in : (o : Option ℕ) → option_and_then (λ (m : ℕ). Some m) o ≡ o
ends_in None = refl
ends_in (Some k) = refl

group1 : (x : Numbers) → Regroups (both x none) x
group1 x a b is = sym (ends_in (count a x)) ∙ is

group2 : (x y : Numbers) → Regroups (both x (both y none)) (both x y)
group2 x y a b =
    elim (count a x) as (λ (o : Option ℕ). option_and_then (λ m. count m (both y none)) o ≡ Some b → option_and_then (λ m. count m y) o ≡ Some b) [ None ↦ λ is. is | Some k ↦ group1 y k b ]

group3 : (x y z : Numbers) → Regroups (both x (both y (both z none))) (both (both x y) z)
group3 x y z a b =
    elim (count a x) as (λ (o : Option ℕ). option_and_then (λ m. count m (both y (both z none))) o ≡ Some b → option_and_then (λ m. count m z) (option_and_then (λ m. count m y) o) ≡ Some b) [ None ↦ λ is. is | Some k ↦ group2 y z k b ]

group4 : (x y z u : Numbers) → Regroups (both x (both y (both z (both u none)))) (both (both (both x y) z) u)
group4 x y z u a b =
    elim (count a x) as (λ (o : Option ℕ). option_and_then (λ m. count m (both y (both z (both u none)))) o ≡ Some b → option_and_then (λ m. count m u) (option_and_then (λ m. count m z) (option_and_then (λ m. count m y) o)) ≡ Some b) [ None ↦ λ is. is | Some k ↦ group3 y z u k b ]

-- ---- parts of statements

abbrev frame_at : Whole → Context → Frame
frame_at w ctx = frame w ctx.owner.0 ctx.result

noted_part : (w : Whole) (ctx : Context) (waiting : Option Spot) (before : List InScope) (s : Names) (m : Made) → Part w s m (spec.noted ctx waiting before s m) (Unit {0}) none none
noted_part w ctx None before s m = pure_part w s m tt
noted_part w ctx (Some at) before s m = record {
  step = new_note_step w s m (Some ctx.owner) at before;
  adds = new_note_adds s m (Some ctx.owner) at before;
}

waiting_part : (w : Whole) (ctx : Context) (waiting : Option Spot) (s : Names) (m : Made) → Part w s m (spec.note_waiting ctx waiting s m) (Unit {0}) none none
unfolding spec.note_waiting
waiting_part w ctx waiting s m = noted_part w ctx waiting s.declared s m

new_point_part : (w : Whole) (ctx : Context) (stand : Stand) → clauses_are stand 0 ≡ true → (at : Spot) (s : Names) (m : Made) → Part w s m (walk.new_point ctx.owner at.line s m) (is_own (frame_at w ctx) stand (walk.new_point ctx.owner at.line s m).value ≡ true) (own_point (walk.new_point ctx.owner at.line s m).value) none
new_point_part w ctx stand ok at s m = record {
  step = new_point_step w s m ctx.owner at.line ctx.result stand ok;
  adds = new_point_adds s m ctx.owner at.line;
}

point_part : (w : Whole) (ctx : Context) (stand : Stand) → clauses_are stand 0 ≡ true → (waiting : Option Spot) (at : Spot) (s : Names) (m : Made) → Part w s m (spec.point_at ctx waiting at s m) (is_own (frame_at w ctx) stand (spec.point_at ctx waiting at s m).value ≡ true) (own_point (spec.point_at ctx waiting at s m).value) none
point_part w ctx stand ok waiting at s m =
    as_part _ _ _ (λ q. q.1) (λ a b is. is) (λ a b is. is) (then_part (waiting_part w ctx waiting s m) (new_point_part w ctx stand ok at _ _))

value_part : (w : Whole) (ctx : Context) (point : PointId) (place : Place) (e : AstExpr) (s : Names) (m : Made) → Part w s m (walk.value_of point place e s m) (expr_fits (frame_at w ctx) point place (walk.value_of point place e s m).value ≡ true) none (sites (walk.value_of point place e s m).value)
value_part w ctx point place e s m = record {
  step = value_step w s m ctx.owner.0 ctx.result point place e;
  adds = value_adds w.layout s m point place e;
}

aside_part : (w : Whole) (place : Place) (e : AstExpr) (s : Names) (m : Made) → Part w s m (walk.aside place e s m) (Unit {0}) none none
aside_part w place e s m = record { step = aside_step w s m place e; adds = aside_adds s m place e }

breach_part : (w : Whole) (b : Breaches) (s : Names) (m : Made) → Part w s m (walk.breach b s m) (Free b) none none
breach_part w b s m = record { step = breach_step w s m b; adds = none_added m }

stmts_part : (w : Whole) (ctx : Context) (s : Names) (m : Made) (v : Went (List Stmt)) → StmtsGood w ctx s m v → Part w s m v (stmts_fit (frame_at w ctx) ctx.in_loop v.value ≡ true) (points_of_all v.value) (stmt_sites_of_all v.value)
stmts_part w ctx s m v g = record { step = g.step; adds = g.adds }

-- ---- single statements

-- a part whose value is one statement
one_good : {w : Whole} {s : Names} {m : Made} {v : Went (List Stmt)} {Q : Type 0} {ps ss : Numbers} (ctx : Context) (x : Stmt-F Stmt) → Part w s m v Q ps ss → v.value ≡ roll-Stmt x ∷ [] → (Q → fits_step (frame_at w ctx) (map-Stmt Stmt (Bool → Bool) (fits (frame_at w ctx)) x) ctx.in_loop ≡ true) → Regroups ps (points_step (map-Stmt Stmt Numbers points_of x)) → Regroups ss (stmt_sites_step (map-Stmt Stmt Numbers stmt_sites x)) → StmtsGood w ctx s m v
one_good {w} {s} {m} {v} {Q} {ps} {ss} ctx x part is fit g h = record {
  step = as_step w s m v Q _ (λ q. subst (λ (xs : List Stmt). stmts_fit (frame_at w ctx) ctx.in_loop xs ≡ true) (sym is) (one_fits (frame_at w ctx) ctx.in_loop x (fit q))) part.step;
  adds = record {
    points = ap (λ (xs : List Stmt). count (length m.points) (points_of_all xs)) is ∙ one_points x _ _ (g _ _ part.adds.points);
    sites = ap (λ (xs : List Stmt). count (length m.sites) (stmt_sites_of_all xs)) is ∙ one_sites x _ _ (h _ _ part.adds.sites);
  };
}

dropped_good : (w : Whole) (ctx : Context) (e : AstExpr) (s : Names) (m : Made) → StmtsGood w ctx s m (spec.dropped ctx e s m)
unfolding spec.dropped
dropped_good w ctx e s m =
    one_good ctx (Stmt-F.Expression _ _)
    (then_part (new_point_part w ctx Plain refl (meaning e).at s m) (then_part (value_part w ctx _ P.Dropped e _ _) (pure_part w _ _ _)))
    refl (λ q. and_from _ _ q.0 q.1.0) (group1 (own_point _)) (group1 (sites _))

expression_good : (w : Whole) (ctx : Context) (waiting : Option Spot) (at : Spot) (e : AstExpr) (s : Names) (m : Made) → StmtsGood w ctx s m (spec.expression ctx waiting at e s m)
unfolding spec.expression
expression_good w ctx waiting at e s m =
    one_good ctx (Stmt-F.Expression _ _)
    (then_part (point_part w ctx Plain refl waiting at s m) (then_part (value_part w ctx _ P.Dropped e _ _) (pure_part w _ _ _)))
    refl (λ q. and_from _ _ q.0 q.1.0) (group1 (own_point _)) (group1 (sites _))

empty_good : (w : Whole) (ctx : Context) (waiting : Option Spot) (at : Spot) (s : Names) (m : Made) → StmtsGood w ctx s m (spec.empty_stmt ctx waiting at s m)
unfolding spec.empty_stmt
empty_good w ctx waiting at s m =
    one_good ctx (Stmt-F.Empty _)
    (then_part (point_part w ctx Plain refl waiting at s m) (pure_part w _ _ _))
    refl (λ q. q.0) (group1 (own_point _)) (λ a b is. is)

-- where a jump out of a loop is no breach, a loop is around it
in_loop_of : (in_loop : Bool) (at : ℕ) (fault : Fault) → Free (only_if (not in_loop) at fault) → in_loop ≡ true
in_loop_of true at fault free = refl
in_loop_of false at fault free = absurd free

loop_part : (w : Whole) (ctx : Context) (at : Spot) (s : Names) (m : Made) → Part w s m (walk.breach (spec.loop_faults ctx at) s m) (ctx.in_loop ≡ true) none none
loop_part w ctx at s m =
    as_part _ _ _ (in_loop_of ctx.in_loop at.span.from B.BadType) (λ a b is. is) (λ a b is. is)
    (breach_part w (spec.loop_faults ctx at) s m)

break_good : (w : Whole) (ctx : Context) (waiting : Option Spot) (at : Spot) (s : Names) (m : Made) → StmtsGood w ctx s m (spec.break_stmt ctx waiting at s m)
unfolding spec.break_stmt
break_good w ctx waiting at s m =
    one_good ctx (Stmt-F.Break _)
    (then_part (point_part w ctx Plain refl waiting at s m) (then_part (loop_part w ctx at _ _) (pure_part w _ _ _)))
    refl (λ q. and_from _ _ q.0 q.1.0) (group1 (own_point _)) (λ a b is. is)

continue_good : (w : Whole) (ctx : Context) (waiting : Option Spot) (at : Spot) (s : Names) (m : Made) → StmtsGood w ctx s m (spec.continue_stmt ctx waiting at s m)
unfolding spec.continue_stmt
continue_good w ctx waiting at s m =
    one_good ctx (Stmt-F.Continue _)
    (then_part (point_part w ctx Plain refl waiting at s m) (then_part (loop_part w ctx at _ _) (pure_part w _ _ _)))
    refl (λ q. and_from _ _ q.0 q.1.0) (group1 (own_point _)) (λ a b is. is)

returned_part : (w : Whole) (ctx : Context) (p : PointId) (at : Spot) (result : Option IntType) (value : Option AstExpr) (s : Names) (m : Made) → Part w s m (spec.returned p at result value s m) (return_fits (frame_at w ctx) p result (spec.returned p at result value s m).value ≡ true) none (sites_if (spec.returned p at result value s m).value)
returned_part w ctx p at None None s m = as_part _ _ _ (λ q. refl) (λ a b is. is) (λ a b is. is) (pure_part w s m None)
returned_part w ctx p at (Some ty) None s m =
    as_part _ _ _ (λ q. absurd q.0) (λ a b is. is) (λ a b is. is)
    (then_part (breach_part w (one at.span.from B.BadType) s m) (pure_part w _ _ _))
returned_part w ctx p at None (Some e) s m =
    as_part _ _ _ (λ q. absurd q.0) (λ a b is. is) (λ a b is. is)
    (then_part (breach_part w (one at.span.from B.BadType) s m) (then_part (aside_part w P.Value e _ _) (pure_part w _ _ _)))
returned_part w ctx p at (Some ty) (Some e) s m =
    let t = (walk.value_of p P.Value e s m).value in
    as_part _ _ _
    (λ q. converted_fits (frame_at w ctx) p P.Value ty t refl q.0)
    (λ a b is. is)
    (λ a b is. ap (count a) (converted_sites ty t) ∙ group1 (sites t) a b is)
    (then_part (value_part w ctx p P.Value e s m) (pure_part w _ _ _))

return_good : (w : Whole) (ctx : Context) (waiting : Option Spot) (at : Spot) (value : Option AstExpr) (s : Names) (m : Made) → StmtsGood w ctx s m (spec.return_stmt ctx waiting at value s m)
unfolding spec.return_stmt
return_good w ctx waiting at value s m =
    one_good ctx (Stmt-F.Return _ _)
    (then_part (point_part w ctx Plain refl waiting at s m) (then_part (returned_part w ctx _ at ctx.result value _ _) (pure_part w _ _ _)))
    refl (λ q. and_from _ _ q.0 q.1.0) (group1 (own_point _)) (group1 (sites_if _))

note_good : (w : Whole) (ctx : Context) (waiting : Option Spot) (at : Spot) (s : Names) (m : Made) → StmtsGood w ctx s m (spec.note_stmt ctx waiting at s m)
note_good w ctx waiting at s m =
    one_good ctx (Stmt-F.Note at)
    (then_part (waiting_part w ctx waiting s m) (then_part (waiting_part w ctx (Some at) _ _) (pure_part w _ _ _)))
    refl (λ q. refl) (λ a b is. is) (λ a b is. is)

-- ---- lists that a part gives

list_good : {w : Whole} {s : Names} {m : Made} {v : Went (List Stmt)} {Q : Type 0} {ps ss : Numbers} (ctx : Context) → Part w s m v Q ps ss → (Q → stmts_fit (frame_at w ctx) ctx.in_loop v.value ≡ true) → Regroups ps (points_of_all v.value) → Regroups ss (stmt_sites_of_all v.value) → StmtsGood w ctx s m v
list_good {w} {s} {m} {v} {Q} {ps} {ss} ctx part fit g h = record {
  step = as_step w s m v Q _ fit part.step;
  adds = record { points = g _ _ part.adds.points; sites = h _ _ part.adds.sites };
}

nothing_good : (w : Whole) (ctx : Context) (s : Names) (m : Made) → StmtsGood w ctx s m (pure [] s m)
unfolding stmts_fit
nothing_good w ctx s m = list_good ctx (pure_part w s m []) (λ q. refl) (λ a b is. is) (λ a b is. is)

declare_good : (w : Whole) (ctx : Context) (waiting : Option Spot) (sp : Spec) (ds : List Declr) (s : Names) (m : Made) → StmtsGood w ctx s m (spec.declare_stmt ctx waiting sp ds s m)
unfolding spec.declare_stmt
declare_good w ctx waiting sp ds s m =
    list_good ctx
    (then_part (waiting_part w ctx waiting s m) (stmts_part w ctx _ _ _ (declaration_good w ctx sp ds _ _)))
    (λ q. q.1) (λ a b is. is) (λ a b is. is)

head_of_good : (w : Whole) (ctx : Context) (waiting : Option Spot) (first : First) (s : Names) (m : Made) → StmtsGood w ctx s m (spec.head_of ctx waiting first s m)
head_of_good w ctx waiting F.Nothing s m =
    list_good ctx
    (then_part (waiting_part w ctx waiting s m) (stmts_part w ctx _ _ _ (nothing_good w ctx _ _)))
    (λ q. q.1) (λ a b is. is) (λ a b is. is)
head_of_good w ctx waiting (F.Expression e) s m =
    list_good ctx
    (then_part (waiting_part w ctx waiting s m) (stmts_part w ctx _ _ _ (dropped_good w ctx e _ _)))
    (λ q. q.1) (λ a b is. is) (λ a b is. is)
head_of_good w ctx waiting (F.Declare sp ds) s m =
    list_good ctx
    (then_part (stmts_part w ctx _ _ _ (declaration_good w ctx sp ds s m)) (then_part (noted_part w ctx waiting s.declared _ _) (pure_part w _ _ _)))
    (λ q. q.0) (group1 (points_of_all _)) (group1 (stmt_sites_of_all _))

head_good : (w : Whole) (ctx : Context) (waiting : Option Spot) (first : First) (s : Names) (m : Made) → StmtsGood w ctx s m (spec.head ctx waiting first s m)
unfolding spec.head
head_good w ctx waiting first s m = head_of_good w ctx waiting first s m

update_good : (w : Whole) (ctx : Context) (e : Option AstExpr) (s : Names) (m : Made) → StmtsGood w ctx s m (spec.update ctx e s m)
unfolding spec.update
update_good w ctx None s m = nothing_good w ctx s m
update_good w ctx (Some e) s m = dropped_good w ctx e s m

condition_part : (w : Whole) (ctx : Context) (p : PointId) (c : Option AstExpr) (s : Names) (m : Made) → Part w s m (spec.condition p c s m) (value_if_fits (frame_at w ctx) p P.Inner (spec.condition p c s m).value ≡ true) none (sites_if (spec.condition p c s m).value)
unfolding spec.condition
condition_part w ctx p None s m = as_part _ _ _ (λ q. refl) (λ a b is. is) (λ a b is. is) (pure_part w s m None)
condition_part w ctx p (Some c) s m =
    as_part _ _ _ (λ q. q.0) (λ a b is. is) (group1 (sites _)) (then_part (value_part w ctx p P.Inner c s m) (pure_part w _ _ _))

-- ---- statements that govern others

abbrev GoodMeant : Meant → Type 0
GoodMeant x = (w : Whole) (ctx : Context) (waiting : Option Spot) (s : Names) (m : Made) → StmtsGood w ctx s m (x.walk ctx waiting s m)

abbrev GoodGoverned : Governed → Type 0
GoodGoverned g = (w : Whole) (ctx : Context) (s : Names) (m : Made) → StmtsGood w ctx s m (g ctx s m)

abbrev GoodBranch : Option Governed → Type 0
GoodBranch None = Unit {0}
GoodBranch (Some g) = GoodGoverned g

branch_good : (other : Option Governed) → GoodBranch other → GoodGoverned (spec.branch other)
branch_good None good w ctx s m = nothing_good w ctx s m
branch_good (Some g) good w ctx s m = good w ctx s m

-- a loop's body is in the loop
loop_stmts : (w : Whole) (ctx : Context) (s : Names) (m : Made) (v : Went (List Stmt)) → StmtsGood w (spec.looping ctx) s m v → Part w s m v (stmts_fit (frame_at w ctx) true v.value ≡ true) (points_of_all v.value) (stmt_sites_of_all v.value)
loop_stmts w ctx s m v g = record { step = g.step; adds = g.adds }

-- what is good in a block is good around it, and its names are its own
block_good : (w : Whole) (ctx : Context) (since : ℕ) (s : Names) (m : Made) (p : Walking (List Stmt)) → StmtsGood w (spec.inner ctx since) s m (p s m) → StmtsGood w ctx s m (alone p s m)
block_good w ctx since s m p g = record { step = alone_step w s m p _ g.step; adds = record { points = g.adds.points; sites = g.adds.sites } }

if_good : (w : Whole) (ctx : Context) (waiting : Option Spot) (at : Spot) (c : AstExpr) (main : Governed) (other : Option Governed) → GoodGoverned main → GoodBranch other → (s : Names) (m : Made) → StmtsGood w ctx s m (spec.if_stmt ctx waiting at c main other s m)
unfolding stmts_fit
if_good w ctx waiting at c main other ys ns s m =
    one_good ctx (Stmt-F.If _ _ _ _)
    (then_part (point_part w ctx Plain refl waiting at s m) (then_part (value_part w ctx _ P.Inner c _ _)
    (then_part (stmts_part w ctx _ _ _ (ys w ctx _ _)) (then_part (stmts_part w ctx _ _ _ (branch_good other ns w ctx _ _)) (pure_part w _ _ _)))))
    refl (λ q. and_from _ _ (and_from _ _ q.0 q.1.0) (and_from _ _ q.1.1.0 q.1.1.1.0))
    (group3 (own_point _) (points_of_all _) (points_of_all _))
    (group3 (sites _) (stmt_sites_of_all _) (stmt_sites_of_all _))

while_good : (w : Whole) (ctx : Context) (waiting : Option Spot) (at : Spot) (c : AstExpr) (body : Governed) → GoodGoverned body → (s : Names) (m : Made) → StmtsGood w ctx s m (spec.while_stmt ctx waiting at c body s m)
unfolding stmts_fit
while_good w ctx waiting at c body good s m =
    one_good ctx (Stmt-F.While _ _ _)
    (then_part (point_part w ctx AtLoop refl waiting at s m) (then_part (value_part w ctx _ P.Inner c _ _)
    (then_part (loop_stmts w ctx _ _ _ (good w (spec.looping ctx) _ _)) (pure_part w _ _ _))))
    refl (λ q. and_from _ _ (and_from _ _ q.0 q.1.0) q.1.1.0)
    (group2 (own_point _) (points_of_all _)) (group2 (sites _) (stmt_sites_of_all _))

do_good : (w : Whole) (ctx : Context) (waiting : Option Spot) (at : Spot) (c : AstExpr) (body : Governed) → GoodGoverned body → (s : Names) (m : Made) → StmtsGood w ctx s m (spec.do_stmt ctx waiting at c body s m)
unfolding stmts_fit
do_good w ctx waiting at c body good s m =
    one_good ctx (Stmt-F.DoWhile _ _ _)
    (then_part (point_part w ctx AtLoop refl waiting at s m) (then_part (loop_stmts w ctx _ _ _ (good w (spec.looping ctx) _ _))
    (then_part (value_part w ctx _ P.Inner c _ _) (pure_part w _ _ _))))
    refl (λ q. and_from _ _ (and_from _ _ q.0 q.1.1.0) q.1.0)
    (group2 (own_point _) (points_of_all _)) (group2 (stmt_sites_of_all _) (sites _))

for_parts_good : (w : Whole) (ctx : Context) (waiting : Option Spot) (at : Spot) (first : First) (c update : Option AstExpr) (body : Governed) → GoodGoverned body → (s : Names) (m : Made) → StmtsGood w ctx s m (spec.for_parts ctx waiting at first c update body s m)
unfolding stmts_fit
for_parts_good w ctx waiting at first c update body good s m =
    one_good ctx (Stmt-F.For _ _ _ _ _)
    (then_part (stmts_part w ctx _ _ _ (head_good w ctx waiting first s m)) (then_part (new_point_part w ctx AtLoop refl at _ _)
    (then_part (condition_part w ctx _ c _ _) (then_part (loop_stmts w ctx _ _ _ (good w (spec.looping ctx) _ _))
    (then_part (stmts_part w ctx _ _ _ (update_good w ctx update _ _)) (pure_part w _ _ _))))))
    refl (λ q. and_from _ _ (and_from _ _ q.1.0 q.1.1.0) (and_from _ _ q.0 (and_from _ _ q.1.1.1.0 q.1.1.1.1.0)))
    (group4 (points_of_all _) (own_point _) (points_of_all _) (points_of_all _))
    (group4 (stmt_sites_of_all _) (sites_if _) (stmt_sites_of_all _) (stmt_sites_of_all _))

for_good : (w : Whole) (ctx : Context) (waiting : Option Spot) (at : Spot) (first : First) (c update : Option AstExpr) (body : Governed) → GoodGoverned body → (s : Names) (m : Made) → StmtsGood w ctx s m (spec.for_stmt ctx waiting at first c update body s m)
for_good w ctx waiting at first c update body good s m =
    block_good w ctx m.cells s m (spec.with_cells (λ since. spec.for_parts (spec.inner ctx since) waiting at first c update body))
    (for_parts_good w (spec.inner ctx m.cells) waiting at first c update body good s m)

-- ---- lists

-- what a part gives are the statements that were there and more, which are good
record More {X : Type 0} (w : Whole) (ctx : Context) (s : Names) (m : Made) (v : Went X) (done now : List Stmt) : Type 0 where
  more : List Stmt
  is : now ≡ done ++ more
  part : Part w s m v (stmts_fit (frame_at w ctx) ctx.in_loop more ≡ true) (points_of_all more) (stmt_sites_of_all more)

-- both what one part gives and what the next one gives
then_stmts : {X Y : Type 0} {w : Whole} {s : Names} {m : Made} {a : Went X} {b : Went Y} (ctx : Context) (xs ys : List Stmt) → Part w s m a (stmts_fit (frame_at w ctx) ctx.in_loop xs ≡ true) (points_of_all xs) (stmt_sites_of_all xs) → Part w a.names a.made b (stmts_fit (frame_at w ctx) ctx.in_loop ys ≡ true) (points_of_all ys) (stmt_sites_of_all ys) → Part w s m (after a b) (stmts_fit (frame_at w ctx) ctx.in_loop (xs ++ ys) ≡ true) (points_of_all (xs ++ ys)) (stmt_sites_of_all (xs ++ ys))
then_stmts {X} {Y} {w} {s} {m} {a} {b} ctx xs ys p q = record {
  step = as_step w s m (after a b) _ _ (λ h. fit_more (frame_at w ctx) ctx.in_loop xs ys h.0 h.1) (then_step w s m a b _ _ p.step q.step);
  adds = record {
    points = added points_of xs ys (xs ++ ys) (length m.points) (length a.made.points) (length b.made.points) refl p.adds.points q.adds.points;
    sites = added stmt_sites xs ys (xs ++ ys) (length m.sites) (length a.made.sites) (length b.made.sites) refl p.adds.sites q.adds.sites;
  };
}

then_more : {X Y : Type 0} {w : Whole} {ctx : Context} {s : Names} {m : Made} {a : Went X} {b : Went Y} {done mid now : List Stmt} → More w ctx s m a done mid → More w ctx a.names a.made b mid now → More w ctx s m (after a b) done now
then_more {X} {Y} {w} {ctx} {s} {m} {a} {b} {done} {mid} {now} p q = record {
  more = p.more ++ q.more;
  is = q.is ∙ ap (λ (xs : List Stmt). xs ++ q.more) p.is ∙ append_assoc done p.more q.more;
  part = then_stmts ctx p.more q.more p.part q.part;
}

nothing_more : {X : Type 0} (w : Whole) (ctx : Context) (s : Names) (m : Made) (v : Went X) (done : List Stmt) → Part w s m v (Unit {0}) none none → More w ctx s m v done done
unfolding stmts_fit
nothing_more w ctx s m v done p = record {
  more = [];
  is = sym (append-nil done);
  part = as_part _ _ _ (λ q. refl) (λ a b is. is) (λ a b is. is) p;
}

-- statements that are put after those that were there
put_more : {w : Whole} {s : Names} {m : Made} {v : Went (List Stmt)} {X : Type 0} (ctx : Context) (x : X) (done : List Stmt) → StmtsGood w ctx s m v → More w ctx s m (after v (pure x v.names v.made)) done (done ++ v.value)
put_more {w} {s} {m} {v} {X} ctx x done g = record {
  more = v.value;
  is = refl;
  part = as_part _ _ _ (λ q. q.0) (group1 (points_of_all v.value)) (group1 (stmt_sites_of_all v.value))
      (then_part (stmts_part w ctx s m v g) (pure_part w v.names v.made x));
}

-- so with a note
note_more : {w : Whole} {s : Names} {m : Made} (ctx : Context) (waiting : Option Spot) (at : Spot) (done : List Stmt) → More w ctx s m (spec.note_waiting ctx waiting s m) done (done ++ spec.note_of at ∷ [])
note_more {w} {s} {m} ctx waiting at done = record {
  more = spec.note_of at ∷ [];
  is = refl;
  part = as_part _ _ _
      (λ q. one_fits (frame_at w ctx) ctx.in_loop (Stmt-F.Note at) refl)
      (one_points (Stmt-F.Note at)) (one_sites (Stmt-F.Note at))
      (waiting_part w ctx waiting s m);
}

next_by_more : (w : Whole) (ctx : Context) (waiting note : Option Spot) (x : Meant) → GoodMeant x → (done : List Stmt) (s : Names) (m : Made) → More w ctx s m (spec.next_by ctx waiting note x done s m) done (spec.next_by ctx waiting note x done s m).value.1
next_by_more w ctx waiting None x good done s m = put_more ctx _ done (good w ctx waiting s m)
next_by_more w ctx waiting (Some at) x good done s m =
    then_more (note_more ctx waiting at done) (nothing_more w ctx _ _ _ _ (pure_part w _ _ _))

next_more : (w : Whole) (ctx : Context) (waiting : Option Spot) (x : Meant) → GoodMeant x → (done : List Stmt) (s : Names) (m : Made) → More w ctx s m (spec.next ctx waiting x done s m) done (spec.next ctx waiting x done s m).value.1
unfolding spec.next
next_more w ctx waiting x good done s m = next_by_more w ctx waiting x.note x good done s m

abbrev AllGood : List Meant → Type 0
AllGood [] = Unit {0}
AllGood (x ∷ xs) = GoodMeant x × AllGood xs

from_more : (w : Whole) (ctx : Context) (waiting : Option Spot) (xs : List Meant) → AllGood xs → (done : List Stmt) (s : Names) (m : Made) → More w ctx s m (stmts_from ctx waiting xs done s m) done (stmts_from ctx waiting xs done s m).value
from_more w ctx waiting [] good done s m =
    nothing_more w ctx s m _ done
    (as_part _ _ _ (λ q. q.0) (λ a b is. is) (λ a b is. is) (then_part (waiting_part w ctx waiting s m) (pure_part w _ _ done)))
from_more w ctx waiting (x ∷ xs) good done s m =
    let n = spec.next ctx waiting x done s m in
    then_more (next_more w ctx waiting x good.0 done s m) (from_more w ctx n.value.0 xs good.1 n.value.1 n.names n.made)

notes_more : (w : Whole) (ctx : Context) (waiting : Option Spot) (notes : List Spot) (done : List Stmt) (s : Names) (m : Made) → More w ctx s m (spec.notes_from ctx waiting notes done s m) done (spec.notes_from ctx waiting notes done s m).value.1
notes_more w ctx waiting [] done s m = nothing_more w ctx s m _ done (pure_part w s m _)
notes_more w ctx waiting (at ∷ notes) done s m =
    then_more (note_more ctx waiting at done) (notes_more w ctx (Some at) notes (done ++ spec.note_of at ∷ []) _ _)

-- what begins with nothing is good
all_more : (w : Whole) (ctx : Context) (s : Names) (m : Made) (v : Went (List Stmt)) → More w ctx s m v [] v.value → StmtsGood w ctx s m v
all_more w ctx s m v p =
    list_good ctx p.part
    (λ q. subst (λ (xs : List Stmt). stmts_fit (frame_at w ctx) ctx.in_loop xs ≡ true) (sym p.is) q)
    (λ a b is. ap (λ (xs : List Stmt). count a (points_of_all xs)) p.is ∙ is)
    (λ a b is. ap (λ (xs : List Stmt). count a (stmt_sites_of_all xs)) p.is ∙ is)

list_from_good : (w : Whole) (ctx : Context) (xs : List Meant) → AllGood xs → (s : Names) (m : Made) → StmtsGood w ctx s m (stmts_from ctx None xs [] s m)
list_from_good w ctx xs good s m = all_more w ctx s m _ (from_more w ctx None xs good [] s m)

-- ---- all statements

block_stmt_good : (w : Whole) (ctx : Context) (waiting : Option Spot) (xs : List Meant) → AllGood xs → (s : Names) (m : Made) → StmtsGood w ctx s m (spec.block_stmt ctx waiting xs s m)
unfolding stmts_fit
block_stmt_good w ctx waiting xs good s m =
    let n = spec.note_waiting ctx waiting s m in
    one_good ctx (Stmt-F.Block _)
    (then_part (waiting_part w ctx waiting s m)
    (then_part (stmts_part w ctx _ _ _ (block_good w ctx n.made.cells n.names n.made (spec.with_cells (λ since. stmts_from (spec.inner ctx since) None xs []))
    (list_from_good w (spec.inner ctx n.made.cells) xs good n.names n.made))) (pure_part w _ _ _)))
    refl (λ q. q.1.0) (group1 (points_of_all _)) (group1 (stmt_sites_of_all _))

sub_good : (y : Sub-F Meant Governed) → GoodMeant y.stmt → GoodGoverned (spec.sub_step y)
sub_good y good w ctx s m =
    let n = spec.notes_from ctx None y.notes [] s m in
    all_more w ctx s m _
    (then_more (notes_more w ctx None y.notes [] s m) (put_more ctx _ n.value.1 (good w ctx n.value.0 n.names n.made)))

abbrev WithStmt : Type 0
WithStmt = (x : Ast) × GoodMeant (meant_of x)

abbrev WithSub : Type 0
WithSub = (x : Sub) × GoodGoverned (governed_of x)

all_good : (xs : List WithStmt) → AllGood (map meant_of (map (λ e. e.0) xs))
all_good [] = tt
all_good (x ∷ xs) = (x.1, all_good xs)

stmt_layer : (y : Ast-F WithStmt WithSub) → GoodMeant (spec.stmt_step (map-Ast Ast Sub Meant Governed meant_of governed_of (map-Ast WithStmt WithSub Ast Sub (λ e. e.0) (λ e. e.0) y)))
stmt_layer (Ast-F.Declare at sp ds) w ctx waiting s m = declare_good w ctx waiting sp ds s m
stmt_layer (Ast-F.Expression at e) w ctx waiting s m = expression_good w ctx waiting at e s m
stmt_layer (Ast-F.If at c main None) w ctx waiting s m = if_good w ctx waiting at c (governed_of main.0) None main.1 tt s m
stmt_layer (Ast-F.If at c main (Some other)) w ctx waiting s m =
    if_good w ctx waiting at c (governed_of main.0) (Some (governed_of other.0)) main.1 other.1 s m
stmt_layer (Ast-F.While at c body) w ctx waiting s m = while_good w ctx waiting at c (governed_of body.0) body.1 s m
stmt_layer (Ast-F.DoWhile at body c) w ctx waiting s m = do_good w ctx waiting at c (governed_of body.0) body.1 s m
stmt_layer (Ast-F.For at first c update body) w ctx waiting s m =
    for_good w ctx waiting at first c update (governed_of body.0) body.1 s m
stmt_layer (Ast-F.Break at) w ctx waiting s m = break_good w ctx waiting at s m
stmt_layer (Ast-F.Continue at) w ctx waiting s m = continue_good w ctx waiting at s m
stmt_layer (Ast-F.Return at value) w ctx waiting s m = return_good w ctx waiting at value s m
stmt_layer (Ast-F.Empty at) w ctx waiting s m = empty_good w ctx waiting at s m
stmt_layer (Ast-F.Block at xs) w ctx waiting s m = block_stmt_good w ctx waiting (map meant_of (map (λ e. e.0) xs)) (all_good xs) s m
stmt_layer (Ast-F.Note at) w ctx waiting s m = note_good w ctx waiting at s m

stmt_good : (x : Ast) → GoodMeant (meant_of x)
stmt_good = ind-Ast (λ x. GoodMeant (meant_of x)) (λ x. GoodGoverned (governed_of x))
    (λ x y is.
    let here = subst (λ (z : Ast-F Ast Sub). GoodMeant (spec.stmt_step (map-Ast Ast Sub Meant Governed meant_of governed_of z))) is (stmt_layer y) in
    subst GoodMeant (sym (fold-roll-Ast Meant Governed spec.stmt_step spec.sub_step x)) here)
    (λ x y is.
    let here = subst (λ (z : Sub-F Ast Sub). GoodGoverned (spec.sub_step (map-Sub Ast Sub Meant Governed meant_of governed_of z))) is (sub_good (map-Sub Ast Sub Meant Governed meant_of governed_of (map-Sub WithStmt WithSub Ast Sub (λ e. e.0) (λ e. e.0) y)) y.stmt.1) in
    subst GoodGoverned (sym (fold-roll-Sub Meant Governed spec.stmt_step spec.sub_step x)) here)

stmts_are_good : (xs : List Ast) → AllGood (map meant_of xs)
stmts_are_good [] = tt
stmts_are_good (x ∷ xs) = (stmt_good x, stmts_are_good xs)

pub stmts_good : (w : Whole) (ctx : Context) (ss : List Ast) (s : Names) (m : Made) → StmtsGood w ctx s m (stmts_from ctx None (map meant_of ss) [] s m)
stmts_good w ctx ss s m = list_from_good w ctx (map meant_of ss) (stmts_are_good ss) s m
