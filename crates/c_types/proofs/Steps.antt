-- Walks over statements and declarations: what each leaves as it is, what it adds, and what its value is, where what
-- it makes is the beginning of what the program has.
use Rattle.std.proofs.Common.{◌≡◌, ◌∙◌, ◌<◌, ◌+◌, ℕ, Bool, true, false, List, [], ◌∷◌, ◌++◌, length, Option, Some, unwrap_or, cond, bytes_eq, refl, ap, sym, subst, arith, map, replicate, length-append, slice_get}
use Rattle.std.proofs.lemmas.Bool.{and_from, eq-eqb}
use Rattle.std.proofs.lemmas.List.{length-replicate}
use Rattle.fc_base.specs.declared.ids.FnId.{FnId}
use Rattle.fc_base.specs.declared.ids.Line.{Line}
use Rattle.fc_base.specs.declared.ids.PointId.{PointId}
use Rattle.fc_base.specs.declared.syntax.Spot.{Spot}
use Rattle.c_ast.specs.declared.expr.Expr.{Expr as Ast}
use Rattle.c_ir.specs.Formed.{Layout, on_some, cells_are}
use Rattle.c_ir.specs.Numbers.{Numbers, none, both, own_point, count, sites, points_of_all, stmt_sites_of_all}
use Rattle.c_ir.specs.Sited.{Extends}
use Rattle.c_ir.specs.declared.ty.IntType.{IntType}
use Rattle.c_ir.specs.declared.note.InScope.{InScope}
use Rattle.c_ir.specs.declared.tree.CellInfo.{CellInfo}
use Rattle.c_ir.specs.declared.tree.Expr.{Expr}
use Rattle.c_ir.specs.declared.tree.PointInfo.{PointInfo}
use Rattle.c_ir.specs.declared.tree.SiteInfo.{SiteInfo}
use Rattle.c_ir.specs.declared.tree.Stmt.{Stmt}
use Rattle.c_rules.specs.Breaches.{Breaches, Env}
use Rattle.c_rules.specs.Breaches as breach
use Rattle.c_rules.specs.Fits.{EnvFits, entry_fits}
use Rattle.c_ir.specs.Placed.{is_formed}
use Rattle.c_rules.specs.Typing.{Gave, gave}
use Rattle.c_rules.specs.declared.scope.Entry.{Entry}
use Rattle.c_ir.specs.declared.place.Place.{Place}
use Rattle.c_typing.specs.Meaning.{meaning}
use Rattle.c_typing.specs.Walking as walk
use Rattle.c_typing.specs.Walking.{Names, Made, Went, Walking, pure, after, alone}
use Rattle.c_typing.specs.declared.context.Context.{Context}
use Rattle.c_typing.specs.declared.walk.Allocated.{Allocated}
use Rattle.c_ir.specs.Bodies.{Frame, Stand, clauses_are, bears, is_own, expr_fits, stmts_fit}
use Rattle.c_types.proofs.Shapes.{Shape, shape, shape_for, shapes, shapes_more, Starts, starts_less, starts_as, at_end, row_passes, first_cell}
use Rattle.c_types.proofs.Expressions.{good}
use Rattle.c_types.specs.inner.Expressions.{Counted}

-- ---- what a program has, and what was made of it so far

pub record Whole : Type 0 where
  pub layout : Layout
  pub sites : List SiteInfo
  pub points : List PointInfo

abbrev pub frame : Whole → ℕ → Option IntType → Frame
frame w function result = record {
  layout = w.layout;
  sites = w.sites;
  points = w.points;
  function = function;
  result = result;
}

pub record Begins (w : Whole) (m : Made) : Type 0 where
  pub sites : Extends w.sites m.sites
  pub points : Starts w.points m.points
  pub cells : Starts (map shape w.layout.cells) (shapes m.objects)
  pub count : m.cells ≡ length (shapes m.objects)

-- no breach is among them
abbrev pub Free : Breaches → Type 0
Free breach.none = Unit {0}
Free (breach.just b) = ⊥
Free (breach.both x y) = Free x × Free y

-- ---- steps

pub record Step {X : Type 0} (w : Whole) (s : Names) (m : Made) (v : Went X) (Q : Type 0) : Type 0 where
  pub back : Begins w v.made → Begins w m
  pub names : Begins w v.made → EnvFits w.layout s.env → EnvFits w.layout v.names.env
  pub good : Begins w v.made → EnvFits w.layout s.env → Free v.breaches → Q

pub pure_step : {X : Type 0} (w : Whole) (s : Names) (m : Made) (x : X) (Q : Type 0) → Q → Step w s m (pure x s m) Q
pure_step w s m x Q q = record { back = λ b. b; names = λ b e. e; good = λ b e f. q }

pub then_step : {X Y : Type 0} (w : Whole) (s : Names) (m : Made) (a : Went X) (b : Went Y) (Q R : Type 0) → Step w s m a Q → Step w a.names a.made b R → Step w s m (after a b) (Q × R)
then_step w s m a b Q R p q = record {
  back = λ g. p.back (q.back g);
  names = λ g e. q.names g (p.names (q.back g) e);
  good = λ g e f. (p.good (q.back g) e f.0, q.good g (p.names (q.back g) e) f.1);
}

pub as_step : {X : Type 0} (w : Whole) (s : Names) (m : Made) (v : Went X) (Q R : Type 0) → (Q → R) → Step w s m v Q → Step w s m v R
as_step w s m v Q R f p = record { back = p.back; names = p.names; good = λ g e free. f (p.good g e free) }

pub alone_step : {X : Type 0} (w : Whole) (s : Names) (m : Made) (p : Walking X) (Q : Type 0) → Step w s m (p s m) Q → Step w s m (alone p s m) Q
alone_step w s m p Q a = record { back = a.back; names = λ b e. e; good = a.good }

-- ---- numbers that are added

pub record Adds (m v : Made) (ps ss : Numbers) : Type 0 where
  pub points : count (length m.points) ps ≡ Some (length v.points)
  pub sites : count (length m.sites) ss ≡ Some (length v.sites)

pub none_added : (m : Made) → Adds m m none none
none_added m = record { points = refl; sites = refl }

-- numbers after others
pub two : (x y : Numbers) (a b : ℕ) (o : Option ℕ) → count a x ≡ Some b → count b y ≡ o → count a (both x y) ≡ o
two x y a b o p q = rw p q

pub skip : (x : Numbers) (a b : ℕ) (o : Option ℕ) → count a none ≡ Some b → count b x ≡ o → count a x ≡ o
skip x a b o p q = let same : a ≡ b = ap (λ (n : Option ℕ). unwrap_or n a) p in subst (λ (n : ℕ). count n x ≡ o) (sym same) q

pub last : (x : Numbers) (a b c : ℕ) → count a x ≡ Some b → count b none ≡ Some c → count a x ≡ Some c
last x a b c p q = p ∙ q

-- ---- single steps

-- a point without clauses may stand where none are wanted
pub bare : (f : Frame) (stand : Stand) (line : Line) → clauses_are stand 0 ≡ true → bears f stand (record { owner = record { 0 = f.function }; line = line; clauses = [] }) ≡ true
bare f stand line ok = and_from _ _ (eq-eqb f.function f.function refl) (and_from _ _ ok refl)

pub new_point_step : (w : Whole) (s : Names) (m : Made) (owner : FnId) (line : Line) (result : Option IntType) (stand : Stand) → clauses_are stand 0 ≡ true → Step w s m (walk.new_point owner line s m) (is_own (frame w owner.0 result) stand (walk.new_point owner line s m).value ≡ true)
unfolding walk.new_point is_own
new_point_step w s m owner line result stand ok =
    let f = frame w owner.0 result in
    let info : PointInfo = record { owner = owner; line = line; clauses = [] } in
    record {
      back = λ g. record { sites = g.sites; points = starts_less w.points m.points (info ∷ []) g.points; cells = g.cells; count = g.count };
      names = λ g e. e;
      good = λ g e free. subst (λ (ps : List PointInfo). on_some (bears f stand) (slice_get ps (length m.points)) ≡ true) (sym g.points.is) (ap (on_some (bears f stand)) (at_end m.points info g.points.more) ∙ bare f stand line ok);
    }

pub new_point_adds : (s : Names) (m : Made) (owner : FnId) (line : Line) → Adds m (walk.new_point owner line s m).made (own_point (walk.new_point owner line s m).value) none
unfolding walk.new_point
new_point_adds s m owner line =
    let info : PointInfo = record { owner = owner; line = line; clauses = [] } in
    record {
      points = rw (eq-eqb (length m.points) (length m.points) refl) (ap (λ (n : ℕ). Some n) (sym (length-append m.points (info ∷ []))));
      sites = refl;
    }

pub breach_step : (w : Whole) (s : Names) (m : Made) (b : Breaches) → Step w s m (walk.breach b s m) (Free b)
breach_step w s m b = record { back = λ g. g; names = λ g e. e; good = λ g e free. free }

pub in_scope_step : (w : Whole) (s : Names) (m : Made) (o : InScope) → Step w s m (walk.in_scope o s m) (Unit {0})
unfolding walk.in_scope
in_scope_step w s m o = record { back = λ g. g; names = λ g e. e; good = λ g e free. tt }

pub in_scope_adds : (s : Names) (m : Made) (o : InScope) → Adds m (walk.in_scope o s m).made none none
unfolding walk.in_scope
in_scope_adds s m o = record { points = refl; sites = refl }

pub new_note_step : (w : Whole) (s : Names) (m : Made) (owner : Option FnId) (at : Spot) (before : List InScope) → Step w s m (walk.new_note owner at before s m) (Unit {0})
unfolding walk.new_note
new_note_step w s m owner at before = record {
  back = λ g. record { sites = g.sites; points = g.points; cells = g.cells; count = g.count };
  names = λ g e. e;
  good = λ g e free. tt;
}

pub new_note_adds : (s : Names) (m : Made) (owner : Option FnId) (at : Spot) (before : List InScope) → Adds m (walk.new_note owner at before s m).made none none
unfolding walk.new_note
new_note_adds s m owner at before = record { points = refl; sites = refl }

-- ---- names

put_fits : (l : Layout) (x y : List ℕ) (o : Option Entry) (env : Env) (b : Bool) → entry_fits l o ≡ true → entry_fits l (env y) ≡ true → entry_fits l (cond b o (env y)) ≡ true
put_fits l x y o env true here there = here
put_fits l x y o env false here there = there

-- a name stands for what fits
pub named : (l : Layout) (x : List ℕ) (o : Option Entry) (env : Env) → entry_fits l o ≡ true → EnvFits l env → EnvFits l (walk.put x o env)
named l x o env here fits = λ y. put_fits l x y o env (bytes_eq x y) here (fits y)

pub name_is_step : (w : Whole) (s : Names) (m : Made) (x : List ℕ) (entry : Entry) → (Begins w m → entry_fits w.layout (Some entry) ≡ true) → Step w s m (walk.name_is x entry s m) (Unit {0})
unfolding walk.name_is
name_is_step w s m x entry h = record {
  back = λ g. g;
  names = λ g e. named w.layout x (Some entry) s.env (h g) e;
  good = λ g e free. tt;
}

pub name_is_adds : (s : Names) (m : Made) (x : List ℕ) (entry : Entry) → Adds m (walk.name_is x entry s m).made none none
unfolding walk.name_is
name_is_adds s m x entry = record { points = refl; sites = refl }

-- ---- cells

count_before : (before : List Shape) (cells n : ℕ) (s : Shape) (all : List Shape) → all ≡ before ++ replicate n s → cells + n ≡ length all → cells ≡ length before
count_before before cells n s all is many =
    let e = ap length is in
    let a = length-append before (replicate n s) in
    let b = length-replicate n s in
    omega (arith, a, b, e, many)

grown : (w : Whole) (m : Made) (o : Allocated) → Begins w (record m { objects = m.objects ++ o ∷ []; cells = m.cells + o.length }) → (m.cells ≡ length (shapes m.objects)) × Starts (map shape w.layout.cells) (shapes m.objects ++ replicate o.length (shape_for o))
grown w m o g =
    let more = shapes_more m.objects o in
    (count_before (shapes m.objects) m.cells o.length (shape_for o) _ more g.count, starts_as (map shape w.layout.cells) _ _ more g.cells)

-- the object's cells are those after all before it
pub allocate_step : (w : Whole) (s : Names) (m : Made) (o : Allocated) → Step w s m (walk.allocate o s m) (Begins w (walk.allocate o s m).made)
unfolding walk.allocate
allocate_step w s m o = record {
  back = λ g. record {
    sites = g.sites;
    points = g.points;
    cells = starts_less (map shape w.layout.cells) (shapes m.objects) (replicate o.length (shape_for o)) (grown w m o g).1;
    count = (grown w m o g).0;
  };
  names = λ g e. e;
  good = λ g e free. g;
}

pub allocate_adds : (s : Names) (m : Made) (o : Allocated) → Adds m (walk.allocate o s m).made none none
unfolding walk.allocate
allocate_adds s m o = record { points = refl; sites = refl }

-- the object has its cells: those from this one on
pub record Placed (l : Layout) (o : Allocated) (first : ℕ) : Type 0 where
  pub passes : (p : CellInfo → Bool) (q : Shape → Bool) → ((c : CellInfo) → p c ≡ q (shape c)) → 0 < o.length → q (shape_for o) ≡ true → cells_are p l.cells first o.length ≡ true
  pub first_is : 0 < o.length → (c : CellInfo) × (slice_get l.cells first ≡ Some c) × (shape c ≡ shape_for o)

pub placed_at : (l : Layout) (o : Allocated) (before : List Shape) (first : ℕ) → first ≡ length before → Starts (map shape l.cells) (before ++ replicate o.length (shape_for o)) → Placed l o first
placed_at l o before first is starts = record {
  passes = λ p q same some passes. rw is (row_passes p q same l.cells before o.length (shape_for o) starts some passes);
  first_is = λ some.
      let f = first_cell l.cells before o.length (shape_for o) starts some in
      (f.0, ap (λ (k : ℕ). slice_get l.cells k) is ∙ f.1, f.2);
}

pub placed : (w : Whole) (s : Names) (m : Made) (o : Allocated) → Begins w (walk.allocate o s m).made → Placed w.layout o (walk.allocate o s m).value
unfolding walk.allocate
placed w s m o g = placed_at w.layout o (shapes m.objects) m.cells (grown w m o g).0 (grown w m o g).1

-- ---- expressions

typed_step : (w : Whole) (s : Names) (m : Made) (function : ℕ) (result : Option IntType) (point : PointId) (place : Place) (b : Breaches) (g : Gave Expr) → ((e : Expr) (new : List SiteInfo) → g ≡ gave e new → Counted point m.sites e new × (EnvFits w.layout s.env → is_formed w.layout place e ≡ true)) → Step w s m (walk.typed s m b g) (expr_fits (frame w function result) point place (walk.typed s m b g).value ≡ true)
unfolding expr_fits
typed_step w s m function result point place b (gave e new) h =
    let c = h e new refl in
    record {
      back = λ g. record { sites = c.0.grows w.sites g.sites; points = g.points; cells = g.cells; count = g.count };
      names = λ g fits. fits;
      good = λ g fits free. and_from _ _ (c.1 fits) (c.0.sited w.sites g.sites);
    }

typed_adds : (l : Layout) (s : Names) (m : Made) (point : PointId) (place : Place) (b : Breaches) (g : Gave Expr) → ((e : Expr) (new : List SiteInfo) → g ≡ gave e new → Counted point m.sites e new × (EnvFits l s.env → is_formed l place e ≡ true)) → Adds m (walk.typed s m b g).made none (sites (walk.typed s m b g).value)
typed_adds l s m point place b (gave e new) h = record { points = refl; sites = (h e new refl).0.numbered }

pub value_step : (w : Whole) (s : Names) (m : Made) (function : ℕ) (result : Option IntType) (point : PointId) (place : Place) (e : Ast) → Step w s m (walk.value_of point place e s m) (expr_fits (frame w function result) point place (walk.value_of point place e s m).value ≡ true)
unfolding walk.value_of
value_step w s m function result point place e =
    typed_step w s m function result point place ((meaning e).faults s.env place) ((meaning e).value s.env point place m.sites) (λ t new is. (good e).value w.layout s.env point place m.sites t new is)

pub value_adds : (l : Layout) (s : Names) (m : Made) (point : PointId) (place : Place) (e : Ast) → Adds m (walk.value_of point place e s m).made none (sites (walk.value_of point place e s m).value)
unfolding walk.value_of
value_adds l s m point place e =
    typed_adds l s m point place ((meaning e).faults s.env place) ((meaning e).value s.env point place m.sites) (λ t new is. (good e).value l s.env point place m.sites t new is)

pub aside_step : (w : Whole) (s : Names) (m : Made) (place : Place) (e : Ast) → Step w s m (walk.aside place e s m) (Unit {0})
unfolding walk.aside
aside_step w s m place e = record { back = λ g. g; names = λ g fits. fits; good = λ g fits free. tt }

pub aside_adds : (s : Names) (m : Made) (place : Place) (e : Ast) → Adds m (walk.aside place e s m).made none none
unfolding walk.aside
aside_adds s m place e = record { points = refl; sites = refl }

-- ---- statements that were made

-- they fit the function of the context, and their points and sites are those that were added
pub record StmtsGood (w : Whole) (ctx : Context) (s : Names) (m : Made) (v : Went (List Stmt)) : Type 0 where
  pub step : Step w s m v (stmts_fit (frame w ctx.owner.0 ctx.result) ctx.in_loop v.value ≡ true)
  pub adds : Adds m v.made (points_of_all v.value) (stmt_sites_of_all v.value)
