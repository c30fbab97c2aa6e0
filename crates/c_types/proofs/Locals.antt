-- Declarations of local objects: what they make fits.
use Rattle.std.proofs.Common.{◌≡◌, ◌∙◌, ◌<◌, ◌+◌, ◌&&◌, ◌==◌, ℕ, nat_lt, nat_le, Bool, true, false, if◌then◌else◌, List, [], ◌∷◌, ◌++◌, length, take, drop, Option, Some, None, ℤ, pos, negsuc, refl, ap, sym, subst, arith}
use Rattle.std.proofs.lemmas.Bool.{and_from, lt-ltb, ltb-true, le-leb, eq-eqb}
use Rattle.std.proofs.lemmas.List.{length-append, length-take}
use Rattle.std.proofs.lemmas.List.Folds.{list_all-append}
use Rattle.std.proofs.lemmas.Option.{slice_get_within}
use Rattle.std.specs.List.{list_all}
use Rattle.fc_base.specs.declared.ids.PointId.{PointId}
use Rattle.c_ast.specs.declared.expr.Expr.{Expr as Ast}
use Rattle.c_ast.specs.declared.expr.Spec.{Spec}
use Rattle.c_ast.specs.declared.stmt.Declr.{Declr}
use Rattle.c_ast.specs.declared.stmt.Init.{Init as AstInit}
use Rattle.c_ast.specs.declared.stmt.Init.TheVariants as AI
use Rattle.c_ast.specs.declared.stmt.Length.{Length}
use Rattle.c_ast.specs.declared.stmt.Length.TheVariants as L
use Rattle.c_ir.specs.Formed.{Layout, on_some, cells_are, cell_passes, is_read_as, same_bool}
use Rattle.c_ir.specs.Numbers.{Numbers, none, own_point, count, sites, points_of, points_of_all, sites_of_all, init_sites, stmt_sites, stmt_sites_of_all}
use Rattle.c_ir.specs.Types.{same_type}
use Rattle.c_ir.specs.declared.ty.IntType.{IntType}
use Rattle.c_ir.specs.declared.note.InScope.{InScope}
use Rattle.c_ir.specs.declared.tree.Expr.{Expr}
use Rattle.c_ir.specs.declared.tree.Init.{Init}
use Rattle.c_ir.specs.declared.tree.Init.TheVariants as I
use Rattle.c_ir.specs.declared.tree.Stmt.{Stmt, roll-Stmt}
use Rattle.c_ir.specs.declared.tree.Stmt.TheOpen.{Stmt-F}
use Rattle.c_rules.specs.Breaches.{Env}
use Rattle.c_rules.specs.Breaches as breach
use Rattle.c_rules.specs.Fits.{entry_fits}
use Rattle.c_rules.specs.Specifiers.{spec_type, is_constant}
use Rattle.c_rules.specs.Typing.{converted}
use Rattle.c_rules.specs.declared.breach.Fault.TheVariants as F
use Rattle.c_ir.specs.declared.place.Place.TheVariants as P
use Rattle.c_rules.proofs.Formed.{same_self}
use Rattle.c_typing.proofs.Numbering.{added, pushed}
use Rattle.c_typing.specs.ConstantValues.{constant_value}
use Rattle.c_typing.specs.Declarations as spec
use Rattle.c_typing.specs.Declarations.{declaration}
use Rattle.c_typing.specs.Meaning.{meaning, place_of}
use Rattle.c_typing.specs.Walking as walk
use Rattle.c_typing.specs.Walking.{Names, Made, Went, CountsOn}
use Rattle.c_typing.specs.declared.context.Context.{Context}
use Rattle.c_typing.specs.declared.walk.Allocated.{Allocated}
use Rattle.c_ir.specs.Bodies.{Frame, Plain, is_own, value_fits, init_fits, cell_count, is_local, is_declared, declared_fits, stmts_fit}
use Rattle.c_types.proofs.Expressions.{converted_sites}
use Rattle.c_types.proofs.Shapes.{Shape, shape_for}
use Rattle.c_types.proofs.Steps.{Whole, frame, Begins, Step, pure_step, then_step, as_step, Adds, none_added, skip, last, new_point_step, new_point_adds, breach_step, in_scope_step, in_scope_adds, name_is_step, name_is_adds, allocate_step, allocate_adds, Placed, placed, value_step, value_adds, aside_step, aside_adds, StmtsGood}
use Rattle.c_types.proofs.Values.{converted_fits, inner_value, one_fits, one_points, one_sites, fit_more}

-- ---- numbers of two parts of which one adds none

skip_none : (m a v : Made) (ps ss : Numbers) → Adds m a none none → Adds a v ps ss → Adds m v ps ss
skip_none m a v ps ss p q = record {
  points = skip ps _ _ _ p.points q.points;
  sites = skip ss _ _ _ p.sites q.sites;
}

none_last : (m a v : Made) (ps ss : Numbers) → Adds m a ps ss → Adds a v none none → Adds m v ps ss
none_last m a v ps ss p q = record {
  points = last ps _ _ _ p.points q.points;
  sites = last ss _ _ _ p.sites q.sites;
}

-- the sites of a value are those of what was converted
converted_adds : (m a : Made) (ty : IntType) (t : Expr) → Adds m a none (sites t) → Adds m a none (sites (converted ty t))
converted_adds m a ty t p = record {
  points = p.points;
  sites = ap (count (length m.sites)) (converted_sites ty t) ∙ p.sites;
}

-- ---- values of braces

abbrev AllFit : Frame → PointId → IntType → List Expr → Type 0
AllFit f point ty es = list_all (value_fits f point P.Inner ty) es ≡ true

one_more : (f : Frame) (point : PointId) (ty : IntType) (done : List Expr) (e : Expr) → AllFit f point ty done → value_fits f point P.Inner ty e ≡ true → AllFit f point ty (done ++ e ∷ [])
one_more f point ty done e all is =
    list_all-append (value_fits f point P.Inner ty) done (e ∷ []) ∙ and_from _ _ all (and_from _ _ is refl)

-- so many values after `done`
record ValuesGood (w : Whole) (f : Frame) (point : PointId) (ty : IntType) (n : ℕ) (done : List Expr) (s : Names) (m : Made) (v : Went (List Expr)) : Type 0 where
  step : Step w s m v (AllFit f point ty done → AllFit f point ty v.value)
  points : count (length m.points) none ≡ Some (length v.made.points)
  sites : CountsOn (sites_of_all done) (sites_of_all v.value) (length m.sites) (length v.made.sites)
  long : length v.value ≡ length done + n

values_good : (w : Whole) (function : ℕ) (result : Option IntType) (point : PointId) (ty : IntType) (es : List Ast) (done : List Expr) (s : Names) (m : Made) → ValuesGood w (frame w function result) point ty (length es) done s m (spec.values_from point ty es done s m)
values_good w function result point ty [] done s m = record {
  step = pure_step w s m done _ (λ all. all);
  points = refl;
  sites = record { goes = λ from has. has };
  long = omega arith;
}
values_good w function result point ty (e ∷ es) done s m =
    let f = frame w function result in
    let a = walk.value_of point P.Inner e s m in
    let one = converted ty a.value in
    let more = done ++ one ∷ [] in
    let b = spec.values_from point ty es more a.names a.made in
    let p = value_adds w.layout s m point P.Inner e in
    let h = values_good w function result point ty es more a.names a.made in
    record {
      step = as_step w s m _ _ _ (λ q all. q.1 (one_more f point ty done one all (converted_fits f point P.Inner ty a.value refl q.0))) (then_step w s m a b _ _ (value_step w s m function result point P.Inner e) h.step);
      points = p.points ∙ h.points;
      sites = record {
        goes = λ from has.
            h.sites.goes from (pushed sites done more one from (length m.sites) (length a.made.sites) refl has (converted_adds m a.made ty a.value p).sites);
      };
      long = let i = h.long in omega (arith, i, length-append done (one ∷ []));
    }

-- ---- values that are dropped

asides_step : (w : Whole) (es : List Ast) (s : Names) (m : Made) → Step w s m (spec.asides es s m) (Unit {0})
asides_step w [] s m = pure_step w s m tt _ tt
asides_step w (e ∷ es) s m =
    let a = walk.aside P.Inner e s m in
    as_step w s m _ _ _ (λ q. tt) (then_step w s m a (spec.asides es a.names a.made) _ _ (aside_step w s m P.Inner e) (asides_step w es a.names a.made))

asides_adds : (es : List Ast) (s : Names) (m : Made) → Adds m (spec.asides es s m).made none none
asides_adds [] s m = none_added m
asides_adds (e ∷ es) s m =
    let a = walk.aside P.Inner e s m in
    skip_none m a.made _ none none (aside_adds s m P.Inner e) (asides_adds es a.names a.made)

excess_step : (w : Whole) (es : List Ast) (s : Names) (m : Made) → Step w s m (spec.excess es s m) (Unit {0})
unfolding spec.excess
excess_step w es s m =
    as_step w s m _ _ _ (λ q. tt) (then_step w s m (walk.breach (spec.excess_faults es) s m) (spec.asides es s m) _ _ (breach_step w s m (spec.excess_faults es)) (asides_step w es s m))

excess_adds : (es : List Ast) (s : Names) (m : Made) → Adds m (spec.excess es s m).made none none
unfolding spec.excess
excess_adds es s m = asides_adds es s m

-- ---- initialisers

-- the initialiser of an object of this type and size
record InitGood (w : Whole) (f : Frame) (point : PointId) (ty : IntType) (size : Option ℕ) (s : Names) (m : Made) (v : Went Init) : Type 0 where
  step : Step w s m v (init_fits f point ty size v.value ≡ true)
  adds : Adds m v.made none (init_sites v.value)

nothing_good : (w : Whole) (f : Frame) (point : PointId) (ty : IntType) (size : Option ℕ) (s : Names) (m : Made) → InitGood w f point ty size s m (walk.pure I.Nothing s m)
nothing_good w f point ty size s m = record { step = pure_step w s m I.Nothing _ refl; adds = none_added m }

braced_scalar_good : (w : Whole) (function : ℕ) (result : Option IntType) (point : PointId) (ty : IntType) (es : List Ast) (s : Names) (m : Made) → InitGood w (frame w function result) point ty None s m (spec.braced_scalar point ty es s m)
braced_scalar_good w function result point ty [] s m = nothing_good w (frame w function result) point ty None s m
braced_scalar_good w function result point ty (e ∷ es) s m =
    let f = frame w function result in
    let a = walk.value_of point P.Inner e s m in
    let b = spec.excess es a.names a.made in
    let c = walk.pure (I.One (converted ty a.value)) b.names b.made in
    record {
      step = as_step w s m _ _ _ (λ q. converted_fits f point P.Value ty a.value refl (inner_value f point a.value q.0))
          (then_step w s m a (walk.after b c) _ _ (value_step w s m function result point P.Inner e)
          (then_step w a.names a.made b c _ (Unit {0}) (excess_step w es a.names a.made) (pure_step w b.names b.made (I.One (converted ty a.value)) (Unit {0}) tt)));
      adds = none_last m a.made b.made none (sites (converted ty a.value)) (converted_adds m a.made ty a.value (value_adds w.layout s m point P.Inner e)) (excess_adds es a.names a.made);
    }

scalar_good : (w : Whole) (function : ℕ) (result : Option IntType) (point : PointId) (ty : IntType) (value : AstInit) (s : Names) (m : Made) → InitGood w (frame w function result) point ty None s m (spec.scalar_init point ty value s m)
scalar_good w function result point ty AI.Nothing s m = nothing_good w (frame w function result) point ty None s m
scalar_good w function result point ty (AI.One e) s m =
    let f = frame w function result in
    let a = walk.value_of point P.Value e s m in
    let t = I.One (converted ty a.value) in
    record {
      step = as_step w s m _ _ _ (λ q. converted_fits f point P.Value ty a.value refl q.0)
          (then_step w s m a (walk.pure t a.names a.made) _ (Unit {0}) (value_step w s m function result point P.Value e) (pure_step w a.names a.made t (Unit {0}) tt));
      adds = converted_adds m a.made ty a.value (value_adds w.layout s m point P.Value e);
    }
scalar_good w function result point ty (AI.Many es) s m = braced_scalar_good w function result point ty es s m

taken_long : (n : ℕ) (es : List Ast) (k : ℕ) → k ≡ length (take n es) → nat_le k n ≡ true
taken_long n es k is = le-leb k n (omega (arith, is, length-take n es))

braced_array_good : (w : Whole) (function : ℕ) (result : Option IntType) (point : PointId) (ty : IntType) (n : ℕ) (es : List Ast) (s : Names) (m : Made) → InitGood w (frame w function result) point ty (Some n) s m (spec.braced_array point ty n es s m)
braced_array_good w function result point ty n es s m =
    let a = spec.values_from point ty (take n es) [] s m in
    let b = spec.excess (drop n es) a.names a.made in
    let c = walk.pure (I.Many a.value) b.names b.made in
    let h = values_good w function result point ty (take n es) [] s m in
    let long = h.long in
    let taken : length a.value ≡ length (take n es) = omega (arith, long) in
    record {
      step = as_step w s m _ _ _ (λ q. and_from _ _ (taken_long n es (length a.value) taken) (q.0 refl))
          (then_step w s m a (walk.after b c) _ _ h.step
          (then_step w a.names a.made b c _ (Unit {0}) (excess_step w (drop n es) a.names a.made) (pure_step w b.names b.made (I.Many a.value) (Unit {0}) tt)));
      adds = none_last m a.made b.made none (sites_of_all a.value) (record { points = h.points; sites = h.sites.goes (length m.sites) refl }) (excess_adds (drop n es) a.names a.made);
    }

array_good : (w : Whole) (function : ℕ) (result : Option IntType) (point : PointId) (ty : IntType) (n : ℕ) (value : AstInit) (s : Names) (m : Made) → InitGood w (frame w function result) point ty (Some n) s m (spec.array_init point ty n value s m)
array_good w function result point ty n AI.Nothing s m = nothing_good w (frame w function result) point ty (Some n) s m
array_good w function result point ty n (AI.One e) s m =
    let f = frame w function result in
    let bad = breach.one (place_of (meaning e)) F.BadType in
    let b = walk.aside P.Inner e s m in
    let h = nothing_good w f point ty (Some n) b.names b.made in
    let c = walk.pure I.Nothing b.names b.made in
    record {
      step = as_step w s m _ _ _ (λ q. refl)
          (then_step w s m (walk.breach bad s m) (walk.after b c) _ _ (breach_step w s m bad)
          (then_step w s m b c _ _ (aside_step w s m P.Inner e) h.step));
      adds = skip_none m b.made b.made none none (aside_adds s m P.Inner e) h.adds;
    }
array_good w function result point ty n (AI.Many es) s m = braced_array_good w function result point ty n es s m

init_good : (w : Whole) (function : ℕ) (result : Option IntType) (point : PointId) (ty : IntType) (size : Option ℕ) (value : AstInit) (s : Names) (m : Made) → InitGood w (frame w function result) point ty size s m (spec.initial point ty size value s m)
unfolding spec.initial
init_good w function result point ty None value s m = scalar_good w function result point ty value s m
init_good w function result point ty (Some n) value s m = array_good w function result point ty n value s m

-- ---- cells of an object

-- the tests of cells, of what the shape says
abbrev read_shape : IntType → Bool → Shape → Bool
read_shape ty checked s = same_type s.ty ty && same_bool s.checked checked

abbrev local_shape : ℕ → IntType → Bool → Shape → Bool
local_shape function ty checked s = read_shape ty checked s && on_some (λ g. g.0 == function) s.owner

same_check : (b : Bool) → same_bool b b ≡ true
same_check true = refl
same_check false = refl

read_self : (ty : IntType) (b : Bool) → (same_type ty ty && same_bool b b) ≡ true
read_self ty b = and_from _ _ (same_self ty) (same_check b)

same_count : (size : Option ℕ) → spec.cell_count size ≡ cell_count size
same_count None = refl
same_count (Some n) = refl

-- the object of a declarator
abbrev pub object_of : Context → IntType → Bool → Bool → Option ℕ → Allocated
object_of ctx ty constant checked size = record {
  ty = ty;
  owner = Some ctx.owner;
  constant = constant;
  checked = checked;
  length = spec.cell_count size;
}

-- its name fits, while its initialiser is read and after it
local_fits : (l : Layout) (ctx : Context) (ty : IntType) (constant checked is_open : Bool) (size : Option ℕ) (first : ℕ) → 0 < spec.cell_count size → Placed l (object_of ctx ty constant checked size) first → entry_fits l (Some (spec.local ty first size constant checked is_open)) ≡ true
unfolding entry_fits cell_passes
local_fits l ctx ty constant checked is_open None first some h =
    let f = h.first_is some in
    and_from _ _ (lt-ltb first (length l.cells) (slice_get_within l.cells first f.0 f.1))
    (ap (on_some (is_read_as ty checked)) f.1 ∙ ap (read_shape ty checked) f.2 ∙ read_self ty checked)
local_fits l ctx ty constant checked is_open (Some n) first some h =
    h.passes (is_read_as ty checked) (read_shape ty checked) (λ c. refl) some (read_self ty checked)

-- its declaration fits
object_declared : (f : Frame) (ctx : Context) (ty : IntType) (constant checked : Bool) (size : Option ℕ) (first : ℕ) (point : PointId) (value : Init) → f.function ≡ ctx.owner.0 → 0 < spec.cell_count size → Placed f.layout (object_of ctx ty constant checked size) first → init_fits f point ty size value ≡ true → declared_fits f point first size value ≡ true
unfolding declared_fits
object_declared f ctx ty constant checked size first point value own some h is =
    let c = (h.first_is some).0 in
    let same = (h.first_is some).2 in
    let o = shape_for (object_of ctx ty constant checked size) in
    let by_shape = ap (λ (s : Shape). local_shape f.function s.ty s.checked o) same in
    let passes = by_shape ∙ and_from _ _ (read_self ty checked) (eq-eqb _ _ (sym own)) in
    let cells = h.passes (is_local f.function c.ty c.checked) (local_shape f.function c.ty c.checked) (λ d. refl) some passes in
    ap (on_some (is_declared f point first size value)) (h.first_is some).1
    ∙ and_from _ _
    (subst (λ (n : ℕ). cells_are (is_local f.function c.ty c.checked) f.layout.cells first n ≡ true) (same_count size) cells)
    (ap (λ (s : Shape). init_fits f point s.ty size value) same ∙ is)

-- ---- lengths

some_length : (n : ℕ) (low high : Bool) → nat_lt 0 n ≡ low → 0 < (if low && high then n else 1)
some_length n true true is = ltb-true 0 n is
some_length n true false is = omega arith
some_length n false high is = omega arith

some_constant : (o : Option ℤ) → 0 < spec.length_by o
some_constant None = omega arith
some_constant (Some (pos n)) = some_length n (nat_lt 0 n) (nat_lt n 4097) refl
some_constant (Some (negsuc n)) = omega arith

pub some_cells : (env : Env) (n : Length) (value : AstInit) → 0 < spec.cell_count (spec.length_of env n value)
some_cells env L.Scalar value = omega arith
some_cells env L.Open value =
    let n = spec.value_count value in some_length n (nat_lt 0 n) (nat_lt n 4097) refl
some_cells env (L.Of e) value = some_constant (constant_value env e)

-- ---- declarators

-- a declaration at a point that is there already
record DeclaredGood (w : Whole) (ctx : Context) (point : PointId) (s : Names) (m : Made) (v : Went Stmt) : Type 0 where
  step : Step w s m v (is_own (frame w ctx.owner.0 ctx.result) Plain point ≡ true → stmts_fit (frame w ctx.owner.0 ctx.result) ctx.in_loop (v.value ∷ []) ≡ true)
  adds : Adds m v.made none (stmt_sites_of_all (v.value ∷ []))
  points : (a b : ℕ) → count a (own_point point) ≡ Some b → count a (points_of_all (v.value ∷ [])) ≡ Some b

declared_good : (w : Whole) (ctx : Context) (ty : IntType) (constant : Bool) (d : Declr) (size : Option ℕ) (point : PointId) (s : Names) (m : Made) → 0 < spec.cell_count size → DeclaredGood w ctx point s m (spec.declared_as ctx ty constant d size point s m)
declared_good w ctx ty constant d size point s m some =
    let f = frame w ctx.owner.0 ctx.result in
    let x = d.name.name in
    let checked = spec.is_nothing d.value in
    let o = object_of ctx ty constant checked size in
    let a = walk.allocate o s m in
    let first = a.value in
    let named : InScope = record { name = x; first = first; length = size } in
    let opened = spec.local ty first size constant checked true in
    let known = spec.local ty first size constant checked false in
    let b = walk.in_scope named a.names a.made in
    let c = walk.name_is x opened b.names b.made in
    let i = spec.initial point ty size d.value c.names c.made in
    let e = walk.name_is x known i.names i.made in
    let z = Stmt-F.Declare point first size i.value in
    let g = walk.pure (roll-Stmt z) e.names e.made in
    let at_first : Begins w a.made → Placed w.layout o first = placed w s m o in
    let fits = λ (is_open : Bool) (begins : Begins w a.made). local_fits w.layout ctx ty constant checked is_open size first some (at_first begins) in
    let h = init_good w ctx.owner.0 ctx.result point ty size d.value c.names c.made in
    let sa = allocate_step w s m o in
    let sb = in_scope_step w a.names a.made named in
    let sc = name_is_step w b.names b.made x opened (λ begins. fits true (sb.back begins)) in
    let se = name_is_step w i.names i.made x known (λ begins. fits false (sb.back (sc.back (h.step.back begins)))) in
    let new = init_sites i.value in
    let ac = none_last c.made i.made e.made none new h.adds (name_is_adds i.names i.made x known) in
    let ab = skip_none b.made c.made e.made none new (name_is_adds b.names b.made x opened) ac in
    let aa = skip_none m a.made e.made none new (allocate_adds s m o) (skip_none a.made b.made e.made none new (in_scope_adds a.names a.made named) ab) in
    record {
      step = as_step w s m _ _ _ (λ q own.
          one_fits f ctx.in_loop z (and_from _ _ own (object_declared f ctx ty constant checked size first point i.value refl some (at_first q.0) q.1.1.1.0)))
          (then_step w s m a (walk.after b (walk.after c (walk.after i (walk.after e g)))) _ _ sa
          (then_step w a.names a.made b (walk.after c (walk.after i (walk.after e g))) _ _ sb
          (then_step w b.names b.made c (walk.after i (walk.after e g)) _ _ sc
          (then_step w c.names c.made i (walk.after e g) _ _ h.step
          (then_step w i.names i.made e g _ (Unit {0}) se (pure_step w e.names e.made (roll-Stmt z) (Unit {0}) tt))))));
      adds = record { points = aa.points; sites = one_sites z _ _ aa.sites };
      points = λ from to is. one_points z from to is;
    }

-- a declarator, of which one statement is made
record DeclaratorGood (w : Whole) (ctx : Context) (s : Names) (m : Made) (v : Went Stmt) : Type 0 where
  step : Step w s m v (stmts_fit (frame w ctx.owner.0 ctx.result) ctx.in_loop (v.value ∷ []) ≡ true)
  adds : Adds m v.made (points_of_all (v.value ∷ [])) (stmt_sites_of_all (v.value ∷ []))

declarator_good : (w : Whole) (ctx : Context) (ty : IntType) (constant : Bool) (d : Declr) (s : Names) (m : Made) → DeclaratorGood w ctx s m (spec.declarator ctx ty constant d s m)
unfolding spec.declarator
declarator_good w ctx ty constant d s m =
    let size = spec.length_of s.env d.length d.value in
    let bad = breach.both (spec.length_faults d.name.at.span.from s.env d.length d.value) (spec.twice_faults ctx d.name.at.span.from d.name.name s.env) in
    let a = walk.new_point ctx.owner d.at.line s m in
    let b = walk.breach bad a.names a.made in
    let c = spec.declared_as ctx ty constant d size a.value b.names b.made in
    let h = declared_good w ctx ty constant d size a.value b.names b.made (some_cells s.env d.length d.value) in
    let p = new_point_adds s m ctx.owner d.at.line in
    record {
      step = as_step w s m _ _ _ (λ q. q.1.1 q.0)
          (then_step w s m a (walk.after b c) _ _ (new_point_step w s m ctx.owner d.at.line ctx.result Plain refl)
          (then_step w a.names a.made b c _ _ (breach_step w a.names a.made bad) h.step));
      adds = record {
        points = last (points_of_all (c.value ∷ [])) _ _ _ (h.points _ _ p.points) h.adds.points;
        sites = skip (stmt_sites_of_all (c.value ∷ [])) _ _ _ p.sites h.adds.sites;
      };
    }

-- the statements of declarators after `done`
record MoreGood (w : Whole) (ctx : Context) (done : List Stmt) (s : Names) (m : Made) (v : Went (List Stmt)) : Type 0 where
  step : Step w s m v (stmts_fit (frame w ctx.owner.0 ctx.result) ctx.in_loop done ≡ true → stmts_fit (frame w ctx.owner.0 ctx.result) ctx.in_loop v.value ≡ true)
  points : CountsOn (points_of_all done) (points_of_all v.value) (length m.points) (length v.made.points)
  sites : CountsOn (stmt_sites_of_all done) (stmt_sites_of_all v.value) (length m.sites) (length v.made.sites)

more_good : (w : Whole) (ctx : Context) (ty : IntType) (constant : Bool) (ds : List Declr) (done : List Stmt) (s : Names) (m : Made) → MoreGood w ctx done s m (spec.declarators_from ctx ty constant ds done s m)
more_good w ctx ty constant [] done s m = record {
  step = pure_step w s m done _ (λ fit. fit);
  points = record { goes = λ from has. has };
  sites = record { goes = λ from has. has };
}
more_good w ctx ty constant (d ∷ ds) done s m =
    let f = frame w ctx.owner.0 ctx.result in
    let a = spec.declarator ctx ty constant d s m in
    let more = done ++ a.value ∷ [] in
    let b = spec.declarators_from ctx ty constant ds more a.names a.made in
    let g = declarator_good w ctx ty constant d s m in
    let h = more_good w ctx ty constant ds more a.names a.made in
    record {
      step = as_step w s m _ _ _ (λ q fit. q.1 (fit_more f ctx.in_loop done (a.value ∷ []) fit q.0)) (then_step w s m a b _ _ g.step h.step);
      points = record {
        goes = λ from has. h.points.goes from (added points_of done (a.value ∷ []) more from (length m.points) (length a.made.points) refl has g.adds.points);
      };
      sites = record {
        goes = λ from has. h.sites.goes from (added stmt_sites done (a.value ∷ []) more from (length m.sites) (length a.made.sites) refl has g.adds.sites);
      };
    }

none_fit : (f : Frame) (in_loop : Bool) → stmts_fit f in_loop [] ≡ true
unfolding stmts_fit
none_fit f in_loop = refl

pub declaration_good : (w : Whole) (ctx : Context) (spec : Spec) (ds : List Declr) (s : Names) (m : Made) → StmtsGood w ctx s m (declaration ctx spec ds s m)
unfolding declaration
declaration_good w ctx specs ds s m =
    let ty = spec.object_type (spec_type specs.words) in
    let constant = is_constant specs.words in
    let bad = spec.object_faults specs in
    let b = spec.declarators_from ctx ty constant ds [] s m in
    let h = more_good w ctx ty constant ds [] s m in
    record {
      step = as_step w s m _ _ _ (λ q. q.1 (none_fit (frame w ctx.owner.0 ctx.result) ctx.in_loop)) (then_step w s m (walk.breach bad s m) b _ _ (breach_step w s m bad) h.step);
      adds = record { points = h.points.goes (length m.points) refl; sites = h.sites.goes (length m.sites) refl };
    }
