-- Definitions of functions: each body fits its function, and its points and sites are those that it adds.
use Rattle.std.proofs.Common.{◌≡◌, ◌∙◌, inl, inr, ◌<◌, ◌≤◌, ◌+◌, ℕ, suc, nat_lt, Bool, true, false, List, [], ◌∷◌, length, map, slice_get, slice_set, Option, Some, None, is_some, refl, ap, sym, subst, arith, add-one}
use Rattle.std.proofs.lemmas.Bool.{true≢false, ltb-true, ltb-false}
use Rattle.std.proofs.lemmas.List.{length-append, length-set}
use Rattle.std.specs.Option.{option_map}
use Rattle.fc_base.specs.declared.ids.FnId.{FnId}
use Rattle.fc_base.specs.declared.ids.Line.{Line}
use Rattle.fc_base.specs.declared.syntax.Spot.{Spot}
use Rattle.c_ast.specs.declared.expr.Ident.{Ident}
use Rattle.c_ast.specs.declared.stmt.Stmt.{Stmt as Ast}
use Rattle.c_ast.specs.declared.unit.Formal.{Formal}
use Rattle.c_ast.specs.declared.unit.Function.{Function}
use Rattle.c_ir.specs.Formed.{Layout}
use Rattle.c_ir.specs.Numbers.{none, both, own_point, count, points_of_all, stmt_sites_of_all}
use Rattle.c_ir.specs.declared.ty.IntType.{IntType}
use Rattle.c_rules.specs.Breaches.{Env}
use Rattle.c_rules.specs.Breaches as breach
use Rattle.c_rules.specs.Fits.{entry_fits}
use Rattle.c_rules.specs.Specifiers.{spec_type, is_constant}
use Rattle.c_rules.specs.declared.scope.Entry.{Entry}
use Rattle.c_rules.specs.declared.scope.Entry.TheVariants as E
use Rattle.c_rules.specs.declared.scope.Signature.{Signature}
use Rattle.c_typing.specs.Declarations.{object_type, twice_faults}
use Rattle.c_typing.specs.FileScope as file
use Rattle.c_typing.specs.FileScope.{Declared, Filed}
use Rattle.c_typing.specs.Functions as fn
use Rattle.c_typing.specs.Statements.{stmts_from, meant_of}
use Rattle.c_typing.specs.Texts as text
use Rattle.c_typing.specs.Walking as walk
use Rattle.c_typing.specs.Walking.{Names, Made}
use Rattle.c_typing.specs.declared.context.Context.{Context}
use Rattle.c_typing.specs.declared.file.Definition.{Definition}
use Rattle.c_typing.specs.declared.file.Known.{Known}
use Rattle.c_typing.specs.declared.file.Start.{Start}
use Rattle.c_ir.specs.Bodies.{AtEntry, AtExit, is_own, stmts_fit, points_of_body}
use Rattle.c_ir.specs.Keeps.{ty_at}
use Rattle.c_types.proofs.Files.{All, cells_of, IsCell, CellsAre, read_cell, result_type, has_function, Stands, Sits, PointOf, SiteOf, Stay, EntryStands, Sound, SoundAt, point_stays, site_stays}
use Rattle.c_types.proofs.Filings.{Files, then_files, as_files, breach_files, sound_walked}
use Rattle.c_types.proofs.Functions.{Declares, declared_files}
use Rattle.c_types.proofs.Lookups.{some_is, no_element, get_set, get_put, get_kept}
use Rattle.c_types.proofs.Statements.{stmts_good}
use Rattle.c_types.proofs.Steps.{Whole, frame, Begins, Step, pure_step, then_step, as_step, Adds, none_added, two, skip, last, breach_step, in_scope_step, name_is_step, new_note_step, new_note_adds, new_point_step, new_point_adds}

-- ---- formals in scope

formal_made : (ctx : Context) (cell : ℕ) (f : Formal) (x : Option Ident) (s : Names) (m : Made) → (fn.formal_by ctx cell f x s m).made ≡ m
unfolding walk.in_scope walk.name_is
formal_made ctx cell f None s m = refl
formal_made ctx cell f (Some x) s m = refl

formals_made : (ctx : Context) (cell : ℕ) (fs : List Formal) (s : Names) (m : Made) → (fn.formals_from ctx cell fs s m).made ≡ m
formals_made ctx cell [] s m = refl
formals_made ctx cell (f ∷ fs) s m =
    let a = fn.formal_by ctx cell f f.name s m in
    formals_made ctx (cell + 1) fs a.names a.made ∙ formal_made ctx cell f f.name s m

formal_entry : (l : Layout) (owner : FnId) (ty : IntType) (cell : ℕ) (constant : Bool) → IsCell l.cells owner cell ty → entry_fits l (Some (fn.formal_object ty cell constant)) ≡ true
unfolding entry_fits
formal_entry l owner ty cell constant h = read_cell l.cells owner cell ty h

formal_step : (w : Whole) (ctx : Context) (owner : FnId) (cell : ℕ) (f : Formal) (x : Option Ident) (s : Names) (m : Made) → IsCell w.layout.cells owner cell (object_type (spec_type f.spec.words)) → Step w s m (fn.formal_by ctx cell f x s m) (Unit {0})
formal_step w ctx owner cell f None s m h = pure_step w s m tt _ tt
formal_step w ctx owner cell f (Some x) s m h =
    let ty = object_type (spec_type f.spec.words) in
    let bad = twice_faults ctx x.at.span.from x.name s.env in
    let b = walk.in_scope (record { name = x.name; first = cell; length = None }) s m in
    let entry = fn.formal_object ty cell (is_constant f.spec.words) in
    let c = walk.name_is x.name entry b.names b.made in
    as_step w s m _ _ _ (λ q. tt)
    (then_step w s m (walk.breach bad s m) (walk.after b c) _ _ (breach_step w s m bad)
    (then_step w s m b c _ _ (in_scope_step w s m _) (name_is_step w b.names b.made x.name entry (λ begins. formal_entry w.layout owner ty cell (is_constant f.spec.words) h))))

formals_step : (w : Whole) (ctx : Context) (owner : FnId) (cell : ℕ) (fs : List Formal) (s : Names) (m : Made) → CellsAre w.layout.cells owner cell (fn.formal_types fs) → Step w s m (fn.formals_from ctx cell fs s m) (Unit {0})
formals_step w ctx owner cell [] s m h = pure_step w s m tt _ tt
formals_step w ctx owner cell (f ∷ fs) s m h =
    let a = fn.formal_by ctx cell f f.name s m in
    as_step w s m _ _ _ (λ q. tt)
    (then_step w s m a (fn.formals_from ctx (cell + 1) fs a.names a.made) _ _ (formal_step w ctx owner cell f f.name s m h.0) (formals_step w ctx owner (cell + 1) fs a.names a.made h.1))

-- ---- notes

pub notes_step : (w : Whole) (owner : Option FnId) (notes : List Spot) (s : Names) (m : Made) → Step w s m (fn.notes_of owner notes s m) (Unit {0})
notes_step w owner [] s m = pure_step w s m tt _ tt
notes_step w owner (at ∷ more) s m =
    let a = walk.new_note owner at s.declared s m in
    as_step w s m _ _ _ (λ q. tt)
    (then_step w s m a (fn.notes_of owner more a.names a.made) _ _ (new_note_step w s m owner at s.declared) (notes_step w owner more a.names a.made))

pub notes_adds : (owner : Option FnId) (notes : List Spot) (s : Names) (m : Made) → Adds m (fn.notes_of owner notes s m).made none none
notes_adds owner [] s m = none_added m
notes_adds owner (at ∷ more) s m =
    let a = walk.new_note owner at s.declared s m in
    let p = new_note_adds s m owner at s.declared in
    let q = notes_adds owner more a.names a.made in
    record { points = skip none _ _ _ p.points q.points; sites = skip none _ _ _ p.sites q.sites }

pub notes_names : (owner : Option FnId) (notes : List Spot) (s : Names) (m : Made) → (fn.notes_of owner notes s m).names.env ≡ s.env
unfolding walk.new_note
notes_names owner [] s m = refl
notes_names owner (at ∷ more) s m =
    let a = walk.new_note owner at s.declared s m in notes_names owner more a.names a.made

-- ---- bodies

-- what is known of a body of this function with this result
record BodyFits (w : Whole) (owner : ℕ) (result : Option IntType) (b : Definition) : Type 0 where
  entry : is_own (frame w owner None) AtEntry b.entry ≡ true
  typed : stmts_fit (frame w owner result) false b.body ≡ true
  exit : is_own (frame w owner None) AtExit b.exit ≡ true

-- its points and sites are those that it adds
record BodyAdds (m v : Made) (b : Definition) : Type 0 where
  entry : b.entry.0 ≡ length m.points
  exit : length v.points ≡ suc b.exit.0
  points : count b.entry.0 (points_of_body b.entry b.body b.exit) ≡ Some (suc b.exit.0)
  sites : count (length m.sites) (stmt_sites_of_all b.body) ≡ Some (length v.sites)

point_at : (owner : FnId) (line : Line) (s : Names) (m : Made) → (walk.new_point owner line s m).value.0 ≡ length m.points
unfolding walk.new_point
point_at owner line s m = refl

point_after : (owner : FnId) (line : Line) (s : Names) (m : Made) → length (walk.new_point owner line s m).made.points ≡ suc (walk.new_point owner line s m).value.0
unfolding walk.new_point
point_after owner line s m = length-append m.points _ ∙ add-one (length m.points)

body_step : (w : Whole) (ctx : Context) (line close : Line) (ss : List Ast) (s : Names) (m : Made) → ctx.in_loop ≡ false → Step w s m (fn.body_of ctx line close ss s m) (BodyFits w ctx.owner.0 ctx.result (fn.body_of ctx line close ss s m).value)
body_step w ctx line close ss s m out =
    let a = walk.new_point ctx.owner line s m in
    let b = stmts_from ctx None (map meant_of ss) [] a.names a.made in
    let c = walk.new_point ctx.owner close b.names b.made in
    let e : Definition = record { entry = a.value; body = b.value; exit = c.value } in
    as_step w s m _ _ _ (λ q. record {
      entry = q.0;
      typed = subst (λ (in_loop : Bool). stmts_fit (frame w ctx.owner.0 ctx.result) in_loop b.value ≡ true) out q.1.0;
      exit = q.1.1.0;
    })
    (then_step w s m a (walk.after b (walk.after c (walk.pure e c.names c.made))) _ _ (new_point_step w s m ctx.owner line None AtEntry refl)
    (then_step w a.names a.made b (walk.after c (walk.pure e c.names c.made)) _ _ (stmts_good w ctx ss a.names a.made).step
    (then_step w b.names b.made c (walk.pure e c.names c.made) _ (Unit {0}) (new_point_step w b.names b.made ctx.owner close None AtExit refl) (pure_step w c.names c.made e (Unit {0}) tt))))

body_adds : (w : Whole) (ctx : Context) (line close : Line) (ss : List Ast) (s : Names) (m : Made) → BodyAdds m (fn.body_of ctx line close ss s m).made (fn.body_of ctx line close ss s m).value
body_adds w ctx line close ss s m =
    let a = walk.new_point ctx.owner line s m in
    let b = stmts_from ctx None (map meant_of ss) [] a.names a.made in
    let c = walk.new_point ctx.owner close b.names b.made in
    let p = new_point_adds s m ctx.owner line in
    let q = (stmts_good w ctx ss a.names a.made).adds in
    let r = new_point_adds b.names b.made ctx.owner close in
    let at = point_at ctx.owner line s m in
    let end = point_after ctx.owner close b.names b.made in
    record {
      entry = at;
      exit = end;
      points =
          ap (λ (n : ℕ). count n (points_of_body a.value b.value c.value)) at
          ∙ two (both (own_point a.value) (points_of_all b.value)) (own_point c.value) _ _ _
          (two (own_point a.value) (points_of_all b.value) _ _ _ p.points q.points) r.points
          ∙ ap (λ (n : ℕ). Some n) end;
      sites = last (stmt_sites_of_all b.value) _ _ _ (skip (stmt_sites_of_all b.value) _ _ _ p.sites q.sites) r.sites;
    }

-- ---- a definition more

-- what was defined stays, since this function wasn't
stay_defined : (ds : List (Option Definition)) (n : ℕ) (b : Definition) → slice_get ds n ≡ Some None → Stay ds (slice_set ds n (Some b))
stay_defined ds n b undefined i c is = elim (get_kept ds n (Some b) i (Some c) is) [
  | inl same ↦ no_element c (some_is None (Some c) (sym undefined ∙ ap (slice_get ds) (sym same) ∙ is))
  | inr kept ↦ kept
]

is_defined : Option Entry → Bool
is_defined None = true
is_defined (Some (E.Object o)) = true
is_defined (Some (E.Function g)) = g.defined

-- the name that stands for it is that of a defined function
record DefinedName (env : Env) (fs : List Known) (n : ℕ) : Type 0 where
  known : Known
  is_known : slice_get fs n ≡ Some known
  entry : Signature
  is_entry : env known.name ≡ Some (E.Function entry)
  is_defined : entry.defined ≡ true

not_open : (w : All) (env : Env) (fs : List Known) (n : ℕ) (y : List ℕ) (g : Signature) → DefinedName env fs n → env y ≡ Some (E.Function g) → Stands w fs y g → g.number.0 ≡ n → g.defined ≡ true
unfolding is_defined
not_open w env fs n y g name is stands same =
    let k = some_is stands.known name.known (sym stands.is_known ∙ ap (slice_get fs) same ∙ name.is_known) in
    let x : y ≡ name.known.name = sym stands.name ∙ ap (λ (z : Known). z.name) k in
    ap is_defined (sym is ∙ ap env x ∙ name.is_entry) ∙ name.is_defined

entry_defined : (w : All) (env : Env) (fs : List Known) (ds : List (Option Definition)) (n : ℕ) (b : Definition) (y : List ℕ) (o : Option Entry) → DefinedName env fs n → env y ≡ o → EntryStands w fs ds y o → EntryStands w fs (slice_set ds n (Some b)) y o
entry_defined w env fs ds n b y None name is h = tt
entry_defined w env fs ds n b y (Some (E.Object o)) name is h = tt
entry_defined w env fs ds n b y (Some (E.Function g)) name is h = (
  h.0,
  λ undefined. elim (get_kept ds n (Some b) g.number.0 None (h.1 undefined)) [
    | inl same ↦ absurd (true≢false (sym (not_open w env fs n y g name is h.0 same) ∙ undefined))
    | inr kept ↦ kept
  ],
)

defined_by : (w : All) (ds : List (Option Definition)) (n : ℕ) (b : Definition) (i : ℕ) (c : Definition) → Sits w n b → (slice_get ds i ≡ Some (Some c) → Sits w i c) → slice_get (slice_set ds n (Some b)) i ≡ Some (Some c) → Sits w i c
defined_by w ds n b i c sits old is = elim (get_put ds n (Some b) i (Some c) is) [
  | inl new ↦ subst (λ (k : ℕ). Sits w k c) (sym new.0) (subst (λ (z : Definition). Sits w n z) (some_is b c new.1) sits)
  | inr kept ↦ old kept
]

point_by : (ds : List (Option Definition)) (n : ℕ) (b : Definition) (np nq q : ℕ) (old : Bool) → nat_lt q np ≡ old → slice_get ds n ≡ Some None → b.entry.0 ≤ np → nq ≤ suc b.exit.0 → q < nq → (q < np → PointOf ds q) → PointOf (slice_set ds n (Some b)) q
point_by ds n b np nq q true is undefined from to less h =
    point_stays ds (slice_set ds n (Some b)) q (stay_defined ds n b undefined) (h (ltb-true q np is))
point_by ds n b np nq q false is undefined from to less h =
    let after = ltb-false q np is in
    record {
      number = n;
      definition = b;
      is_definition = get_set ds n (Some b) None undefined;
      from = omega (arith, from, after);
      to = omega (arith, to, less);
    }

site_by : (ds : List (Option Definition)) (n : ℕ) (b : Definition) (ns nt i : ℕ) (old : Bool) → nat_lt i ns ≡ old → slice_get ds n ≡ Some None → count ns (stmt_sites_of_all b.body) ≡ Some nt → i < nt → (i < ns → SiteOf ds i) → SiteOf (slice_set ds n (Some b)) i
site_by ds n b ns nt i true is undefined sites less h =
    site_stays ds (slice_set ds n (Some b)) i (stay_defined ds n b undefined) (h (ltb-true i ns is))
site_by ds n b ns nt i false is undefined sites less h = record {
  number = n;
  definition = b;
  is_definition = get_set ds n (Some b) None undefined;
  first_site = ns;
  end_site = nt;
  sites = sites;
  from = ltb-false i ns is;
  to = less;
}

sound_defined : (w : All) (env : Env) (np ns : ℕ) (fs : List Known) (ds : List (Option Definition)) (xs : List Start) (n : ℕ) (b : Definition) (nq nt : ℕ) → DefinedName env fs n → slice_get ds n ≡ Some None → Sits w n b → b.entry.0 ≤ np → nq ≤ suc b.exit.0 → count ns (stmt_sites_of_all b.body) ≡ Some nt → Sound w env np ns fs ds xs → Sound w env nq nt fs (slice_set ds n (Some b)) xs
sound_defined w env np ns fs ds xs n b nq nt name undefined sits from to sites h = record {
  fits = h.fits;
  names = λ y. entry_defined w env fs ds n b y (env y) name refl (h.names y);
  paired = h.paired ∙ sym (length-set ds n (Some b));
  functions = h.functions;
  definitions = λ i c is. defined_by w ds n b i c sits (h.definitions i c) is;
  points = λ q less. point_by ds n b np nq q (nat_lt q np) refl undefined from to less (h.points q);
  sites = λ i less. site_by ds n b ns nt i (nat_lt i ns) refl undefined sites less (h.sites i);
  starts = h.starts;
}

-- ---- definitions

-- the walk over a function, whose body is this one
abbrev body_walk : Signature → Function → List Spot → Option (List Ast) → Context → walk.Walking (Option Definition)
body_walk g f notes body ctx =
    walk.alone (walk.◌>>=◌ (fn.formals_from ctx g.first f.formals) (λ _.
    walk.◌>>=◌ (fn.notes_of (Some g.number) notes) (λ _. fn.body_by ctx f body)))

abbrev defines : Signature → Function → List Spot → Option (List Ast) → Context → Declared → Filed (Unit {0})
defines g f notes body ctx d =
    let a = file.went d (body_walk g f notes body ctx d.names d.made) in
    file.after a (text.define g f a.value a.declared)

-- before a body nothing is made but notes
head_adds : (g : Signature) (f : Function) (notes : List Spot) (ctx : Context) (s : Names) (m : Made) → Adds m (fn.notes_of (Some g.number) notes (fn.formals_from ctx g.first f.formals s m).names (fn.formals_from ctx g.first f.formals s m).made).made none none
head_adds g f notes ctx s m =
    let a = fn.formals_from ctx g.first f.formals s m in
    let b = fn.notes_of (Some g.number) notes a.names a.made in
    subst (λ (x : Made). Adds x b.made none none) (formals_made ctx g.first f.formals s m) (notes_adds (Some g.number) notes a.names a.made)

head_back : (w : Whole) (g : Signature) (f : Function) (notes : List Spot) (ctx : Context) (s : Names) (m : Made) → Begins w (fn.notes_of (Some g.number) notes (fn.formals_from ctx g.first f.formals s m).names (fn.formals_from ctx g.first f.formals s m).made).made → Begins w m
head_back w g f notes ctx s m begins =
    let a = fn.formals_from ctx g.first f.formals s m in
    subst (λ (x : Made). Begins w x) (formals_made ctx g.first f.formals s m) ((notes_step w (Some g.number) notes a.names a.made).back begins)

defined_files : (w : All) (x : List ℕ) (result : Option IntType) (g : Signature) (f : Function) (notes : List Spot) (body : Option (List Ast)) (ctx : Context) (d : Declared) → ctx.owner ≡ g.number → ctx.result ≡ g.result → ctx.in_loop ≡ false → Files w d (defines g f notes body ctx d) (Declares w d x result (fn.formal_types f.formals) (is_some body) g) (Unit {0})
defined_files w x result g f notes None ctx d own returns out =
    let a = fn.formals_from ctx g.first f.formals d.names d.made in
    let b = fn.notes_of (Some g.number) notes a.names a.made in
    record {
      back = λ free o. record { made = head_back w.whole g f notes ctx d.names d.made o.made; functions = o.functions };
      good = λ free o h p. (sound_walked w d d.names b.made refl (head_adds g f notes ctx d.names d.made) h, tt);
    }
defined_files w x result g f notes (Some ss) ctx d own returns out =
    let m = d.made in
    let a = fn.formals_from ctx g.first f.formals d.names m in
    let b = fn.notes_of (Some g.number) notes a.names a.made in
    let c = fn.body_of ctx f.name.at.line f.close ss b.names b.made in
    let n = g.number.0 in
    let step = body_step w.whole ctx f.name.at.line f.close ss b.names b.made out in
    let adds = body_adds w.whole ctx f.name.at.line f.close ss b.names b.made in
    let before = head_adds g f notes ctx d.names m in
    record {
      back = λ free o. record {
        made = head_back w.whole g f notes ctx d.names m (step.back o.made);
        functions = o.functions;
      };
      good = λ free o h p.
          let k = p.stands.known in
          let cells = p.stands.cells in
          let begins = step.back o.made in
          let of_formals = subst (λ (tys : List IntType). CellsAre (cells_of w) g.number g.first tys) p.formals_are cells.formal_cells in
          let s1 = formals_step w.whole ctx g.number g.first f.formals d.names m of_formals in
          let s2 = notes_step w.whole (Some g.number) notes a.names a.made in
          let fit = s2.names begins (s1.names (s2.back begins) h.fits) in
          let fits = step.good o.made fit free.0.1.1.0 in
          let type : option_map (ty_at (cells_of w)) k.result ≡ ctx.result =
          result_type (cells_of w) g.number k g.result g.formals g.first cells ∙ sym returns in
          let sits : Sits w n c.value = record {
            typed = λ z is.
                let same : k ≡ z = some_is k z (sym (has_function w d.functions n k o.functions p.stands.is_known) ∙ is) in
                subst (λ (y : Known). stmts_fit (frame w.whole n (option_map (ty_at (cells_of w)) y.result)) false c.value.body ≡ true) same
                (subst (λ (r : Option IntType). stmts_fit (frame w.whole n r) false c.value.body ≡ true) (sym type)
                (subst (λ (i : FnId). stmts_fit (frame w.whole i.0 ctx.result) false c.value.body ≡ true) own fits.typed));
            entry = subst (λ (i : FnId). is_own (frame w.whole i.0 None) AtEntry c.value.entry ≡ true) own fits.entry;
            exit = subst (λ (i : FnId). is_own (frame w.whole i.0 None) AtExit c.value.exit ≡ true) own fits.exit;
            points = adds.points;
            first_site = length b.made.sites;
            end_site = length c.made.sites;
            sites = adds.sites;
          } in
          let name : DefinedName d.names.env d.functions n = record {
            known = k;
            is_known = p.stands.is_known;
            entry = p.entry;
            is_entry = ap d.names.env p.stands.name ∙ p.is_entry;
            is_defined = p.is_defined refl;
          } in
          let sound : SoundAt w (record d { made = b.made }) = sound_walked w d d.names b.made refl before h in
          let at = adds.entry in
          let end = adds.exit in
          (sound_defined w d.names.env (length b.made.points) (length b.made.sites) d.functions d.definitions d.starts n c.value (length c.made.points) (length c.made.sites) name (p.undefined refl) sits (omega (arith, at)) (omega (arith, end)) adds.sites sound, tt);
    }

pub function_files : (w : All) (f : Function) (notes : List Spot) (d : Declared) → Files w d (text.function f notes d) (Unit {0}) (Unit {0})
unfolding text.function fn.within
function_files w f notes d =
    let result = fn.result_of (spec_type f.spec.words) in
    let formals = fn.formal_types f.formals in
    let bad = breach.both (fn.result_faults f.spec) (fn.formals_faults f.formals) in
    let a = fn.declared_function f.name result formals (is_some f.body) notes d in
    let g = a.value in
    let ctx = fn.body_context g a.declared.made.cells in
    let b = defines g f notes f.body ctx a.declared in
    then_files w d (file.breach bad d) (file.after a b) _ _ _
    (as_files w d _ _ _ _ (λ q. q.0) (breach_files w d bad _))
    (then_files w d a b _ _ _
    (declared_files w f.name result formals (is_some f.body) notes d)
    (defined_files w f.name.name result g f notes f.body ctx a.declared refl refl refl))
