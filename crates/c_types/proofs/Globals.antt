-- Objects at file scope.
use Rattle.std.proofs.Common.{◌≡◌, ◌∙◌, ◌<◌, ◌&&◌, ℕ, ℤ, Bool, true, false, not, List, [], ◌∷◌, length, Option, Some, None, refl, ap, sym, subst}
use Rattle.std.proofs.lemmas.Bool.{and_parts, and_from, lt-ltb, eqb-true, true≢false}
use Rattle.std.proofs.lemmas.Option.{slice_get_within}
use Rattle.c_ast.specs.declared.expr.Ident.{Ident}
use Rattle.c_ast.specs.declared.stmt.Declr.{Declr}
use Rattle.c_ast.specs.declared.stmt.Init.{Init}
use Rattle.c_ast.specs.declared.unit.Global.{Global}
use Rattle.c_ir.specs.Formed.{Layout, cell_passes, is_read_as, same_bool, on_some}
use Rattle.c_ir.specs.Types.{same_type}
use Rattle.c_ir.specs.declared.note.InScope.{InScope}
use Rattle.c_ir.specs.declared.ty.IntType.{IntType}
use Rattle.c_rules.specs.Breaches.{only_if}
use Rattle.c_rules.specs.Fits.{entry_fits, object_fits}
use Rattle.c_rules.specs.Specifiers.{spec_type, is_constant}
use Rattle.c_rules.specs.declared.breach.Fault.{Fault}
use Rattle.c_rules.specs.declared.breach.Fault.TheVariants as F
use Rattle.c_rules.specs.declared.scope.Entry.{Entry}
use Rattle.c_rules.specs.declared.scope.Entry.TheVariants as E
use Rattle.c_rules.specs.declared.scope.Object.{Object}
use Rattle.c_rules.proofs.Formed.{same_is, same_self}
use Rattle.c_typing.specs.Declarations.{cell_count, is_nothing, object_faults, object_type}
use Rattle.c_typing.specs.FileScope as file
use Rattle.c_typing.specs.FileScope.{Declared}
use Rattle.c_typing.specs.Walking as walk
use Rattle.c_typing.specs.declared.walk.Allocated.{Allocated}
use Rattle.c_types.proofs.Files.{All, sound_started}
use Rattle.c_types.proofs.Filings.{Files, pure_files, then_files, as_files, breach_files, broken_files, walked_files, named_files}
use Rattle.c_types.proofs.Locals.{some_cells}
use Rattle.c_types.proofs.Shapes.{Shape}
use Rattle.c_types.proofs.Starts.{AreStarts, are_starts, object_starts}
use Rattle.c_types.proofs.Steps.{Free, Placed, placed, allocate_step, allocate_adds, in_scope_step, in_scope_adds}

-- ---- objects

-- the object has its cells, of this type and size
pub record HasObject (l : Layout) (ty : IntType) (size : Option ℕ) (o : Object) : Type 0 where
  pub fits : object_fits l o o.length ≡ true
  pub type : o.ty ≡ ty
  pub length : o.length ≡ size

abbrev pub IfObject : Layout → IntType → Option ℕ → Option Object → Type 0
IfObject l ty size None = Unit {0}
IfObject l ty size (Some o) = HasObject l ty size o

abbrev pub allocated : IntType → Bool → Option ℕ → Allocated
allocated ty constant size = record {
  ty = ty;
  owner = None;
  constant = constant;
  checked = false;
  length = cell_count size;
}

abbrev read_shape : IntType → Shape → Bool
read_shape ty s = same_type s.ty ty && same_bool s.checked false

new_fits : (l : Layout) (ty : IntType) (constant : Bool) (size : Option ℕ) (first : ℕ) → 0 < cell_count size → Placed l (allocated ty constant size) first → object_fits l (file.object ty first size constant) size ≡ true
unfolding cell_passes
new_fits l ty constant None first some h =
    let f = h.first_is some in
    and_from _ _ (lt-ltb first (length l.cells) (slice_get_within l.cells first f.0 f.1))
    (ap (on_some (is_read_as ty false)) f.1 ∙ ap (read_shape ty) f.2 ∙ and_from _ _ (same_self ty) refl)
new_fits l ty constant (Some n) first some h =
    h.passes (is_read_as ty false) (read_shape ty) (λ c. refl) some (and_from _ _ (same_self ty) refl)

object_entry : (l : Layout) (o : Object) → object_fits l o o.length ≡ true → entry_fits l (Some (E.Object o)) ≡ true
unfolding entry_fits
object_entry l o is = is

bring_in_files : (w : All) (ty : IntType) (constant : Bool) (size : Option ℕ) (x : Ident) (d : Declared) → 0 < cell_count size → Files w d (file.bring_in ty constant size x d) (Unit {0}) (IfObject w.whole.layout ty size (file.bring_in ty constant size x d).value)
unfolding walk.allocate walk.in_scope walk.name_is
bring_in_files w ty constant size x d some =
    let l = w.whole.layout in
    let o = allocated ty constant size in
    let a = file.walked (walk.allocate o) d in
    let shown : InScope = record { name = x.name; first = a.value; length = size } in
    let b = file.walked (walk.in_scope shown) a.declared in
    let entry = file.object ty a.value size constant in
    let c = file.walked (walk.name_is x.name (E.Object entry)) b.declared in
    let e = file.pure (Some entry) c.declared in
    let P = (Unit {0} × Placed l o a.value) × Unit {0} in
    as_files w d _ _ _ _ (λ p. record { fits = new_fits l ty constant size a.value some p.0.1; type = refl; length = refl })
    (then_files w d a (file.after b (file.after c e)) _ _ _
    (as_files w d a _ _ _ (λ q. (q.0, placed w.whole d.names d.made o q.1)) (walked_files w d (walk.allocate o d.names d.made) _ _ (allocate_step w.whole d.names d.made o) refl (allocate_adds d.names d.made o)))
    (then_files w a.declared b (file.after c e) _ _ _
    (walked_files w a.declared (walk.in_scope shown a.declared.names a.declared.made) _ _ (in_scope_step w.whole a.declared.names a.declared.made shown) refl (in_scope_adds a.declared.names a.declared.made shown))
    (then_files w b.declared c e P P P
    (named_files w b.declared x.name (E.Object entry) P (λ p opens. (object_entry l entry (new_fits l ty constant size a.value some p.0.1), tt)))
    (pure_files w c.declared (Some entry) P))))

-- what is allowed without breach
pub allowed : (b : Bool) (at : ℕ) (fault : Fault) → Free (only_if (not b) at fault) → b ≡ true
allowed true at fault free = refl
allowed false at fault free = absurd free

same_length : (a b : Option ℕ) → file.same_size a b ≡ true → b ≡ a
same_length None None is = refl
same_length (Some n) (Some m) is = ap (λ (k : ℕ). Some k) (sym (eqb-true n m is))
same_length None (Some m) is = absurd (true≢false (sym is))
same_length (Some n) None is = absurd (true≢false (sym is))

entry_object : (l : Layout) (o : Object) → entry_fits l (Some (E.Object o)) ≡ true → object_fits l o o.length ≡ true
unfolding entry_fits
entry_object l o is = is

object_by_files : (w : All) (ty : IntType) (constant : Bool) (size : Option ℕ) (x : Ident) (d : Declared) → 0 < cell_count size → (o : Option Entry) → d.names.env x.name ≡ o → Files w d (file.object_by ty constant size x o d) (Unit {0}) (IfObject w.whole.layout ty size (file.object_by ty constant size x o d).value)
object_by_files w ty constant size x d some None is = bring_in_files w ty constant size x d some
object_by_files w ty constant size x d some (Some (E.Object o)) is = record {
  back = λ free opens. opens;
  good = λ free opens h p.
      let parts = and_parts _ _ (allowed (file.is_repeat ty constant size o) x.at.span.from F.BadType free.0) in (
        h,
        record {
          fits = entry_object w.whole.layout o (subst (λ (e : Option Entry). entry_fits w.whole.layout e ≡ true) is (h.fits x.name));
          type = sym (same_is ty o.ty parts.0);
          length = same_length size o.length (and_parts _ _ parts.1).1;
        },
      );
}
object_by_files w ty constant size x d some (Some (E.Function g)) is = broken_files w d _ _ _ (λ free. free.0)

object_files : (w : All) (ty : IntType) (constant : Bool) (size : Option ℕ) (x : Ident) (d : Declared) → 0 < cell_count size → Files w d (file.object_of ty constant size x d) (Unit {0}) (IfObject w.whole.layout ty size (file.object_of ty constant size x d).value)
unfolding file.object_of
object_files w ty constant size x d some = object_by_files w ty constant size x d some (d.names.env x.name) refl

-- ---- initialisers

starting_files : (w : All) (ty : IntType) (size : Option ℕ) (v : Init) (d : Declared) (P : Type 0) → Files w d (file.starting ty size v d) P (P × AreStarts ty (cell_count size) (file.starting ty size v d).value)
unfolding file.starting
starting_files w ty size v d P = record {
  back = λ free opens. opens;
  good = λ free opens h p. (h, (p, are_starts ty d.names.env size v));
}

-- values for an object that has its cells
for_object : (l : Layout) (ty : IntType) (size : Option ℕ) (o : Object) (vs : List ℤ) → HasObject l ty size o → AreStarts ty (cell_count size) vs → AreStarts o.ty (cell_count o.length) vs
for_object l ty size o vs h a =
    subst (λ (t : IntType). AreStarts t (cell_count o.length) vs) (sym h.type) (subst (λ (n : Option ℕ). AreStarts ty (cell_count n) vs) (sym h.length) a)

set_if_files : (w : All) (ty : IntType) (size : Option ℕ) (nothing : Bool) (x : Ident) (vs : List ℤ) (o : Object) (d : Declared) → Files w d (file.set_if nothing x vs o d) (HasObject w.whole.layout ty size o × AreStarts ty (cell_count size) vs) (Unit {0})
set_if_files w ty size true x vs o d = as_files w d _ _ _ _ (λ p. tt) (pure_files w d tt _)
set_if_files w ty size false x vs o d =
    let l = w.whole.layout in
    let P = HasObject l ty size o × AreStarts ty (cell_count size) vs in
    let a = file.breach (only_if o.is_set x.at.span.from (F.Twice x.name)) d in
    let b = file.new_start o.first vs d in
    let c = file.walked (walk.name_is x.name (E.Object (file.is_set o))) b.declared in
    as_files w d _ _ _ _ (λ p. tt)
    (then_files w d a (file.after b c) P P P
    (as_files w d a _ _ _ (λ q. q.0) (breach_files w d _ P))
    (then_files w d b c P P P
    (record {
      back = λ free opens. record { made = opens.made; functions = opens.functions };
      good = λ free opens h p.
          (sound_started w d.names.env (length d.made.points) (length d.made.sites) d.functions d.definitions d.starts _ (object_starts l o o.length vs p.0.fits (for_object l ty size o vs p.0 p.1)) h, p);
    })
    (named_files w b.declared x.name (E.Object (file.is_set o)) P (λ p opens. (object_entry l (file.is_set o) p.0.fits, tt)))))

set_files : (w : All) (ty : IntType) (size : Option ℕ) (nothing : Bool) (x : Ident) (vs : List ℤ) (o : Option Object) (d : Declared) → Files w d (file.set_once nothing x vs o d) (IfObject w.whole.layout ty size o × AreStarts ty (cell_count size) vs) (Unit {0})
unfolding file.set_once
set_files w ty size nothing x vs None d = as_files w d _ _ _ _ (λ p. tt) (pure_files w d tt _)
set_files w ty size nothing x vs (Some o) d = set_if_files w ty size nothing x vs o d

-- ---- declarators

declarator_files : (w : All) (ty : IntType) (constant : Bool) (r : Declr) (d : Declared) → Files w d (file.global_declarator ty constant r d) (Unit {0}) (Unit {0})
unfolding file.global_declarator file.sized
declarator_files w ty constant r d =
    let a = file.sized r d in
    let size = a.value in
    let o = file.object_of ty constant size r.name d in
    let v = file.starting ty size r.value o.declared in
    let e = file.set_once (is_nothing r.value) r.name v.value o.value v.declared in
    then_files w d a (file.after o (file.after v e)) _ (Unit {0}) _
    (record { back = λ free opens. opens; good = λ free opens h p. (h, p) })
    (then_files w d o (file.after v e) _ _ _
    (object_files w ty constant size r.name d (some_cells d.names.env r.length r.value))
    (then_files w o.declared v e _ _ _
    (starting_files w ty size r.value o.declared _)
    (set_files w ty size (is_nothing r.value) r.name v.value o.value v.declared)))

declarators_files : (w : All) (ty : IntType) (constant : Bool) (rs : List Declr) (d : Declared) → Files w d (file.global_declarators ty constant rs d) (Unit {0}) (Unit {0})
declarators_files w ty constant [] d = pure_files w d tt _
declarators_files w ty constant (r ∷ rs) d =
    let a = file.global_declarator ty constant r d in
    then_files w d a (file.global_declarators ty constant rs a.declared) _ _ _ (declarator_files w ty constant r d) (declarators_files w ty constant rs a.declared)

pub global_files : (w : All) (g : Global) (d : Declared) → Files w d (file.global g d) (Unit {0}) (Unit {0})
unfolding file.global
global_files w g d =
    let ty = object_type (spec_type g.spec.words) in
    let constant = is_constant g.spec.words in
    then_files w d (file.breach (object_faults g.spec) d) (file.global_declarators ty constant g.declrs d) _ _ _
    (as_files w d _ _ _ _ (λ q. q.0) (breach_files w d (object_faults g.spec) _))
    (declarators_files w ty constant g.declrs d)
