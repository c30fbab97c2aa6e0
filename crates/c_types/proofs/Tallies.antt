-- At file scope: what walks keep, and as many definitions as functions.
use Rattle.std.proofs.Common.{◌≡◌, ◌∙◌, ◌<◌, ◌+◌, ℕ, Bool, true, false, List, [], ◌∷◌, ◌++◌, length, Option, Some, None, is_some, ℤ, refl, sym, subst, arith}
use Rattle.std.proofs.lemmas.Bool.{and_parts, eq-eqb}
use Rattle.std.proofs.lemmas.List.{length-append, length-set}
use Rattle.fc_base.specs.declared.ids.FnId.{FnId}
use Rattle.fc_base.specs.declared.syntax.Spot.{Spot}
use Rattle.c_ast.specs.declared.expr.Ident.{Ident}
use Rattle.c_ast.specs.declared.stmt.Declr.{Declr}
use Rattle.c_ast.specs.declared.stmt.Stmt.{Stmt}
use Rattle.c_ast.specs.declared.unit.Formal.{Formal}
use Rattle.c_ast.specs.declared.unit.Function.{Function}
use Rattle.c_ast.specs.declared.unit.Item.{Item}
use Rattle.c_ast.specs.declared.unit.Item.TheVariants as U
use Rattle.c_types.specs.Noted.{is_shown_to, is_shown, object_fits, number_of}
use Rattle.c_ir.specs.declared.tree.CellInfo.{CellInfo}
use Rattle.c_ir.specs.declared.ty.IntType.{IntType}
use Rattle.c_rules.specs.Specifiers.{spec_type}
use Rattle.c_rules.specs.declared.scope.Entry.{Entry}
use Rattle.c_rules.specs.declared.scope.Entry.TheVariants as E
use Rattle.c_rules.specs.declared.scope.Object.{Object}
use Rattle.c_rules.specs.declared.scope.Signature.{Signature}
use Rattle.c_typing.specs.Declarations.{cell_count, is_nothing, object_type}
use Rattle.c_typing.specs.FileScope as file
use Rattle.c_typing.specs.FileScope.{Declared}
use Rattle.c_typing.specs.Functions as fn
use Rattle.c_typing.specs.Texts as text
use Rattle.c_typing.specs.Walking as walk
use Rattle.c_typing.specs.Walking.{Names, Made}
use Rattle.c_typing.specs.declared.context.Context.{Context}
use Rattle.c_typing.specs.declared.file.Definition.{Definition}
use Rattle.c_types.proofs.Cells.{stmts_keeps}
use Rattle.c_types.proofs.Files.{IsCell, CellsAre, cell_at}
use Rattle.c_types.proofs.Functions.{cell_for, same_types}
use Rattle.c_types.proofs.Globals.{allocated}
use Rattle.c_types.proofs.Locals.{some_cells}
use Rattle.c_types.proofs.Noted.{Base, Here, EntryHas, Keeps, Leaves, begun, inside, left, has_its_cells, allocate_keeps, name_is_keeps, in_scope_keeps, object_keeps, new_note_keeps, new_point_keeps}

pub record Tallies (b : Base) (d : Declared) : Type 0 where
  pub keeps : Keeps b None d.names d.made
  pub functions : length d.functions ≡ length d.definitions

-- what a walk over statements makes
walked : {b : Base} (d : Declared) (s : Names) (m : Made) → Keeps b None s m → Tallies b d → Tallies b (record d { names = s; made = m })
walked d s m k t = record { keeps = k; functions = t.functions }

-- ---- objects

object_tallies : {b : Base} (ty : IntType) (constant : Bool) (size : Option ℕ) (x : Ident) (o : Option Entry) (d : Declared) → 0 < cell_count size → Tallies b d → Tallies b (file.object_by ty constant size x o d).declared
object_tallies ty constant size x None d some t = record {
  keeps = name_is_keeps _ _ _ _ (λ here. tt) (object_keeps (allocated ty constant size) x.name size _ _ refl some refl t.keeps);
  functions = t.functions;
}
object_tallies ty constant size x (Some (E.Object o)) d some t = t
object_tallies ty constant size x (Some (E.Function g)) d some t = t

set_tallies : {b : Base} (nothing : Bool) (x : Ident) (values : List ℤ) (o : Object) (d : Declared) → Tallies b d → Tallies b (file.set_if nothing x values o d).declared
set_tallies true x values o d t = t
set_tallies false x values o d t = record { keeps = name_is_keeps _ _ _ _ (λ here. tt) t.keeps; functions = t.functions }

set_by_tallies : {b : Base} (nothing : Bool) (x : Ident) (values : List ℤ) (o : Option Object) (d : Declared) → Tallies b d → Tallies b (file.set_by nothing x values o d).declared
set_by_tallies nothing x values None d t = t
set_by_tallies nothing x values (Some o) d t = set_tallies nothing x values o d t

declarator_tallies : {b : Base} (ty : IntType) (constant : Bool) (r : Declr) (d : Declared) → Tallies b d → Tallies b (file.global_declarator ty constant r d).declared
unfolding file.global_declarator file.sized file.object_of file.starting file.set_once
declarator_tallies ty constant r d t =
    set_by_tallies (is_nothing r.value) r.name _ _ _
    (object_tallies ty constant (file.sized r d).value r.name (d.names.env r.name.name) d (some_cells d.names.env r.length r.value) t)

declarators_tallies : {b : Base} (ty : IntType) (constant : Bool) (rs : List Declr) (d : Declared) → Tallies b d → Tallies b (file.global_declarators ty constant rs d).declared
declarators_tallies ty constant [] d t = t
declarators_tallies ty constant (r ∷ rs) d t = declarators_tallies ty constant rs _ (declarator_tallies ty constant r d t)

-- ---- functions

allocated_keeps : {b : Base} {o : Option FnId} (owner : FnId) (tys : List IntType) (s : Names) (m : Made) → Keeps b o s m → Leaves b o (fn.allocate_formals owner tys s m)
allocated_keeps owner [] s m k = k
allocated_keeps owner (ty ∷ tys) s m k = allocated_keeps owner tys _ _ (allocate_keeps _ s m k)

allocated_has : {b : Base} {o : Option FnId} (owner : FnId) (tys : List IntType) (s : Names) (m : Made) → Keeps b o s m → Here b.cells (fn.allocate_formals owner tys s m).made.objects → CellsAre b.cells owner m.cells tys
unfolding walk.allocate
allocated_has owner [] s m k here = tt
allocated_has {b} owner (ty ∷ tys) s m k here =
    let new = cell_for owner ty in
    let a = walk.allocate new s m in
    let h = allocate_keeps new s m k in
    let before = (allocated_keeps owner tys a.names a.made (begun a.names a.made h)).back here in (
      (has_its_cells b.cells m.objects new m.cells k.count before).first_is (omega arith),
      allocated_has owner tys a.names a.made h here,
    )

both_longer : {X Y : Type 0} (xs : List X) (ys : List Y) (x : X) (y : Y) → length xs ≡ length ys → length (xs ++ x ∷ []) ≡ length (ys ++ y ∷ [])
both_longer xs ys x y is =
    let a = length-append xs (x ∷ []) in let b = length-append ys (y ∷ []) in omega (arith, is, a, b)

-- the function has formals of these types, with their cells
record Lists (b : Base) (d : Declared) (formals : List IntType) (g : Signature) : Type 0 where
  tallies : Tallies b d
  formals_are : g.formals ≡ formals
  has : Here b.cells d.made.objects → CellsAre b.cells g.number g.first g.formals

enlist_lists : {b : Base} (x : Ident) (result : Option IntType) (formals : List IntType) (d : Declared) → Tallies b d → Lists b (fn.enlist x result formals d).declared formals (fn.enlist x result formals d).value
unfolding fn.enlist
enlist_lists x result formals d t =
    let owner : FnId = record { 0 = length d.functions } in
    let results = fn.result_types result in
    let a = fn.allocate_formals owner formals d.names d.made in
    let k = allocated_keeps owner formals d.names d.made t.keeps in
    let after = allocated_keeps owner results a.names a.made (begun a.names a.made k) in
    record {
      tallies = record {
        keeps = allocated_keeps owner results a.names a.made k;
        functions = both_longer d.functions d.definitions _ None t.functions;
      };
      formals_are = refl;
      has = λ here. allocated_has owner formals d.names d.made t.keeps (after.back here);
    }

apart_lists : {b : Base} (noted : Bool) (x : Ident) (result : Option IntType) (formals : List IntType) (d : Declared) → Tallies b d → Lists b (fn.apart noted x result formals d).declared formals (fn.apart noted x result formals d).value.1
apart_lists noted x result formals d t =
    let h = enlist_lists x result formals d t in
    record { tallies = h.tallies; formals_are = h.formals_are; has = h.has }

listed_if_lists : {b : Base} (x : Ident) (result : Option IntType) (formals : List IntType) (g : Signature) (d : Declared) → d.names.env x.name ≡ Some (E.Function g) → (same : Bool) → fn.is_same result formals g ≡ same → Tallies b d → Lists b (fn.listed_if same x result formals g d).declared formals (fn.listed_if same x result formals g d).value.1
unfolding fn.is_same
listed_if_lists {b} x result formals g d is true same t = record {
  tallies = t;
  formals_are = same_types formals g.formals (and_parts _ _ same).1;
  has = λ here. subst (λ (e : Option Entry). EntryHas b.cells e) is (t.keeps.functions here x.name);
}
listed_if_lists x result formals g d is false same t = apart_lists g.noted x result formals d t

listed_lists : {b : Base} (x : Ident) (result : Option IntType) (formals : List IntType) (o : Option Entry) (d : Declared) → d.names.env x.name ≡ o → Tallies b d → Lists b (fn.listed_by x result formals (fn.stands_for o) d).declared formals (fn.listed_by x result formals (fn.stands_for o) d).value.1
listed_lists x result formals None d is t = enlist_lists x result formals d t
listed_lists x result formals (Some (E.Object o)) d is t = apart_lists false x result formals d t
listed_lists x result formals (Some (E.Function g)) d is t =
    listed_if_lists x result formals g d is (fn.is_same result formals g) refl t

named_lists : {b : Base} (named : Bool) (x : Ident) (formals : List IntType) (has_body : Bool) (notes : List Spot) (g : Signature) (d : Declared) → Lists b d formals g → Lists b (fn.name_if named x (fn.marked has_body notes g) d).declared formals g
unfolding walk.name_is
named_lists true x formals has_body notes g d h = record {
  tallies = record {
    keeps = name_is_keeps x.name (E.Function (fn.marked has_body notes g)) d.names d.made h.has h.tallies.keeps;
    functions = h.tallies.functions;
  };
  formals_are = h.formals_are;
  has = h.has;
}
named_lists false x formals has_body notes g d h = h

declared_lists : {b : Base} (x : Ident) (result : Option IntType) (formals : List IntType) (has_body : Bool) (notes : List Spot) (d : Declared) → Tallies b d → Lists b (fn.declared_function x result formals has_body notes d).declared formals (fn.declared_function x result formals has_body notes d).value
unfolding fn.declared_function fn.listed
declared_lists x result formals has_body notes d t =
    named_lists _ x formals has_body notes _ _ (listed_lists x result formals (d.names.env x.name) d refl t)

formal_fits : (cells : List CellInfo) (owner : FnId) (x : List ℕ) (cell : ℕ) (ty : IntType) → IsCell cells owner cell ty → object_fits (number_of (Some owner)) cells (record { name = x; first = cell; length = None }) ≡ true
unfolding object_fits
formal_fits cells owner x cell ty h =
    cell_at (is_shown (number_of (Some owner))) (λ s. is_shown_to (number_of (Some owner)) s.owner) (λ c. refl) cells owner cell ty h (eq-eqb owner.0 owner.0 refl)

formal_keeps : {b : Base} (ctx : Context) (cell : ℕ) (f : Formal) (x : Option Ident) (s : Names) (m : Made) → (Here b.cells b.objects → IsCell b.cells ctx.owner cell (object_type (spec_type f.spec.words))) → Keeps b (Some ctx.owner) s m → Leaves b (Some ctx.owner) (fn.formal_by ctx cell f x s m)
formal_keeps ctx cell f None s m has k = k
formal_keeps {b} ctx cell f (Some x) s m has k =
    name_is_keeps _ _ _ _ (λ here. tt) (in_scope_keeps _ s m (λ here. formal_fits b.cells ctx.owner x.name cell _ (has (k.back here))) k)

formals_keeps : {b : Base} (ctx : Context) (cell : ℕ) (fs : List Formal) (s : Names) (m : Made) → (Here b.cells b.objects → CellsAre b.cells ctx.owner cell (fn.formal_types fs)) → Keeps b (Some ctx.owner) s m → Leaves b (Some ctx.owner) (fn.formals_from ctx cell fs s m)
formals_keeps ctx cell [] s m has k = k
formals_keeps ctx cell (f ∷ fs) s m has k =
    formals_keeps ctx (cell + 1) fs _ _ (λ here. (has here).1) (formal_keeps ctx cell f f.name s m (λ here. (has here).0) k)

notes_keeps : {b : Base} (owner : Option FnId) (notes : List Spot) (s : Names) (m : Made) → Keeps b owner s m → Leaves b owner (fn.notes_of owner notes s m)
notes_keeps owner [] s m k = k
notes_keeps owner (at ∷ more) s m k = notes_keeps owner more _ _ (new_note_keeps at s.declared s m k.declared k)

body_keeps : {b : Base} (ctx : Context) (f : Function) (body : Option (List Stmt)) (s : Names) (m : Made) → Keeps b (Some ctx.owner) s m → Leaves b (Some ctx.owner) (fn.body_by ctx f body s m)
body_keeps ctx f None s m k = k
body_keeps ctx f (Some ss) s m k = new_point_keeps _ _ _ _ (stmts_keeps ctx ss _ _ (new_point_keeps _ _ _ _ k))

within_keeps : {b : Base} (g : Signature) (f : Function) (notes : List Spot) (s : Names) (m : Made) → (Here b.cells m.objects → CellsAre b.cells g.number g.first (fn.formal_types f.formals)) → Keeps b None s m → Leaves b None (fn.within g f notes s m)
unfolding fn.within
within_keeps g f notes s m has k =
    let ctx = fn.body_context g m.cells in
    let h = formals_keeps ctx g.first f.formals s m has (inside g.number s m k) in
    left s m (fn.parts_of ctx g f notes s m) k (body_keeps ctx f f.body _ _ (notes_keeps (Some g.number) notes _ _ h))

define_tallies : {b : Base} (g : Signature) (f : Function) (e : Option Definition) (d : Declared) → Tallies b d → Tallies b (text.define g f e d).declared
define_tallies g f None d t = t
define_tallies g f (Some e) d t =
    record { keeps = t.keeps; functions = t.functions ∙ sym (length-set d.definitions g.number.0 (Some e)) }

-- ---- texts

function_tallies : {b : Base} (f : Function) (notes : List Spot) (d : Declared) → Tallies b d → Tallies b (text.function f notes d).declared
unfolding text.function
function_tallies {b} f notes d t =
    let formals = fn.formal_types f.formals in
    let a = fn.declared_function f.name (fn.result_of (spec_type f.spec.words)) formals (is_some f.body) notes d in
    let h = declared_lists f.name _ formals (is_some f.body) notes d t in
    let has = λ (here : Here b.cells a.declared.made.objects). subst (λ (tys : List IntType). CellsAre b.cells a.value.number a.value.first tys) h.formals_are (h.has here) in
    let e = fn.within a.value f notes a.declared.names a.declared.made in
    define_tallies a.value f e.value _
    (walked a.declared e.names e.made (within_keeps a.value f notes a.declared.names a.declared.made has h.tallies.keeps) h.tallies)

file_notes_tallies : {b : Base} (notes : List Spot) (d : Declared) → Tallies b d → Tallies b (text.file_notes notes d).declared
unfolding text.file_notes
file_notes_tallies notes d t = record { keeps = notes_keeps None notes _ _ t.keeps; functions = t.functions }

item_tallies : {b : Base} (waiting : List Spot) (i : Item) (d : Declared) → Tallies b d → Tallies b (text.item waiting i d).declared
unfolding text.item file.global
item_tallies waiting (U.Note at) d t = t
item_tallies waiting (U.Global g) d t = declarators_tallies _ _ g.declrs _ (file_notes_tallies waiting d t)
item_tallies waiting (U.Function f) d t = function_tallies f waiting d t

pub items_tallies : {b : Base} (waiting : List Spot) (is : List Item) (d : Declared) → Tallies b d → Tallies b (text.items_from waiting is d).declared
items_tallies waiting [] d t = file_notes_tallies waiting d t
items_tallies waiting (i ∷ is) d t = items_tallies (text.item waiting i d).value is _ (item_tallies waiting i d t)
