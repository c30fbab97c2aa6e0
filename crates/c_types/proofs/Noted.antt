-- What walks keep: as many cells as those of the objects that were made; and where a program has these cells, the
-- functions, the names in scope and the notes fit them.
use Rattle.std.proofs.Common.{◌≡◌, ◌∙◌, ◌<◌, ◌+◌, ◌&&◌, ℕ, nat_lt, nat_le, bytes_eq, Bool, true, false, cond, if◌then◌else◌, List, [], ◌∷◌, ◌++◌, length, take, drop, map, slice_get, Option, Some, None, replicate, refl, ap, sym, subst, arith}
use Rattle.std.proofs.lemmas.Bool.{and_from, and_parts, lt-ltb, true≢false}
use Rattle.std.proofs.lemmas.List.{length-append, length-replicate}
use Rattle.std.proofs.lemmas.List.Folds.{list_all-append}
use Rattle.std.proofs.lemmas.Option.{slice_get_within}
use Rattle.std.specs.List.{list_all}
use Rattle.fc_base.specs.declared.ids.FnId.{FnId}
use Rattle.fc_base.specs.declared.ids.Line.{Line}
use Rattle.fc_base.specs.declared.ids.PointId.{PointId}
use Rattle.fc_base.specs.declared.syntax.Spot.{Spot}
use Rattle.c_ast.specs.declared.expr.Expr.{Expr as Ast}
use Rattle.c_ir.specs.Formed.{Layout, cells_are, cell_passes, cells_pass, on_some}
use Rattle.c_types.specs.Noted.{is_shown_to, is_shown, has_cells, object_fits, number_of, note_fits, NotesFit}
use Rattle.c_ir.specs.Scopes.{without, insert, nameable}
use Rattle.c_ir.specs.declared.note.InScope.{InScope}
use Rattle.c_ir.specs.declared.note.NoteSpot.{NoteSpot}
use Rattle.c_ir.specs.declared.place.Place.{Place}
use Rattle.c_ir.specs.declared.tree.CellInfo.{CellInfo}
use Rattle.c_ir.specs.declared.tree.Expr.{Expr}
use Rattle.c_rules.specs.Breaches.{Breaches}
use Rattle.c_rules.specs.Typing.{Gave, gave}
use Rattle.c_rules.specs.declared.scope.Entry.{Entry}
use Rattle.c_rules.specs.declared.scope.Entry.TheVariants as E
use Rattle.c_typing.specs.Declarations.{cell_count}
use Rattle.c_typing.specs.Meaning.{meaning}
use Rattle.c_typing.specs.Walking as walk
use Rattle.c_typing.specs.Walking.{Names, Made, Went}
use Rattle.c_typing.specs.declared.walk.Allocated.{Allocated}
use Rattle.c_types.proofs.Files.{CellsAre}
use Rattle.c_types.proofs.Shapes.{Shape, shape, shape_for, shapes, shapes_more, Starts, starts_less, starts_as}
use Rattle.c_types.proofs.Steps.{Placed, placed_at}

-- ---- names that a place can use

either_all : (p : InScope → Bool) (b : Bool) (xs ys : List InScope) → list_all p xs ≡ true → list_all p ys ≡ true → list_all p (if b then xs else ys) ≡ true
either_all p true xs ys one other = one
either_all p false xs ys one other = other

without_all : (p : InScope → Bool) (x : List ℕ) (ds : List InScope) → list_all p ds ≡ true → list_all p (without x ds) ≡ true
without_all p x [] all = refl
without_all p x (d ∷ ds) all =
    let h = and_parts (p d) (list_all p ds) all in
    let rest = without_all p x ds h.1 in
    either_all p (bytes_eq x d.name) (without x ds) (d ∷ without x ds) rest (and_from _ _ h.0 rest)

insert_all : (p : InScope → Bool) (d : InScope) (xs : List InScope) → p d ≡ true → list_all p xs ≡ true → list_all p (insert d xs) ≡ true
insert_all p d [] is all = and_from _ _ is refl
insert_all p d (x ∷ xs) is all =
    let h = and_parts (p x) (list_all p xs) all in
    either_all p (nat_lt d.first x.first) (d ∷ x ∷ xs) (x ∷ insert d xs) (and_from _ _ is all) (and_from _ _ h.0 (insert_all p d xs is h.1))

-- what holds of all that is declared holds of all that can be named
nameable_all : (p : InScope → Bool) (ds : List InScope) → list_all p ds ≡ true → list_all p (nameable ds) ≡ true
unfolding nameable
nameable_all p [] all = refl
nameable_all p (d ∷ older) all =
    let h = and_parts (p d) (list_all p older) all in
    insert_all p d (without d.name (nameable older)) h.0 (without_all p d.name (nameable older) (nameable_all p older h.1))

-- ---- objects that have their cells

-- the program's cells begin with those of these objects
abbrev pub Here : List CellInfo → List Allocated → Type 0
Here cells os = Starts (map shape cells) (shapes os)

abbrev pub over : List CellInfo → Layout
over cells = record { cells = cells; callees = [] }

pub here_before : (cells : List CellInfo) (os : List Allocated) (o : Allocated) → Here cells (os ++ o ∷ []) → Here cells os
here_before cells os o here =
    starts_less (map shape cells) (shapes os) _ (starts_as (map shape cells) _ _ (shapes_more os o) here)

pub has_its_cells : (cells : List CellInfo) (os : List Allocated) (o : Allocated) (first : ℕ) → first ≡ length (shapes os) → Here cells (os ++ o ∷ []) → Placed (over cells) o first
has_its_cells cells os o first is here =
    placed_at (over cells) o (shapes os) first is (starts_as (map shape cells) _ _ (shapes_more os o) here)

placed_fits : (function : Option ℕ) (cells : List CellInfo) (o : Allocated) (x : List ℕ) (first : ℕ) (size : Option ℕ) → o.length ≡ cell_count size → 0 < o.length → is_shown_to function o.owner ≡ true → Placed (over cells) o first → object_fits function cells (record { name = x; first = first; length = size }) ≡ true
unfolding object_fits cell_passes
placed_fits function cells o x first None is some shown h =
    let f = h.first_is some in
    and_from _ _ (lt-ltb first (length cells) (slice_get_within cells first f.0 f.1))
    (ap (on_some (is_shown function)) f.1 ∙ ap (λ (s : Shape). is_shown_to function s.owner) f.2 ∙ shown)
placed_fits function cells o x first (Some n) is some shown h =
    subst (λ (k : ℕ). cells_are (is_shown function) cells first k ≡ true) is
    (h.passes (is_shown function) (λ s. is_shown_to function s.owner) (λ c. refl) some shown)

-- ---- what is seen by a function, or at file scope

shown_more : (g : ℕ) (owner : Option FnId) → is_shown_to None owner ≡ true → is_shown_to (Some g) owner ≡ true
shown_more g None is = refl
shown_more g (Some f) is = absurd (true≢false (sym is))

all_more : {X : Type 0} (p q : X → Bool) → ((x : X) → p x ≡ true → q x ≡ true) → (xs : List X) → list_all p xs ≡ true → list_all q xs ≡ true
all_more p q more [] all = refl
all_more p q more (x ∷ xs) all = let h = and_parts (p x) _ all in and_from _ _ (more x h.0) (all_more p q more xs h.1)

passes_more : (p q : CellInfo → Bool) → ((c : CellInfo) → p c ≡ true → q c ≡ true) → (o : Option CellInfo) → on_some p o ≡ true → on_some q o ≡ true
passes_more p q more None is = is
passes_more p q more (Some c) is = more c is

cells_more : (p q : CellInfo → Bool) → ((c : CellInfo) → p c ≡ true → q c ≡ true) → (cells : List CellInfo) (first : ℕ) (size : Option ℕ) → has_cells p cells first size ≡ true → has_cells q cells first size ≡ true
unfolding cell_passes cells_pass
cells_more p q more cells first None is =
    let h = and_parts (nat_lt first (length cells)) _ is in
    and_from _ _ h.0 (passes_more p q more (slice_get cells first) h.1)
cells_more p q more cells first (Some n) is =
    let h = and_parts (nat_lt 0 n && nat_le (first + n) (length cells)) _ is in
    and_from _ _ h.0 (all_more p q more (take n (drop first cells)) h.1)

-- what fits at file scope fits in each function
fits_inside : (g : ℕ) (cells : List CellInfo) (o : InScope) → object_fits None cells o ≡ true → object_fits (Some g) cells o ≡ true
unfolding object_fits
fits_inside g cells o is = cells_more (is_shown None) (is_shown (Some g)) (λ c. shown_more g c.owner) cells o.first o.length is

-- ---- what walks keep

-- the cells of a program, and the objects that there were before
pub record Base : Type 0 where
  pub cells : List CellInfo
  pub objects : List Allocated

-- a function under its name has the cells of its formals
abbrev pub EntryHas : List CellInfo → Option Entry → Type 0
EntryHas cells None = Unit {0}
EntryHas cells (Some (E.Object o)) = Unit {0}
EntryHas cells (Some (E.Function g)) = CellsAre cells g.number g.first g.formals

pub record Keeping (b : Base) (owner : Option FnId) (s : Names) (objects : List Allocated) (cells : ℕ) (notes : List NoteSpot) : Type 0 where
  pub count : cells ≡ length (shapes objects)
  pub back : Here b.cells objects → Here b.cells b.objects
  pub functions : Here b.cells objects → (x : List ℕ) → EntryHas b.cells (s.env x)
  pub declared : Here b.cells objects → list_all (object_fits (number_of owner) b.cells) s.declared ≡ true
  pub noted : Here b.cells objects → NotesFit b.cells notes

-- of names that this function can use, or that can be used at file scope
abbrev pub Keeps : Base → Option FnId → Names → Made → Type 0
Keeps b owner s m = Keeping b owner s m.objects m.cells m.notes

-- so after a walk
abbrev pub Leaves : {X : Type 0} → Base → Option FnId → Went X → Type 0
Leaves b owner v = Keeps b owner v.names v.made

-- from here on
abbrev pub since : Base → Made → Base
since b m = record b { objects = m.objects }

pub begun : {b : Base} {o : Option FnId} (s : Names) (m : Made) → Keeps b o s m → Keeps (since b m) o s m
begun s m k = record {
  count = k.count;
  back = λ here. here;
  functions = k.functions;
  declared = k.declared;
  noted = k.noted;
}

-- so in a function
pub inside : {b : Base} (f : FnId) (s : Names) (m : Made) → Keeps b None s m → Keeps (since b m) (Some f) s m
inside {b} f s m k = record {
  count = k.count;
  back = λ here. here;
  functions = k.functions;
  declared = λ here. all_more _ _ (fits_inside f.0 b.cells) s.declared (k.declared here);
  noted = k.noted;
}

-- a part goes on from what was before it
pub resumed : {X : Type 0} {b : Base} {o p : Option FnId} (s : Names) (m : Made) (v : Went X) → Keeps b o s m → Leaves (since b m) p v → Leaves b p v
resumed s m v k h = record {
  count = h.count;
  back = λ here. k.back (h.back here);
  functions = h.functions;
  declared = h.declared;
  noted = h.noted;
}

-- so does a part whose names are its own
pub left : {X : Type 0} {b : Base} {o p : Option FnId} (s : Names) (m : Made) (v : Went X) → Keeps b o s m → Leaves (since b m) p v → Keeps b o s v.made
left s m v k h = record {
  count = h.count;
  back = λ here. k.back (h.back here);
  functions = λ here. k.functions (h.back here);
  declared = λ here. k.declared (h.back here);
  noted = h.noted;
}

-- ---- single steps

typed_keeps : {b : Base} {o : Option FnId} (s : Names) (m : Made) (bad : Breaches) (g : Gave Expr) → Keeps b o s m → Leaves b o (walk.typed s m bad g)
typed_keeps s m bad (gave e sites) k = k

pub value_keeps : {b : Base} {o : Option FnId} (point : PointId) (place : Place) (e : Ast) (s : Names) (m : Made) → Keeps b o s m → Leaves b o (walk.value_of point place e s m)
unfolding walk.value_of
value_keeps point place e s m k = typed_keeps s m ((meaning e).faults s.env place) ((meaning e).value s.env point place m.sites) k

pub aside_keeps : {b : Base} {o : Option FnId} (place : Place) (e : Ast) (s : Names) (m : Made) → Keeps b o s m → Leaves b o (walk.aside place e s m)
unfolding walk.aside
aside_keeps place e s m k = k

pub new_point_keeps : {b : Base} {o : Option FnId} (owner : FnId) (line : Line) (s : Names) (m : Made) → Keeps b o s m → Leaves b o (walk.new_point owner line s m)
unfolding walk.new_point
new_point_keeps owner line s m k = k

pub allocate_keeps : {b : Base} {o : Option FnId} (x : Allocated) (s : Names) (m : Made) → Keeps b o s m → Leaves b o (walk.allocate x s m)
unfolding walk.allocate
allocate_keeps {b} x s m k =
    let e = ap length (shapes_more m.objects x) in
    let a = length-append (shapes m.objects) (replicate x.length (shape_for x)) in
    let n = length-replicate x.length (shape_for x) in
    let c = k.count in
    let before = here_before b.cells m.objects x in
    record {
      count = omega (arith, e, a, n, c);
      back = λ here. k.back (before here);
      functions = λ here. k.functions (before here);
      declared = λ here. k.declared (before here);
      noted = λ here. k.noted (before here);
    }

put_has : (cells : List CellInfo) (is : Bool) (entry o : Option Entry) → EntryHas cells entry → EntryHas cells o → EntryHas cells (cond is entry o)
put_has cells true entry o new old = new
put_has cells false entry o new old = old

pub name_is_keeps : {b : Base} {o : Option FnId} (x : List ℕ) (entry : Entry) (s : Names) (m : Made) → (Here b.cells m.objects → EntryHas b.cells (Some entry)) → Keeps b o s m → Leaves b o (walk.name_is x entry s m)
unfolding walk.name_is
name_is_keeps {b} x entry s m has k = record {
  count = k.count;
  back = k.back;
  functions = λ here y. put_has b.cells (bytes_eq x y) (Some entry) (s.env y) (has here) (k.functions here y);
  declared = k.declared;
  noted = k.noted;
}

pub in_scope_keeps : {b : Base} {o : Option FnId} (x : InScope) (s : Names) (m : Made) → (Here b.cells m.objects → object_fits (number_of o) b.cells x ≡ true) → Keeps b o s m → Leaves b o (walk.in_scope x s m)
unfolding walk.in_scope
in_scope_keeps x s m fits k = record {
  count = k.count;
  back = k.back;
  functions = k.functions;
  declared = λ here. and_from _ _ (fits here) (k.declared here);
  noted = k.noted;
}

-- an object that is allocated and then in scope
pub object_keeps : {b : Base} {o : Option FnId} (new : Allocated) (x : List ℕ) (size : Option ℕ) (s : Names) (m : Made) → new.length ≡ cell_count size → 0 < new.length → is_shown_to (number_of o) new.owner ≡ true → Keeps b o s m → Leaves b o (walk.in_scope (record { name = x; first = (walk.allocate new s m).value; length = size }) (walk.allocate new s m).names (walk.allocate new s m).made)
unfolding walk.allocate
object_keeps {b} {o} new x size s m is some shown k =
    let a = walk.allocate new s m in
    in_scope_keeps _ a.names a.made
    (λ here. placed_fits (number_of o) b.cells new x m.cells size is some shown (has_its_cells b.cells m.objects new m.cells k.count here))
    (allocate_keeps new s m k)

pub new_note_keeps : {b : Base} {o : Option FnId} (at : Spot) (before : List InScope) (s : Names) (m : Made) → (Here b.cells m.objects → list_all (object_fits (number_of o) b.cells) before ≡ true) → Keeps b o s m → Leaves b o (walk.new_note o at before s m)
unfolding walk.new_note NotesFit note_fits
new_note_keeps {b} {o} at before s m fit k =
    let fits = object_fits (number_of o) b.cells in
    record {
      count = k.count;
      back = k.back;
      functions = k.functions;
      declared = k.declared;
      noted = λ here.
          list_all-append (note_fits b.cells) m.notes _
          ∙ and_from _ _ (k.noted here) (and_from _ _ (and_from _ _ (nameable_all fits s.declared (k.declared here)) (nameable_all fits before (fit here))) refl);
    }
