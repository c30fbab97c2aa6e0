-- What is declared at file scope, where what was made is the beginning of what the program has and nothing is in breach.
use Rattle.std.proofs.Common.{◌≡◌, ◌∙◌, ◌<◌, ◌≤◌, ◌+◌, ◌&&◌, ◌==◌, inl, inr, ℕ, suc, Bool, true, false, not, cond, List, [], ◌∷◌, ◌++◌, length, map, slice_get, Option, Some, None, bytes_eq, refl, ap, sym, subst, arith}
use Rattle.std.proofs.lemmas.Bool.{and_from, lt-ltb, eq-eqb}
use Rattle.std.proofs.lemmas.List.{length-append}
use Rattle.std.proofs.lemmas.Option.{slice_get-map, slice_get_within}
use Rattle.std.proofs.lemmas.Slice.Eq.{bytes_eq-Decides}
use Rattle.std.specs.List.{list_all}
use Rattle.std.specs.Option.{option_map}
use Rattle.fc_base.specs.declared.ids.FnId.{FnId}
use Rattle.c_ir.specs.Formed.{Callee, cell_is, cell_passes, is_read_as, same_bool, on_some}
use Rattle.c_ir.specs.Numbers.{count, stmt_sites_of_all}
use Rattle.c_ir.specs.Types.{same_type}
use Rattle.c_ir.specs.declared.ty.IntType.{IntType}
use Rattle.c_ir.specs.declared.tree.CellInfo.{CellInfo}
use Rattle.c_rules.specs.Breaches.{Env}
use Rattle.c_rules.specs.Fits.{EnvFits, entry_fits, same_types, same_result}
use Rattle.c_rules.specs.declared.scope.Entry.{Entry}
use Rattle.c_rules.specs.declared.scope.Entry.TheVariants as E
use Rattle.c_rules.specs.declared.scope.Signature.{Signature}
use Rattle.c_rules.proofs.Formed.{same_self}
use Rattle.c_typing.specs.FileScope.{Declared}
use Rattle.c_typing.specs.Functions.{cells_from, result_cell, result_types}
use Rattle.c_typing.specs.Walking as walk
use Rattle.c_typing.specs.declared.file.Definition.{Definition}
use Rattle.c_typing.specs.declared.file.Known.{Known}
use Rattle.c_typing.specs.declared.file.Start.{Start}
use Rattle.c_ir.specs.Bodies.{AtEntry, AtExit, is_own, stmts_fit, points_of_body}
use Rattle.c_ir.specs.Keeps.{ty_at, cell_ty, is_set_of, result_fits}
use Rattle.c_types.proofs.Lookups.{no_element, get_more, get_push}
use Rattle.c_types.proofs.Shapes.{Shape, shape, Starts}
use Rattle.c_types.proofs.Starts.{ValuesFit, StartsFit, one_start_more}
use Rattle.c_types.proofs.Steps.{Whole, frame, Begins, named}

-- ---- cells of functions

-- the cell is the function's, of this type, and no read of it is checked
abbrev pub IsCell : List CellInfo → FnId → ℕ → IntType → Type 0
IsCell cells owner n ty =
    (c : CellInfo) × (slice_get cells n ≡ Some c) × (shape c ≡ record { ty = ty; owner = Some owner; checked = false })

-- so are the cells from this one on
abbrev pub CellsAre : List CellInfo → FnId → ℕ → List IntType → Type 0
CellsAre cells owner n [] = Unit {0}
CellsAre cells owner n (ty ∷ tys) = IsCell cells owner n ty × CellsAre cells owner (n + 1) tys

pub cell_at : (p : CellInfo → Bool) (q : Shape → Bool) → ((c : CellInfo) → p c ≡ q (shape c)) → (cells : List CellInfo) (owner : FnId) (n : ℕ) (ty : IntType) → IsCell cells owner n ty → q (record { ty = ty; owner = Some owner; checked = false }) ≡ true → cell_is p cells n ≡ true
unfolding cell_passes
cell_at p q same cells owner n ty h is =
    and_from _ _ (lt-ltb n (length cells) (slice_get_within cells n h.0 h.1)) (ap (on_some p) h.1 ∙ same h.0 ∙ ap q h.2 ∙ is)

set_cell : (cells : List CellInfo) (owner : FnId) (n : ℕ) (ty : IntType) → IsCell cells owner n ty → cell_is (is_set_of owner.0) cells n ≡ true
set_cell cells owner n ty h =
    cell_at (is_set_of owner.0) (λ s. not s.checked && on_some (λ g. g.0 == owner.0) s.owner) (λ c. refl) cells owner n ty h (eq-eqb owner.0 owner.0 refl)

pub read_cell : (cells : List CellInfo) (owner : FnId) (n : ℕ) (ty : IntType) → IsCell cells owner n ty → cell_is (is_read_as ty false) cells n ≡ true
read_cell cells owner n ty h =
    cell_at (is_read_as ty false) (λ s. same_type s.ty ty && same_bool s.checked false) (λ c. refl) cells owner n ty h (and_from _ _ (same_self ty) refl)

cell_type : (cells : List CellInfo) (owner : FnId) (n : ℕ) (ty : IntType) → IsCell cells owner n ty → ty_at cells n ≡ ty
cell_type cells owner n ty h = ap cell_ty h.1 ∙ ap (λ (s : Shape). s.ty) h.2

set_cells : (cells : List CellInfo) (owner : FnId) (n : ℕ) (tys : List IntType) → CellsAre cells owner n tys → list_all (cell_is (is_set_of owner.0) cells) (cells_from n tys) ≡ true
set_cells cells owner n [] h = refl
set_cells cells owner n (ty ∷ tys) h =
    and_from _ _ (set_cell cells owner n ty h.0) (set_cells cells owner (n + 1) tys h.1)

types_at : (cells : List CellInfo) (owner : FnId) (n : ℕ) (tys : List IntType) → CellsAre cells owner n tys → map (ty_at cells) (cells_from n tys) ≡ tys
types_at cells owner n [] h = refl
types_at cells owner n (ty ∷ tys) h =
    ap (λ (t : IntType). t ∷ map (ty_at cells) (cells_from (n + 1) tys)) (cell_type cells owner n ty h.0)
    ∙ ap (λ (ts : List IntType). ty ∷ ts) (types_at cells owner (n + 1) tys h.1)

set_result : (cells : List CellInfo) (owner : FnId) (n : ℕ) (r : Option IntType) → CellsAre cells owner n (result_types r) → result_fits cells owner.0 (result_cell r n) ≡ true
set_result cells owner n None h = refl
set_result cells owner n (Some ty) h = set_cell cells owner n ty h.0

result_at : (cells : List CellInfo) (owner : FnId) (n : ℕ) (r : Option IntType) → CellsAre cells owner n (result_types r) → option_map (ty_at cells) (result_cell r n) ≡ r
result_at cells owner n None h = refl
result_at cells owner n (Some ty) h = ap (λ (t : IntType). Some t) (cell_type cells owner n ty h.0)

-- the cells of a function are those of its formals, from the first on, and that of its result
pub record HasCells (cells : List CellInfo) (owner : FnId) (k : Known) (result : Option IntType) (formals : List IntType) (first : ℕ) : Type 0 where
  pub formals_at : k.formals ≡ cells_from first formals
  pub result_at : k.result ≡ result_cell result (first + length formals)
  pub formal_cells : CellsAre cells owner first formals
  pub result_cells : CellsAre cells owner (first + length formals) (result_types result)

-- what calls see of a function
abbrev pub callee_for : List CellInfo → Known → Callee
callee_for cells k = record { formals = map (ty_at cells) k.formals; result = option_map (ty_at cells) k.result }

module _ (cells : List CellInfo) (owner : FnId) (k : Known) (result : Option IntType) (formals : List IntType) (first : ℕ) (h : HasCells cells owner k result formals first) where
  pub formal_types : map (ty_at cells) k.formals ≡ formals
  formal_types = ap (map (ty_at cells)) h.formals_at ∙ types_at cells owner first formals h.formal_cells

  pub result_type : option_map (ty_at cells) k.result ≡ result
  result_type =
      ap (option_map (ty_at cells)) h.result_at ∙ result_at cells owner (first + length formals) result h.result_cells

  pub formals_set : list_all (cell_is (is_set_of owner.0) cells) k.formals ≡ true
  formals_set =
      ap (list_all (cell_is (is_set_of owner.0) cells)) h.formals_at ∙ set_cells cells owner first formals h.formal_cells

  pub result_set : result_fits cells owner.0 k.result ≡ true
  result_set =
      ap (result_fits cells owner.0) h.result_at ∙ set_result cells owner (first + length formals) result h.result_cells

-- ---- what a program has, with its functions

pub record All : Type 0 where
  pub whole : Whole
  pub functions : List Known
  pub callees : whole.layout.callees ≡ map (callee_for whole.layout.cells) functions

abbrev pub cells_of : All → List CellInfo
cells_of w = w.whole.layout.cells

pub record Opens (w : All) (d : Declared) : Type 0 where
  pub made : Begins w.whole d.made
  pub functions : Starts w.functions d.functions

-- the function is there, under its name
pub record Stands (w : All) (fs : List Known) (x : List ℕ) (g : Signature) : Type 0 where
  pub known : Known
  pub is_known : slice_get fs g.number.0 ≡ Some known
  pub name : known.name ≡ x
  pub cells : HasCells (cells_of w) g.number known g.result g.formals g.first

pub has_function : (w : All) (fs : List Known) (n : ℕ) (k : Known) → Starts w.functions fs → slice_get fs n ≡ Some k → slice_get w.functions n ≡ Some k
has_function w fs n k starts is =
    ap (λ (ks : List Known). slice_get ks n) starts.is ∙ get_more fs starts.more n k is

same_list : (tys : List IntType) → same_types tys tys ≡ true
same_list [] = refl
same_list (ty ∷ tys) = and_from _ _ (same_self ty) (same_list tys)

same_option : (r : Option IntType) → same_result r r ≡ true
same_option None = refl
same_option (Some ty) = same_self ty

-- so what its name stands for fits
pub function_fits : (w : All) (fs : List Known) (x : List ℕ) (g : Signature) → Starts w.functions fs → Stands w fs x g → entry_fits w.whole.layout (Some (E.Function g)) ≡ true
unfolding entry_fits
function_fits w fs x g starts h =
    let k = h.known in
    let l = w.whole.layout in
    let seen = ap (λ (cs : List Callee). slice_get cs g.number.0) w.callees
    ∙ slice_get-map (callee_for l.cells) w.functions g.number.0
    ∙ ap (option_map (callee_for l.cells)) (has_function w fs g.number.0 k starts h.is_known) in
    let formals = formal_types l.cells g.number k g.result g.formals g.first h.cells in
    let result = result_type l.cells g.number k g.result g.formals g.first h.cells in
    ap (on_some (λ (c : Callee). same_types c.formals g.formals && same_result c.result g.result)) seen
    ∙ and_from _ _
    (ap (λ (tys : List IntType). same_types tys g.formals) formals ∙ same_list g.formals)
    (ap (λ (r : Option IntType). same_result r g.result) result ∙ same_option g.result)

pub stands_more : (w : All) (fs more : List Known) (x : List ℕ) (g : Signature) → Stands w fs x g → Stands w (fs ++ more) x g
stands_more w fs more x g h = record {
  known = h.known;
  is_known = get_more fs more g.number.0 h.known h.is_known;
  name = h.name;
  cells = h.cells;
}

-- ---- definitions

-- the definition is that of the function of this number
pub record Sits (w : All) (n : ℕ) (b : Definition) : Type 0 where
  pub typed : (k : Known) → slice_get w.functions n ≡ Some k → stmts_fit (frame w.whole n (option_map (ty_at (cells_of w)) k.result)) false b.body ≡ true
  pub entry : is_own (frame w.whole n None) AtEntry b.entry ≡ true
  pub exit : is_own (frame w.whole n None) AtExit b.exit ≡ true
  pub points : count b.entry.0 (points_of_body b.entry b.body b.exit) ≡ Some (suc b.exit.0)
  pub first_site : ℕ
  pub end_site : ℕ
  pub sites : count first_site (stmt_sites_of_all b.body) ≡ Some end_site

-- the point is one of a definition
pub record PointOf (ds : List (Option Definition)) (q : ℕ) : Type 0 where
  pub number : ℕ
  pub definition : Definition
  pub is_definition : slice_get ds number ≡ Some (Some definition)
  pub from : definition.entry.0 ≤ q
  pub to : q ≤ definition.exit.0

-- so is the operator
pub record SiteOf (ds : List (Option Definition)) (i : ℕ) : Type 0 where
  pub number : ℕ
  pub definition : Definition
  pub is_definition : slice_get ds number ≡ Some (Some definition)
  pub first_site : ℕ
  pub end_site : ℕ
  pub sites : count first_site (stmt_sites_of_all definition.body) ≡ Some end_site
  pub from : first_site ≤ i
  pub to : i < end_site

-- definitions that are there stay there
abbrev pub Stay : List (Option Definition) → List (Option Definition) → Type 0
Stay ds es = (n : ℕ) (b : Definition) → slice_get ds n ≡ Some (Some b) → slice_get es n ≡ Some (Some b)

pub point_stays : (ds es : List (Option Definition)) (q : ℕ) → Stay ds es → PointOf ds q → PointOf es q
point_stays ds es q stay h = record {
  number = h.number;
  definition = h.definition;
  is_definition = stay h.number h.definition h.is_definition;
  from = h.from;
  to = h.to;
}

pub site_stays : (ds es : List (Option Definition)) (i : ℕ) → Stay ds es → SiteOf ds i → SiteOf es i
site_stays ds es i stay h = record {
  number = h.number;
  definition = h.definition;
  is_definition = stay h.number h.definition h.is_definition;
  first_site = h.first_site;
  end_site = h.end_site;
  sites = h.sites;
  from = h.from;
  to = h.to;
}

-- ---- what holds of all that is declared so far

-- a function under its name is there, and has no definition where it isn't defined
abbrev pub EntryStands : All → List Known → List (Option Definition) → List ℕ → Option Entry → Type 0
EntryStands w fs ds x None = Unit {0}
EntryStands w fs ds x (Some (E.Object o)) = Unit {0}
EntryStands w fs ds x (Some (E.Function g)) = Stands w fs x g × (g.defined ≡ false → slice_get ds g.number.0 ≡ Some None)

pub record FunctionCells (w : All) (n : ℕ) (k : Known) : Type 0 where
  pub result : Option IntType
  pub formals : List IntType
  pub first : ℕ
  pub cells : HasCells (cells_of w) (record { 0 = n }) k result formals first

-- of names, with so many points and sites, functions, definitions and starts
pub record Sound (w : All) (env : Env) (points_made sites_made : ℕ) (fs : List Known) (ds : List (Option Definition)) (xs : List Start) : Type 0 where
  pub fits : EnvFits w.whole.layout env
  pub names : (x : List ℕ) → EntryStands w fs ds x (env x)
  pub paired : length fs ≡ length ds
  pub functions : (n : ℕ) (k : Known) → slice_get fs n ≡ Some k → FunctionCells w n k
  pub definitions : (n : ℕ) (b : Definition) → slice_get ds n ≡ Some (Some b) → Sits w n b
  pub points : (q : ℕ) → q < points_made → PointOf ds q
  pub sites : (i : ℕ) → i < sites_made → SiteOf ds i
  pub starts : StartsFit (map shape (cells_of w)) xs

abbrev pub SoundAt : All → Declared → Type 0
SoundAt w d = Sound w d.names.env (length d.made.points) (length d.made.sites) d.functions d.definitions d.starts

-- ---- changes

entry_put : (w : All) (fs : List Known) (ds : List (Option Definition)) (x y : List ℕ) (entry : Entry) (env : Env) (b : Bool) → bytes_eq x y ≡ b → EntryStands w fs ds x (Some entry) → EntryStands w fs ds y (env y) → EntryStands w fs ds y (cond b (Some entry) (env y))
entry_put w fs ds x y entry env true is here there =
    subst (λ (z : List ℕ). EntryStands w fs ds z (Some entry)) ((bytes_eq-Decides x y).0 is) here
entry_put w fs ds x y entry env false is here there = there

-- a name stands for something else
pub sound_named : (w : All) (env : Env) (np ns : ℕ) (fs : List Known) (ds : List (Option Definition)) (xs : List Start) (x : List ℕ) (entry : Entry) → entry_fits w.whole.layout (Some entry) ≡ true → EntryStands w fs ds x (Some entry) → Sound w env np ns fs ds xs → Sound w (walk.put x (Some entry) env) np ns fs ds xs
sound_named w env np ns fs ds xs x entry fit here h = record {
  fits = named w.whole.layout x (Some entry) env fit h.fits;
  names = λ y. entry_put w fs ds x y entry env (bytes_eq x y) refl here (h.names y);
  paired = h.paired;
  functions = h.functions;
  definitions = h.definitions;
  points = h.points;
  sites = h.sites;
  starts = h.starts;
}

entry_more : (w : All) (fs : List Known) (ds : List (Option Definition)) (k : Known) (x : List ℕ) (o : Option Entry) → EntryStands w fs ds x o → EntryStands w (fs ++ k ∷ []) (ds ++ None ∷ []) x o
entry_more w fs ds k x None h = tt
entry_more w fs ds k x (Some (E.Object o)) h = tt
entry_more w fs ds k x (Some (E.Function g)) h =
    (stands_more w fs (k ∷ []) x g h.0, λ undefined. get_more ds (None ∷ []) g.number.0 None (h.1 undefined))

-- a function more
pub sound_more : (w : All) (env : Env) (np ns : ℕ) (fs : List Known) (ds : List (Option Definition)) (xs : List Start) (k : Known) → FunctionCells w (length fs) k → Sound w env np ns fs ds xs → Sound w env np ns (fs ++ k ∷ []) (ds ++ None ∷ []) xs
sound_more w env np ns fs ds xs k new h =
    let stay : Stay ds (ds ++ None ∷ []) = λ n b is. get_more ds (None ∷ []) n (Some b) is in
    record {
      fits = h.fits;
      names = λ x. entry_more w fs ds k x (env x) (h.names x);
      paired = let i = h.paired in omega (arith, i, length-append fs (k ∷ []), length-append ds (None ∷ []));
      functions = λ n f is. elim (get_push fs k n f is) [
        | inl old ↦ h.functions n f old
        | inr last ↦ subst (λ (i : ℕ). FunctionCells w i f) (sym last.0) (subst (λ (z : Known). FunctionCells w (length fs) z) last.1 new)
      ];
      definitions = λ n b is. elim (get_push ds None n (Some b) is) [
        | inl old ↦ h.definitions n b old
        | inr last ↦ no_element b last.1
      ];
      points = λ q less. point_stays ds (ds ++ None ∷ []) q stay (h.points q less);
      sites = λ i less. site_stays ds (ds ++ None ∷ []) i stay (h.sites i less);
      starts = h.starts;
    }

-- values of an object more
pub sound_started : (w : All) (env : Env) (np ns : ℕ) (fs : List Known) (ds : List (Option Definition)) (xs : List Start) (x : Start) → ValuesFit (map shape (cells_of w)) x.first x.values → Sound w env np ns fs ds xs → Sound w env np ns fs ds (xs ++ x ∷ [])
sound_started w env np ns fs ds xs x fit h = record {
  fits = h.fits;
  names = h.names;
  paired = h.paired;
  functions = h.functions;
  definitions = h.definitions;
  points = h.points;
  sites = h.sites;
  starts = one_start_more (map shape (cells_of w)) xs x h.starts fit;
}
