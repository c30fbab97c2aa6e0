-- What cells have at the start is of their types.
use Rattle.std.proofs.Common.{◌≡◌, ◌∙◌, ◌<◌, ◌≤◌, ◌+◌, ℕ, zero, suc, ℤ, pos, negsuc, int_le, Bool, true, false, cond, List, [], ◌∷◌, ◌++◌, length, take, drop, map, replicate, slice_get, slice_set, Option, Some, None, refl, ap, sym, subst, arith}
use Rattle.std.proofs.lemmas.Bool.{and_parts, and_from}
use Rattle.std.proofs.lemmas.Int.{ints}
use Rattle.std.proofs.lemmas.List.{length-take, map-append}
use Rattle.std.proofs.lemmas.List.Folds.{list_all-append}
use Rattle.std.proofs.lemmas.Option.{slice_get-map}
use Rattle.std.specs.List.{list_all}
use Rattle.std.specs.Option.{option_map}
use Rattle.fc_base.specs.declared.ids.FnId.{FnId}
use Rattle.machine_ints.specs.Convert.{bool_of}
use Rattle.machine_ints.proofs.Results.{wrap_within}
use Rattle.c_ast.specs.declared.expr.Expr.{Expr}
use Rattle.c_ast.specs.declared.stmt.Init.{Init}
use Rattle.c_ast.specs.declared.stmt.Init.TheVariants as I
use Rattle.c_ir.specs.Formed.{Layout, in_range, cell_is, cells_are, cell_passes, cells_pass, is_read_as, on_some}
use Rattle.c_ir.specs.Types.{least, greatest, width, same_type}
use Rattle.c_ir.specs.declared.ty.IntType.{IntType}
use Rattle.c_ir.specs.declared.ty.IntType.TheVariants as T
use Rattle.c_ir.specs.declared.tree.CellInfo.{CellInfo}
use Rattle.c_rules.specs.Breaches.{Env}
use Rattle.c_rules.specs.Constants as number
use Rattle.c_rules.specs.Fits.{object_fits}
use Rattle.c_rules.specs.declared.scope.Object.{Object}
use Rattle.c_rules.proofs.Evaluations.{is_type}
use Rattle.c_rules.proofs.Formed.{same_is}
use Rattle.c_typing.specs.ConstantValues.{constant_value}
use Rattle.c_typing.specs.Declarations.{cell_count}
use Rattle.c_typing.specs.FileScope.{or_zero, start_values, start_of}
use Rattle.c_types.specs.Programs.{cell_of, cells_of, changed, changed_by, starts_at, is_constant, with_values, with_starts, with_constants, start_for}
use Rattle.c_typing.specs.declared.file.Start.{Start}
use Rattle.c_typing.specs.declared.walk.Allocated.{Allocated}
use Rattle.c_ir.specs.Keeps.{start_in_range, start_fits}
use Rattle.c_types.proofs.Lookups.{some_is, no_element}
use Rattle.c_types.proofs.Shapes.{Shape, shape, shape_for, shapes}

-- ---- numbers of a type

zero_in_range : (ty : IntType) → in_range ty (pos 0) ≡ true
unfolding in_range
zero_in_range T.Bool = refl
zero_in_range T.Char = refl
zero_in_range T.SignedChar = refl
zero_in_range T.UnsignedChar = refl
zero_in_range T.Short = refl
zero_in_range T.UnsignedShort = refl
zero_in_range T.Int = refl
zero_in_range T.UnsignedInt = refl
zero_in_range T.Long = refl
zero_in_range T.UnsignedLong = refl
zero_in_range T.LongLong = refl
zero_in_range T.UnsignedLongLong = refl

truth_in_range : (ty : IntType) (v : ℤ) → same_type ty T.Bool ≡ true → in_range ty (bool_of v) ≡ true
unfolding in_range
truth_in_range ty v is = subst (λ (t : IntType). in_range t (bool_of v) ≡ true) (sym (same_is ty T.Bool is)) (of_bool v)
  where
    of_bool : (v : ℤ) → in_range T.Bool (bool_of v) ≡ true
    of_bool (pos zero) = refl
    of_bool (pos (suc n)) = refl
    of_bool (negsuc n) = refl

brought_in_range : (ty : IntType) (v : ℤ) → in_range ty (number.brought ty v) ≡ true
unfolding in_range
brought_in_range ty v =
    let h = wrap_within (least ty) (pos (greatest ty)) (width ty) (is_type ty) v in
    let z = number.brought ty v in
    let low = h.0 in
    let high = h.1 in
    and_from (int_le (least ty) z) (int_le z (pos (greatest ty))) (sym (omega (arith, ints))) (sym (omega (arith, ints)))

converted_by : (b : Bool) (ty : IntType) (v : ℤ) → same_type ty T.Bool ≡ b → in_range ty (cond b (bool_of v) (number.brought ty v)) ≡ true
converted_by true ty v is = truth_in_range ty v is
converted_by false ty v is = brought_in_range ty v

started_in_range : (ty : IntType) (o : Option ℤ) → in_range ty (or_zero ty o) ≡ true
started_in_range ty None = zero_in_range ty
started_in_range ty (Some v) = converted_by (same_type ty T.Bool) ty v refl

-- ---- values for cells

-- values for the first of cells of this type
pub record AreStarts (ty : IntType) (n : ℕ) (vs : List ℤ) : Type 0 where
  pub few : length vs ≤ n
  pub all : list_all (in_range ty) vs ≡ true

values_in_range : (ty : IntType) (env : Env) (es : List Expr) → list_all (in_range ty) (start_values ty env es) ≡ true
values_in_range ty env [] = refl
values_in_range ty env (e ∷ es) = and_from _ _ (started_in_range ty (constant_value env e)) (values_in_range ty env es)

count_values : (ty : IntType) (env : Env) (es : List Expr) → length (start_values ty env es) ≡ length es
count_values ty env [] = refl
count_values ty env (e ∷ es) = ap suc (count_values ty env es)

pub are_starts : (ty : IntType) (env : Env) (size : Option ℕ) (v : Init) → AreStarts ty (cell_count size) (start_of ty env size v)
are_starts ty env size I.Nothing = record { few = omega arith; all = refl }
are_starts ty env None (I.One e) =
    record { few = omega arith; all = and_from _ _ (started_in_range ty (constant_value env e)) refl }
are_starts ty env (Some n) (I.One e) = record { few = omega arith; all = refl }
are_starts ty env size (I.Many es) =
    let some = take (cell_count size) es in
    record {
      few = let a = count_values ty env some in let b = length-take (cell_count size) es in omega (arith, a, b);
      all = values_in_range ty env some;
    }

-- ---- the cells of a program

-- the values are of the types of the cells from the first on, as far as these are there
abbrev pub ValuesFit : List Shape → ℕ → List ℤ → Type 0
ValuesFit ss first [] = Unit {0}
ValuesFit ss first (v ∷ vs) = ((s : Shape) → slice_get ss first ≡ Some s → in_range s.ty v ≡ true) × ValuesFit ss (first + 1) vs

abbrev pub StartsFit : List Shape → List Start → Type 0
StartsFit ss [] = Unit {0}
StartsFit ss (x ∷ xs) = ValuesFit ss x.first x.values × StartsFit ss xs

pub one_start_more : (ss : List Shape) (xs : List Start) (x : Start) → StartsFit ss xs → ValuesFit ss x.first x.values → StartsFit ss (xs ++ x ∷ [])
one_start_more ss [] x h fit = (fit, tt)
one_start_more ss (y ∷ xs) x h fit = (h.0, one_start_more ss xs x h.1 fit)

-- an element of a part of a list
taken : (p : CellInfo → Bool) (cells : List CellInfo) (k n i j : ℕ) (c : CellInfo) → list_all p (take n (drop k cells)) ≡ true → i < n → j ≡ k + i → slice_get cells j ≡ Some c → p c ≡ true
taken p [] k n i j c all less is got = no_element c got
taken p (x ∷ cells) (suc k) n i zero c all less is got = absurd (omega (arith, is))
taken p (x ∷ cells) (suc k) n i (suc j) c all less is got = taken p cells k n i j c all less (omega (arith, is)) got
taken p (x ∷ cells) zero zero i j c all less is got = absurd (omega (arith, less))
taken p (x ∷ cells) zero (suc n) i zero c all less is got =
    ap p (sym (some_is x c got)) ∙ (and_parts _ _ all).0
taken p (x ∷ cells) zero (suc n) zero (suc j) c all less is got = absurd (omega (arith, is))
taken p (x ∷ cells) zero (suc n) (suc i) (suc j) c all less is got =
    taken p cells zero n i j c (and_parts _ _ all).1 (omega (arith, less)) (omega (arith, is)) got

shape_at : (cells : List CellInfo) (n : ℕ) (s : Shape) → slice_get (map shape cells) n ≡ Some s → (c : CellInfo) × (slice_get cells n ≡ Some c) × (shape c ≡ s)
shape_at [] n s is = no_element s is
shape_at (c ∷ cells) zero s is = (c, refl, some_is (shape c) s is)
shape_at (c ∷ cells) (suc n) s is = shape_at cells n s is

-- all cells of an object are of its type
abbrev AreOf : List CellInfo → ℕ → ℕ → IntType → Type 0
AreOf cells first n ty = (i : ℕ) (c : CellInfo) → i < n → slice_get cells (first + i) ≡ Some c → c.ty ≡ ty

one_of : (cells : List CellInfo) (first : ℕ) (ty : IntType) (checked : Bool) → cell_is (is_read_as ty checked) cells first ≡ true → AreOf cells first 1 ty
unfolding cell_passes
one_of cells first ty checked is i c less got =
    let same : first + i ≡ first = omega (arith, less) in
    let here = subst (λ (n : ℕ). slice_get cells n ≡ Some c) same got in
    let passes = sym (ap (on_some (is_read_as ty checked)) here) ∙ (and_parts _ _ is).1 in
    same_is c.ty ty (and_parts _ _ passes).0

row_of : (cells : List CellInfo) (first n : ℕ) (ty : IntType) (checked : Bool) → cells_are (is_read_as ty checked) cells first n ≡ true → AreOf cells first n ty
unfolding cells_pass
row_of cells first n ty checked is i c less got =
    let passes = taken (is_read_as ty checked) cells first n i (first + i) c (and_parts _ _ is).1 less refl got in
    same_is c.ty ty (and_parts _ _ passes).0

object_of : (l : Layout) (o : Object) (size : Option ℕ) → object_fits l o size ≡ true → AreOf l.cells o.first (cell_count size) o.ty
object_of l o None is = one_of l.cells o.first o.ty o.checked is
object_of l o (Some n) is = row_of l.cells o.first n o.ty o.checked is

values_for : (cells : List CellInfo) (ty : IntType) (n first : ℕ) (vs : List ℤ) → AreOf cells first n ty → length vs ≤ n → list_all (in_range ty) vs ≡ true → ValuesFit (map shape cells) first vs
values_for cells ty n first [] are few all = tt
values_for cells ty zero first (v ∷ vs) are few all = absurd (omega (arith, few))
values_for cells ty (suc n) first (v ∷ vs) are few all =
    let parts = and_parts _ _ all in (
      λ s got.
          let c = shape_at cells first s got in
          let here = subst (λ (k : ℕ). slice_get cells k ≡ Some c.0) (omega arith) c.1 in
          subst (λ (t : IntType). in_range t v ≡ true) (sym (ap (λ (x : Shape). x.ty) (sym c.2) ∙ are 0 c.0 (omega arith) here)) parts.0,
      values_for cells ty n (first + 1) vs (λ i c less got. are (i + 1) c (omega (arith, less)) (subst (λ (k : ℕ). slice_get cells k ≡ Some c) (omega arith) got)) (omega (arith, few)) parts.1,
    )

-- the values of an object that fits
pub object_starts : (l : Layout) (o : Object) (size : Option ℕ) (vs : List ℤ) → object_fits l o size ≡ true → AreStarts o.ty (cell_count size) vs → ValuesFit (map shape l.cells) o.first vs
object_starts l o size vs fits h = values_for l.cells o.ty (cell_count size) o.first vs (object_of l o size fits) h.few h.all

-- ---- the cells of a program

set_shape : (f : CellInfo → CellInfo) → ((c : CellInfo) → shape (f c) ≡ shape c) → (cells : List CellInfo) (n : ℕ) (c : CellInfo) → slice_get cells n ≡ Some c → map shape (slice_set cells n (f c)) ≡ map shape cells
set_shape f same [] n c is = refl
set_shape f same (x ∷ cells) zero c is = ap (λ (s : Shape). s ∷ map shape cells) (same c ∙ ap shape (sym (some_is x c is)))
set_shape f same (x ∷ cells) (suc n) c is = ap (λ (ss : List Shape). shape x ∷ ss) (set_shape f same cells n c is)

set_all : (p : CellInfo → Bool) (cells : List CellInfo) (n : ℕ) (y : CellInfo) → list_all p cells ≡ true → p y ≡ true → list_all p (slice_set cells n y) ≡ true
set_all p [] n y all is = all
set_all p (x ∷ cells) zero y all is = and_from _ _ is (and_parts _ _ all).1
set_all p (x ∷ cells) (suc n) y all is =
    let parts = and_parts _ _ all in and_from _ _ parts.0 (set_all p cells n y parts.1 is)

all_get : (p : CellInfo → Bool) (cells : List CellInfo) (n : ℕ) (c : CellInfo) → list_all p cells ≡ true → slice_get cells n ≡ Some c → p c ≡ true
all_get p [] n c all is = no_element c is
all_get p (x ∷ cells) zero c all is = ap p (sym (some_is x c is)) ∙ (and_parts _ _ all).0
all_get p (x ∷ cells) (suc n) c all is = all_get p cells n c (and_parts _ _ all).1 is

by_shaped : (f : CellInfo → CellInfo) → ((c : CellInfo) → shape (f c) ≡ shape c) → (n : ℕ) (cells : List CellInfo) (o : Option CellInfo) → slice_get cells n ≡ o → map shape (changed_by f n cells o) ≡ map shape cells
by_shaped f same n cells None is = refl
by_shaped f same n cells (Some c) is = set_shape f same cells n c is

changed_shaped : (f : CellInfo → CellInfo) → ((c : CellInfo) → shape (f c) ≡ shape c) → (n : ℕ) (cells : List CellInfo) → map shape (changed f n cells) ≡ map shape cells
unfolding changed
changed_shaped f same n cells = by_shaped f same n cells (slice_get cells n) refl

values_shaped : (first : ℕ) (vs : List ℤ) (cells : List CellInfo) → map shape (with_values first vs cells) ≡ map shape cells
values_shaped first [] cells = refl
values_shaped first (v ∷ vs) cells = values_shaped (first + 1) vs _ ∙ changed_shaped (starts_at v) (λ c. refl) first cells

starts_shaped : (xs : List Start) (cells : List CellInfo) → map shape (with_starts xs cells) ≡ map shape cells
starts_shaped [] cells = refl
starts_shaped (x ∷ xs) cells = starts_shaped xs _ ∙ values_shaped x.first x.values cells

constants_shaped : (cs : List ℕ) (cells : List CellInfo) → map shape (with_constants cs cells) ≡ map shape cells
constants_shaped [] cells = refl
constants_shaped (c ∷ cs) cells = constants_shaped cs _ ∙ changed_shaped is_constant (λ c. refl) c cells

row_shape : (n : ℕ) (c : CellInfo) → map shape (replicate n c) ≡ replicate n (shape c)
row_shape zero c = refl
row_shape (suc n) c = ap (λ (ss : List Shape). shape c ∷ ss) (row_shape n c)

made_shaped : (os : List Allocated) → map shape (cells_of os) ≡ shapes os
made_shaped [] = refl
made_shaped (o ∷ os) =
    map-append shape (replicate o.length (cell_of o)) (cells_of os)
    ∙ ap (λ (ss : List Shape). ss ++ map shape (cells_of os)) (row_shape o.length (cell_of o))
    ∙ ap (λ (ss : List Shape). replicate o.length (shape_for o) ++ ss) (made_shaped os)

-- the shapes of a program's cells are those of the objects
pub shapes_are : (os : List Allocated) (xs : List Start) (cs : List ℕ) → map shape (with_constants cs (with_starts xs (cells_of os))) ≡ shapes os
shapes_are os xs cs = constants_shaped cs _ ∙ starts_shaped xs (cells_of os) ∙ made_shaped os

-- all start with numbers of their types
abbrev AreSet : List CellInfo → Type 0
AreSet cells = list_all start_fits cells ≡ true

by_set : (f : CellInfo → CellInfo) (n : ℕ) (cells : List CellInfo) (o : Option CellInfo) → ((c : CellInfo) → o ≡ Some c → start_fits (f c) ≡ true) → AreSet cells → AreSet (changed_by f n cells o)
by_set f n cells None fits h = h
by_set f n cells (Some c) fits h = set_all start_fits cells n (f c) h (fits c refl)

changed_set : (f : CellInfo → CellInfo) (n : ℕ) (cells : List CellInfo) → ((c : CellInfo) → slice_get cells n ≡ Some c → start_fits (f c) ≡ true) → AreSet cells → AreSet (changed f n cells)
unfolding changed
changed_set f n cells fits h = by_set f n cells (slice_get cells n) fits h

values_set : (ss : List Shape) (first : ℕ) (vs : List ℤ) (cells : List CellInfo) → map shape cells ≡ ss → ValuesFit ss first vs → AreSet cells → AreSet (with_values first vs cells)
values_set ss first [] cells shaped fit h = h
values_set ss first (v ∷ vs) cells shaped fit h =
    values_set ss (first + 1) vs _ (changed_shaped (starts_at v) (λ c. refl) first cells ∙ shaped) fit.1 (changed_set (starts_at v) first cells (λ c got.
    fit.0 (shape c) (ap (λ (xs : List Shape). slice_get xs first) (sym shaped) ∙ slice_get-map shape cells first ∙ ap (option_map shape) got)) h)

starts_set : (ss : List Shape) (xs : List Start) (cells : List CellInfo) → map shape cells ≡ ss → StartsFit ss xs → AreSet cells → AreSet (with_starts xs cells)
starts_set ss [] cells shaped fit h = h
starts_set ss (x ∷ xs) cells shaped fit h =
    starts_set ss xs _ (values_shaped x.first x.values cells ∙ shaped) fit.1 (values_set ss x.first x.values cells shaped fit.0 h)

constants_set : (cs : List ℕ) (cells : List CellInfo) → AreSet cells → AreSet (with_constants cs cells)
constants_set [] cells h = h
constants_set (c ∷ cs) cells h =
    constants_set cs _ (changed_set is_constant c cells (λ x got. all_get start_fits cells c x h got) h)

start_of_owner : (ty : IntType) (owner : Option FnId) → start_in_range ty (start_for owner) ≡ true
start_of_owner ty None = zero_in_range ty
start_of_owner ty (Some f) = refl

row_set : (n : ℕ) (c : CellInfo) → start_fits c ≡ true → AreSet (replicate n c)
row_set zero c is = refl
row_set (suc n) c is = and_from _ _ is (row_set n c is)

made_set : (os : List Allocated) → AreSet (cells_of os)
made_set [] = refl
made_set (o ∷ os) =
    list_all-append start_fits (replicate o.length (cell_of o)) (cells_of os)
    ∙ and_from _ _ (row_set o.length (cell_of o) (start_of_owner o.ty o.owner)) (made_set os)

-- a program's cells start with numbers of their types
pub cells_are_set : (os : List Allocated) (xs : List Start) (cs : List ℕ) → StartsFit (shapes os) xs → list_all start_fits (with_constants cs (with_starts xs (cells_of os))) ≡ true
cells_are_set os xs cs fit = constants_set cs _ (starts_set (shapes os) xs (cells_of os) (made_shaped os) fit (made_set os))
