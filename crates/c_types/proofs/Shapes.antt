-- The cells of objects: each has the type, the owner and the check of its object.
use Rattle.std.proofs.Common.{◌≡◌, ◌∙◌, ◌<◌, ◌≤◌, ◌+◌, ◌&&◌, ℕ, zero, suc, Bool, true, List, [], ◌∷◌, ◌++◌, length, take, drop, map, slice_get, Option, Some, None, is_some, unwrap_or, refl, ap, sym, append_assoc, arith, replicate}
use Rattle.std.proofs.lemmas.Bool.{and_from, lt-ltb, le-leb, true≢false}
use Rattle.std.proofs.lemmas.List.{append-nil, length-append, length-replicate, take-map, drop-map}
use Rattle.std.proofs.lemmas.Option.{slice_get-map}
use Rattle.std.proofs.Math.Seq.{drop-append_seam, take-append_seam}
use Rattle.std.proofs.Math.ListN.{length-map}
use Rattle.std.specs.List.{list_all}
use Rattle.std.specs.Option.{option_map}
use Rattle.fc_base.specs.declared.ids.FnId.{FnId}
use Rattle.c_ir.specs.declared.ty.IntType.{IntType}
use Rattle.c_ir.specs.declared.tree.CellInfo.{CellInfo}
use Rattle.c_ir.specs.Formed.{cells_are, cells_pass}
use Rattle.c_typing.specs.declared.walk.Allocated.{Allocated}

-- what trees and functions see of a cell
pub record Shape : Type 0 where
  pub ty : IntType
  pub owner : Option FnId
  pub checked : Bool

abbrev pub shape : CellInfo → Shape
shape c = record { ty = c.ty; owner = c.owner; checked = c.checked }

abbrev pub shape_for : Allocated → Shape
shape_for o = record { ty = o.ty; owner = o.owner; checked = o.checked }

abbrev pub shapes : List Allocated → List Shape
shapes [] = []
shapes (o ∷ os) = replicate o.length (shape_for o) ++ shapes os

-- ---- lists that begin with others

pub record Starts {A : Type 0} (all some : List A) : Type 0 where
  pub more : List A
  pub is : all ≡ some ++ more

pub starts_less : {A : Type 0} (all xs ys : List A) → Starts all (xs ++ ys) → Starts all xs
starts_less all xs ys e = record { more = ys ++ e.more; is = e.is ∙ append_assoc xs ys e.more }

pub starts_as : {A : Type 0} (all xs ys : List A) → xs ≡ ys → Starts all xs → Starts all ys
starts_as all xs ys is e = record { more = e.more; is = e.is ∙ ap (λ (zs : List _). zs ++ e.more) is }

pub at_end : {A : Type 0} (xs : List A) (y : A) (more : List A) → slice_get ((xs ++ y ∷ []) ++ more) (length xs) ≡ Some y
at_end [] y more = refl
at_end (x ∷ xs) y more = at_end xs y more

pub shapes_more : (os : List Allocated) (o : Allocated) → shapes (os ++ o ∷ []) ≡ shapes os ++ replicate o.length (shape_for o)
shapes_more [] o = append-nil (replicate o.length (shape_for o))
shapes_more (p ∷ os) o =
    ap (λ (ss : List Shape). replicate p.length (shape_for p) ++ ss) (shapes_more os o)
    ∙ sym (append_assoc (replicate p.length (shape_for p)) (shapes os) (replicate o.length (shape_for o)))

-- ---- the cells of an object

all_of_one : (q : Shape → Bool) (n : ℕ) (s : Shape) → q s ≡ true → list_all q (replicate n s) ≡ true
all_of_one q zero s is = refl
all_of_one q (suc n) s is = and_from _ _ is (all_of_one q n s is)

all_mapped : (p : CellInfo → Bool) (q : Shape → Bool) → ((c : CellInfo) → p c ≡ q (shape c)) → (cs : List CellInfo) → list_all p cs ≡ list_all q (map shape cs)
all_mapped p q same [] = refl
all_mapped p q same (c ∷ cs) =
    ap (λ (b : Bool). b && list_all p cs) (same c) ∙ ap (λ (b : Bool). q (shape c) && b) (all_mapped p q same cs)

part_of : (cells : List CellInfo) (before : List Shape) (n : ℕ) (s : Shape) (more : List Shape) → map shape cells ≡ (before ++ replicate n s) ++ more → map shape (take n (drop (length before) cells)) ≡ replicate n s
part_of cells before n s more is =
    sym (take-map shape n (drop (length before) cells))
    ∙ ap (take n) (sym (drop-map shape (length before) cells)
    ∙ ap (drop (length before)) (is ∙ append_assoc before (replicate n s) more)
    ∙ drop-append_seam before (replicate n s ++ more))
    ∙ ap (λ (k : ℕ). take k (replicate n s ++ more)) (sym (length-replicate n s))
    ∙ take-append_seam (replicate n s) more

count_of : (cells : List CellInfo) (before : List Shape) (n : ℕ) (s : Shape) (more : List Shape) → map shape cells ≡ (before ++ replicate n s) ++ more → length before + n ≤ length cells
count_of cells before n s more is =
    let e = ap length is in
    let l = length-map cells shape in
    let a = length-append (before ++ replicate n s) more in
    let b = length-append before (replicate n s) in
    let c = length-replicate n s in
    omega (arith, e, l, a, b, c)

-- a test that sees the shape alone
pub row_passes : (p : CellInfo → Bool) (q : Shape → Bool) → ((c : CellInfo) → p c ≡ q (shape c)) → (cells : List CellInfo) (before : List Shape) (n : ℕ) (s : Shape) → Starts (map shape cells) (before ++ replicate n s) → 0 < n → q s ≡ true → cells_are p cells (length before) n ≡ true
unfolding cells_pass
row_passes p q same cells before n s starts some is =
    and_from _ _
    (and_from _ _ (lt-ltb 0 n some) (le-leb (length before + n) (length cells) (count_of cells before n s starts.more starts.is)))
    (all_mapped p q same (take n (drop (length before) cells))
    ∙ ap (list_all q) (part_of cells before n s starts.more starts.is)
    ∙ all_of_one q n s is)

at_seam : {A : Type 0} (xs : List A) (y : A) (ys more : List A) → slice_get ((xs ++ y ∷ ys) ++ more) (length xs) ≡ Some y
at_seam [] y ys more = refl
at_seam (x ∷ xs) y ys more = at_seam xs y ys more

mapped_some : (o : Option CellInfo) (s : Shape) → option_map shape o ≡ Some s → (c : CellInfo) × (o ≡ Some c) × (shape c ≡ s)
mapped_some None s is = absurd (true≢false (sym (ap is_some is)))
mapped_some (Some c) s is = (c, refl, ap (λ (x : Option Shape). unwrap_or x s) is)

-- the first cell of an object
pub first_cell : (cells : List CellInfo) (before : List Shape) (n : ℕ) (s : Shape) → Starts (map shape cells) (before ++ replicate n s) → 0 < n → (c : CellInfo) × (slice_get cells (length before) ≡ Some c) × (shape c ≡ s)
first_cell cells before zero s starts some = absurd (omega (arith, some))
first_cell cells before (suc n) s starts some =
    mapped_some (slice_get cells (length before)) s
    (sym (slice_get-map shape cells (length before)) ∙ ap (λ (ss : List Shape). slice_get ss (length before)) starts.is
    ∙ at_seam before s (replicate n s) starts.more)
