-- Cells that are written keep numbers of their types.
use Rattle.std.proofs.Common.{◌≡◌, ◌∙◌, ◌==◌, ◌+◌, ℕ, ℤ, pos, Bool, true, false, not, ◌&&◌, List, [], ◌∷◌, map, Option, Some, None, slice_get, nat_lt, nat_le, int_le, suc, zero, refl, sym, ap, subst, arith}
use Rattle.std.proofs.lemmas.Int.{ints}
use Rattle.std.specs.Prelude.{if◌then◌else◌}
use Rattle.std.specs.Option.{option_map, option_and_then}
use Rattle.std.specs.List.{list_all}
use Rattle.std.proofs.lemmas.Bool.{and_parts, eqb-true, true≢false}
use Rattle.c_ir.specs.Formed.{on_some, in_range, cell_is, cell_passes}
use Rattle.c_ir.specs.Keeps.{Keeps, cell_ty, cells_fit, is_set_of, result_fits, start_fits, start_in_range, ty_at}
use Rattle.c_ir.specs.Programs.{Program}
use Rattle.c_ir.specs.Types.{least, greatest}
use Rattle.c_ir.specs.declared.ty.IntType.{IntType}
use Rattle.c_ir.specs.declared.ty.IntType.TheVariants as T
use Rattle.c_ir.specs.declared.tree.CellInfo.{CellInfo}
use Rattle.c_ir.specs.declared.tree.Fun.{Fun}
use Rattle.c_runs.specs.Visits.{Cells}
use Rattle.c_runs.specs.Parts.{IsOf, Typed}
use Rattle.c_runs.specs.Programs.{start_in, start_cells}
use Rattle.c_runs.specs.Statements.{set, set_all, written, is_owned_by, freed, store, result_in, result_of}
use Rattle.c_runs.proofs.Chains.{AllOf}
use Rattle.c_runs.proofs.Typing.{CellIs}

-- ---- single cells

pick : (b : Bool) (v u : Option ℤ) (Q : ℤ → Type 0) → (b ≡ true → (z : ℤ) → v ≡ Some z → Q z) → ((z : ℤ) → u ≡ Some z → Q z) → (z : ℤ) → (if b then v else u) ≡ Some z → Q z
pick true v u Q h k z is = h refl z is
pick false v u Q h k z is = k z is

pub set_typed : (p : Program) (x : ℕ) (v : Option ℤ) (ty : IntType) (c : Cells) → CellIs p x ty → ((z : ℤ) → v ≡ Some z → IsOf ty z) → Typed p c → Typed p (set x v c)
set_typed p x v ty c is ok typed y info z at has =
    pick (x == y) v (c y) (IsOf info.ty)
    (λ same z e. subst (λ (t : IntType). IsOf t z) (sym (is info (ap (slice_get p.cells) (eqb-true x y same) ∙ at))) (ok z e))
    (λ z e. typed y info z at e) z has

pub set_all_typed : (p : Program) (first n : ℕ) (v : Option ℤ) (c : Cells) → ((ty : IntType) (z : ℤ) → v ≡ Some z → IsOf ty z) → Typed p c → Typed p (set_all first n v c)
set_all_typed p first n v c ok typed y info z at has =
    pick (nat_le first y && nat_lt y (first + n)) v (c y) (IsOf info.ty) (λ in_range z e. ok info.ty z e) (λ z e. typed y info z at e) z has

pub none_is : (z : ℤ) → None ≡ Some z → ⊥
none_is z is = cc

pub freed_typed : (p : Program) (g : ℕ) (c : Cells) → Typed p c → Typed p (freed p g c)
freed_typed p g c typed y info z at has =
    pick (is_owned_by g (slice_get p.cells y)) None (c y) (IsOf info.ty) (λ own z e. absurd (none_is z e)) (λ z e. typed y info z at e) z has

-- where a value goes to
abbrev pub ToFits : Program → Option ℕ → IntType → Type 0
ToFits p None ty = Unit {0}
ToFits p (Some x) ty = CellIs p x ty

pub store_typed : (p : Program) (to : Option ℕ) (v : Option ℤ) (ty : IntType) (c : Cells) → ToFits p to ty → ((z : ℤ) → v ≡ Some z → IsOf ty z) → Typed p c → Typed p (store to v c)
store_typed p None v ty c is ok typed = typed
store_typed p (Some x) v ty c is ok typed = set_typed p x v ty c is ok typed

-- the type of a cell is the one that it is looked up with
pub cell_is_own : (p : Program) (x : ℕ) → CellIs p x (ty_at p.cells x)
cell_is_own p x info at = ap cell_ty (sym at)

pub some_is : {X : Type 0} {a b : X} → Some a ≡ Some b → a ≡ b
some_is h = cc

pub written_typed : (p : Program) (xs : List ℕ) (zs : List ℤ) (c : Cells) → AllOf (map (ty_at p.cells) xs) zs → Typed p c → Typed p (written xs zs c)
written_typed p [] zs c all typed = typed
written_typed p (x ∷ xs) [] c all typed = absurd all
written_typed p (x ∷ xs) (z ∷ zs) c all typed =
    written_typed p xs zs (set x (Some z) c) all.1
    (set_typed p x (Some z) (ty_at p.cells x) c (cell_is_own p x) (λ y e. subst (IsOf (ty_at p.cells x)) (some_is e) all.0) typed)

-- 0 is a number of each type
pub zero_of : (ty : IntType) → IsOf ty (pos 0)
zero_of T.Bool = (omega (arith, ints), omega (arith, ints))
zero_of T.Char = (omega (arith, ints), omega (arith, ints))
zero_of T.SignedChar = (omega (arith, ints), omega (arith, ints))
zero_of T.UnsignedChar = (omega (arith, ints), omega (arith, ints))
zero_of T.Short = (omega (arith, ints), omega (arith, ints))
zero_of T.UnsignedShort = (omega (arith, ints), omega (arith, ints))
zero_of T.Int = (omega (arith, ints), omega (arith, ints))
zero_of T.UnsignedInt = (omega (arith, ints), omega (arith, ints))
zero_of T.Long = (omega (arith, ints), omega (arith, ints))
zero_of T.UnsignedLong = (omega (arith, ints), omega (arith, ints))
zero_of T.LongLong = (omega (arith, ints), omega (arith, ints))
zero_of T.UnsignedLongLong = (omega (arith, ints), omega (arith, ints))

-- ---- results

abbrev pub Exists : Option CellInfo → Type 0
Exists o = (info : CellInfo) × (o ≡ Some info)

exists_if : (t : CellInfo → Bool) (o : Option CellInfo) → on_some t o ≡ true → Exists o
exists_if t None is = absurd (true≢false (sym is))
exists_if t (Some info) is = (info, refl)

exists_by : (t : CellInfo → Bool) (cells : List CellInfo) (x : ℕ) → cell_passes t cells x ≡ true → Exists (slice_get cells x)
unfolding cell_passes
exists_by t cells x is = exists_if t (slice_get cells x) is

pub result_exists : (p : Program) (g : ℕ) (f : Fun) (r : ℕ) → Keeps p → slice_get p.fns g ≡ Some f → f.result ≡ Some r → Exists (slice_get p.cells r)
result_exists p g f r keeps is res =
    let fits = (and_parts _ _ (keeps.cells g f is)).1 in
    let fits_r : result_fits p.cells g (Some r) ≡ true = subst (λ (o : Option ℕ). result_fits p.cells g o ≡ true) res fits in
    exists_by (is_set_of g) p.cells r (and_parts _ _ fits_r).1

-- what a typed cell that there is has, is of its own type
pub own_typed : (p : Program) (c : Cells) (r : ℕ) (z : ℤ) → Typed p c → Exists (slice_get p.cells r) → c r ≡ Some z → IsOf (ty_at p.cells r) z
own_typed p c r z typed e has =
    subst (λ (t : IntType). IsOf t z) (cell_is_own p r e.0 e.1) (typed r e.0 z e.1 has)

mapped : (f : ℤ → ℤ) (o : Option ℤ) (Q : ℤ → Type 0) → ((z : ℤ) → o ≡ Some z → Q (f z)) → (z : ℤ) → option_map f o ≡ Some z → Q z
mapped f None Q h z is = absurd (none_is z is)
mapped f (Some a) Q h z is = subst Q (some_is is) (h a refl)

result_by : (p : Program) (f : Fun) (ty : IntType) (convert : ℤ → ℤ) (c : Cells) (o : Option ℕ) → ((r : ℕ) → o ≡ Some r → (z : ℤ) → c r ≡ Some z → IsOf ty (convert z)) → (z : ℤ) → option_map convert (option_and_then c o) ≡ Some z → IsOf ty z
result_by p f ty convert c None h z is = absurd (none_is z is)
result_by p f ty convert c (Some r) h z is = mapped convert (c r) (IsOf ty) (λ z e. h r refl z e) z is

-- the converted result of a function
pub result_typed : (p : Program) (g : ℕ) (f : Fun) (ty : IntType) (convert : ℤ → ℤ) (c : Cells) → Keeps p → slice_get p.fns g ≡ Some f → ((r : ℕ) → f.result ≡ Some r → (z : ℤ) → IsOf (ty_at p.cells r) z → IsOf ty (convert z)) → Typed p c → (z : ℤ) → result_of (slice_get p.fns g) convert c ≡ Some z → IsOf ty z
result_typed p g f ty convert c keeps is h typed z has =
    let here = subst (λ (o : Option Fun). result_of o convert c ≡ Some z) is has in
    result_by p f ty convert c f.result (λ r res z e. h r res z (own_typed p c r z typed (result_exists p g f r keeps is res) e)) z here

-- ---- the start

start_by : (info : CellInfo) (z : ℤ) → start_in_range info.ty info.start ≡ true → info.start ≡ Some z → IsOf info.ty z
unfolding in_range
start_by info z fits is =
    let ok : start_in_range info.ty (Some z) ≡ true = subst (λ (o : Option ℤ). start_in_range info.ty o ≡ true) is fits in
    let parts = and_parts (int_le (least info.ty) z) (int_le z (pos (greatest info.ty))) ok in
    (omega (arith, ints, parts.0), omega (arith, ints, parts.1))

no_cell : (x : ℕ) (info : CellInfo) → slice_get [] x ≡ Some info → ⊥
no_cell zero info is = cc
no_cell (suc x) info is = cc

all_at : (t : CellInfo → Bool) (cells : List CellInfo) (x : ℕ) (info : CellInfo) → list_all t cells ≡ true → slice_get cells x ≡ Some info → t info ≡ true
all_at t [] x info all is = absurd (no_cell x info is)
all_at t (a ∷ cells) zero info all is = subst (λ (i : CellInfo). t i ≡ true) (some_is is) (and_parts _ _ all).0
all_at t (a ∷ cells) (suc x) info all is = all_at t cells x info (and_parts _ _ all).1 is

pub start_typed : (p : Program) → Keeps p → Typed p (start_cells p)
start_typed p keeps x info z at has =
    let here : start_in (Some info) ≡ Some z = subst (λ (o : Option CellInfo). start_in o ≡ Some z) at has in
    start_by info z (all_at start_fits p.cells x info keeps.starts at) here
