-- Cells that an expression names: they are there, and of its type.
use Rattle.std.proofs.Common.{◌≡◌, ◌∙◌, ◌+◌, ◌<◌, ◌&&◌, ℕ, zero, suc, ℤ, pos, int_le, int_lt, unsigned_abs}
use Rattle.std.proofs.Common.{nat_lt, nat_le, Bool, true, List, [], ◌∷◌, length, take, drop, slice_get, Option, Some, None, is_some, refl, sym, ap, subst, arith}
use Rattle.std.specs.List.{list_all}
use Rattle.std.proofs.lemmas.Int.{ints}
use Rattle.std.proofs.lemmas.Bool.{and_parts, leb-true, true≢false}
use Rattle.std.proofs.lemmas.Option.{none-some, same_Some}
use Rattle.fc_base.specs.declared.ids.SiteId.{SiteId}
use Rattle.c_ir.specs.Formed.{on_some, cell_passes, cells_pass, cell_is, cells_are}
use Rattle.c_ir.specs.Programs.{Program}
use Rattle.c_ir.specs.Types.{same_type}
use Rattle.c_ir.specs.declared.kind.AlarmKind.TheVariants as A
use Rattle.c_ir.specs.declared.tree.CellInfo.{CellInfo}
use Rattle.c_ir.specs.declared.ty.IntType.{IntType}
use Rattle.c_runs.specs.Visits.{Cells}
use Rattle.c_runs.specs.Evaluation.{Course, gives, is_index, element, read}
use Rattle.c_runs.specs.Parts.{IsOf, Typed}
use Rattle.c_runs.proofs.CourseValues.{at_gives, if_gives}
use Rattle.c_rules.proofs.Formed.{same_is}

-- the cell of this number is there, and of this type
abbrev pub HasCell : List CellInfo → IntType → ℕ → Type 0
HasCell cells ty x = (info : CellInfo) × (slice_get cells x ≡ Some info) × (info.ty ≡ ty)

-- what is read in a cell is a number of its type
pub read_here : (p : Program) (ty : IntType) (site : Option SiteId) (checked : Bool) (x : ℕ) (c : Cells) (z : ℤ)
    → HasCell p.cells ty x → Typed p c → (read site checked (c x)).value ≡ Some z → IsOf ty z
read_here p ty site checked x c z has typed gave =
    let rest : Course ℤ = record { visits = []; value = c x } in
    let is = (if_gives rest z checked site A.Initialization (is_some (c x)) gave).1 in
    subst (λ (t : IntType). IsOf t z) has.2 (typed x has.0 z has.1 is)

passing : {X : Type 0} (test : X → Bool) (o : Option X) → on_some test o ≡ true
    → (x : X) × (o ≡ Some x) × (test x ≡ true)
passing test None is = absurd (true≢false (sym is))
passing test (Some x) is = (x, refl, is)

there : (cells : List CellInfo) (x : ℕ) → x < length cells → (c : CellInfo) × (slice_get cells x ≡ Some c)
there [] x less = absurd (omega (arith, less))
there (c ∷ cells) zero less = (c, refl)
there (c ∷ cells) (suc x) less = there cells x (omega (arith, less))

-- an element of a part of a list
taken : (test : CellInfo → Bool) (cells : List CellInfo) (k n i j : ℕ) (c : CellInfo)
    → list_all test (take n (drop k cells)) ≡ true → i < n → j ≡ k + i → slice_get cells j ≡ Some c → test c ≡ true
taken test [] k n i j c all less is got = absurd (none-some c got)
taken test (x ∷ cells) (suc k) n i zero c all less is got = absurd (omega (arith, is))
taken test (x ∷ cells) (suc k) n i (suc j) c all less is got =
    taken test cells k n i j c all less (omega (arith, is)) got
taken test (x ∷ cells) zero zero i j c all less is got = absurd (omega (arith, less))
taken test (x ∷ cells) zero (suc n) i zero c all less is got =
    ap test (sym (same_Some x c got)) ∙ (and_parts _ _ all).0
taken test (x ∷ cells) zero (suc n) zero (suc j) c all less is got = absurd (omega (arith, is))
taken test (x ∷ cells) zero (suc n) (suc i) (suc j) c all less is got =
    taken test cells zero n i j c (and_parts _ _ all).1 (omega (arith, less)) (omega (arith, is)) got

index_less : (n : ℕ) (k : ℤ) → is_index n k ≡ true → unsigned_abs k < n
index_less n k is =
    let parts = and_parts (int_le (pos 0) k) (int_lt k (pos n)) is in
    let low = parts.0 in
    let high = parts.1 in
    omega (arith, ints)

-- which cell an element is
element_gives : (site : Option SiteId) (first n : ℕ) (k : ℤ) (x : ℕ) → is_some site ≡ true
    → (element site first n k).value ≡ Some x → (unsigned_abs k < n) × (first + unsigned_abs k ≡ x)
element_gives site first n k x has gave =
    let place = first + unsigned_abs k in
    let passed = at_gives (gives place) x site A.IndexBound (is_index n k) gave in
    (index_less n k (passed.0 has), same_Some place x passed.1)

-- a test that asks for this type
module _ (test : CellInfo → Bool) (cells : List CellInfo) (ty : IntType)
    (asks : (c : CellInfo) → test c ≡ true → same_type c.ty ty ≡ true) where
  pub cell_of : (x : ℕ) → cell_is test cells x ≡ true → HasCell cells ty x
  unfolding cell_passes
  cell_of x is =
      let c = passing test (slice_get cells x) (and_parts (nat_lt x (length cells)) _ is).1 in
      (c.0, c.1, same_is c.0.ty ty (asks c.0 c.2))

  element_at : (first n i : ℕ) → cells_are test cells first n ≡ true → i < n → HasCell cells ty (first + i)
  unfolding cells_pass
  element_at first n i is less =
      let parts = and_parts (nat_lt 0 n && nat_le (first + n) (length cells)) _ is in
      let fits = leb-true (first + n) (length cells) (and_parts (nat_lt 0 n) _ parts.0).1 in
      let c = there cells (first + i) (omega (arith, less)) in
      let passes = taken test cells first n i (first + i) c.0 parts.1 less refl c.1 in
      (c.0, c.1, same_is c.0.ty ty (asks c.0 passes))

  pub element_of : (site : Option SiteId) (first n : ℕ) (k : ℤ) (x : ℕ) → cells_are test cells first n ≡ true
      → is_some site ≡ true → (element site first n k).value ≡ Some x → HasCell cells ty x
  element_of site first n k x is has gave =
      let at = element_gives site first n k x has gave in
      subst (λ (m : ℕ). HasCell cells ty m) at.1 (element_at first n (unsigned_abs k) is at.0)
