-- What it is that an evaluation gives numbers of a type, and that what an expression means fits its form.
use Rattle.std.proofs.Common.{◌≡◌, ℕ, ℤ, true, List, [], ◌∷◌, map, slice_get, Some}
use Rattle.c_ir.specs.Formed.{Form}
use Rattle.c_ir.specs.Keeps.{ty_at}
use Rattle.c_ir.specs.Programs.{Program}
use Rattle.c_ir.specs.declared.tree.CellInfo.{CellInfo}
use Rattle.c_ir.specs.declared.tree.Fun.{Fun}
use Rattle.c_ir.specs.declared.ty.IntType.{IntType}
use Rattle.c_runs.specs.Visits.{Cells}
use Rattle.c_runs.specs.Evaluation.{Evaluation, Calling, Assigning, Meaning}
use Rattle.c_runs.specs.Parts.{IsOf, Typed}

-- the cell of this number, if there is one, is of this type
abbrev pub CellIs : Program → ℕ → IntType → Type 0
CellIs p x ty = (info : CellInfo) → slice_get p.cells x ≡ Some info → info.ty ≡ ty

-- the evaluation gives numbers of this type
abbrev pub GivesOf : Program → IntType → Evaluation ℤ → Type 0
GivesOf p ty e = (c : Cells) → Typed p c → (z : ℤ) → (e c).value ≡ Some z → IsOf ty z

-- it gives cells of this type
abbrev pub GivesCells : Program → IntType → Evaluation ℕ → Type 0
GivesCells p ty e = (c : Cells) → Typed p c → (x : ℕ) → (e c).value ≡ Some x → CellIs p x ty

abbrev pub ArgsTyped : Program → List IntType → List (Evaluation ℤ) → Type 0
ArgsTyped p [] [] = Unit {0}
ArgsTyped p [] (e ∷ es) = ⊥
ArgsTyped p (ty ∷ tys) [] = ⊥
ArgsTyped p (ty ∷ tys) (e ∷ es) = GivesOf p ty e × ArgsTyped p tys es

-- a call whose converted result is of this type
pub record CallTyped (p : Program) (k : Calling) (ty : IntType) : Type 0 where
  pub function : Fun
  pub is_function : slice_get p.fns k.function ≡ Some function
  pub args : ArgsTyped p (map (ty_at p.cells) function.formals) k.args
  pub result : (r : ℕ) → function.result ≡ Some r → (z : ℤ) → IsOf (ty_at p.cells r) z → IsOf ty (k.convert z)

pub record AssignTyped (p : Program) (a : Assigning) : Type 0 where
  pub ty : IntType
  pub target : GivesCells p ty a.target
  pub value : GivesOf p ty a.value
  pub call : (k : Calling) → a.call ≡ Some k → CallTyped p k ty

pub record MeaningTyped (p : Program) (m : Meaning) (f : Form) : Type 0 where
  pub value : f.value ≡ true → GivesOf p f.ty m.value
  pub target : f.target ≡ true → GivesCells p f.ty m.target
  pub call : f.value ≡ true → (k : Calling) → m.call ≡ Some k → CallTyped p k f.ty
  pub assign : f.value ≡ true → (a : Assigning) → m.assign ≡ Some a → AssignTyped p a
