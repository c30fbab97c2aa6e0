-- What it is that an analysis covers what an expression means in runs.
use Rattle.std.specs.Prelude.{◌≡◌, ℕ, ℤ, true, List, [], ◌∷◌, Option, Some, None}
use Rattle.int_value.specs.Standing.{Stands}
use Rattle.int_value.specs.declared.value.Value.{Value}
use Rattle.c_ir.specs.Formed.{Form}
use Rattle.c_ir.specs.Programs.{Program}
use Rattle.c_runs.specs.Evaluation.{Course, Evaluation, Calling, Assigning, Meaning}
use Rattle.c_runs.specs.Parts.{Typed}
use Rattle.c_runs.specs.Statements.{store}
use Rattle.c_runs.specs.Visits.{Cells}
use Rattle.abs_cells.specs.Cells.{Env}
use Rattle.abs_cells.specs.Laws.{In}
use Rattle.eva_values.specs.Laws.{AllMarked, Covers}
use Rattle.eva_values.specs.Values.{Abstract}
use Rattle.eva_rules.specs.Meant.{Assigned, Called, Meant, Target}
use Rattle.eva_rules.specs.Writing.{Writes}

-- ---- values

-- what is said of an evaluation is right in all typed cells that the values stand for
abbrev pub ValueCovers : Program → Abstract → Evaluation ℤ → Type 0
ValueCovers p a k =
    (c : Cells) (e : Env) → Typed p c → In e c
    → Covers c (a.side e) (a.marks e) (λ taken. a.narrowed taken e) (k c)

-- ---- cells that are written to

-- what is written so stands for cells in which this cell, if one is named, has what the value stands for
abbrev pub WritesTo : Writes → Option ℕ → Type 0
WritesTo w to =
    (v : Value) (o : Option ℤ) (e : Env) (c : Cells) → Stands v o → In e c → In (w v e) (store to o c)

-- the cell is named in some cells, and written in later ones
pub record Aims (t : Target) (e : Env) (k : Course ℕ) : Type 0 where
  pub marked : AllMarked (t.marks e) k.visits
  pub there : (x : ℕ) → k.value ≡ Some x → t.is_there e ≡ true
  pub writes : (x : ℕ) → k.value ≡ Some x → WritesTo (t.writes e) (Some x)

abbrev pub TargetCovers : Program → Target → Evaluation ℕ → Type 0
TargetCovers p t k = (c : Cells) (e : Env) → Typed p c → In e c → Aims t e (k c)

-- ---- calls and assignments

abbrev pub ArgsCover : Program → List Abstract → List (Evaluation ℤ) → Type 0
ArgsCover p [] [] = Unit {0}
ArgsCover p [] (k ∷ ks) = ⊥
ArgsCover p (a ∷ rest) [] = ⊥
ArgsCover p (a ∷ rest) (k ∷ ks) = ValueCovers p a k × ArgsCover p rest ks

pub record CalledCovers (p : Program) (m : Called) (k : Calling) : Type 0 where
  pub function : m.function ≡ k.function
  pub args : ArgsCover p m.args k.args
  pub convert : (v : Value) (z : ℤ) → Stands v (Some z) → Stands (m.convert v) (Some (k.convert z))

abbrev pub CallCovers : Program → Option Called → Option Calling → Type 0
CallCovers p None None = Unit {0}
CallCovers p None (Some k) = ⊥
CallCovers p (Some m) None = ⊥
CallCovers p (Some m) (Some k) = CalledCovers p m k

pub record AssignedCovers (p : Program) (m : Assigned) (k : Assigning) : Type 0 where
  pub target : TargetCovers p m.target k.target
  pub value : ValueCovers p m.value k.value
  pub call : CallCovers p m.call k.call

abbrev pub AssignCovers : Program → Option Assigned → Option Assigning → Type 0
AssignCovers p None None = Unit {0}
AssignCovers p None (Some k) = ⊥
AssignCovers p (Some m) None = ⊥
AssignCovers p (Some m) (Some k) = AssignedCovers p m k

-- ---- expressions

-- as far as the expression is well formed
pub record MeaningCovers (p : Program) (m : Meant) (k : Meaning) (f : Form) : Type 0 where
  pub value : f.value ≡ true → ValueCovers p m.value k.value
  pub target : f.target ≡ true → TargetCovers p m.target k.target
  pub call : f.value ≡ true → CallCovers p m.call k.call
  pub assign : f.value ≡ true → AssignCovers p m.assign k.assign
