-- Which expressions a program evaluates, each at the point of its statement, and what each of them visits there.
use Rattle.std.specs.Prelude.{◌≡◌, ◌⊎◌, ℕ, ℤ, pos, List, [], ◌∷◌, ◌++◌, map, slice_get, Option, Some, None}
use Rattle.fc_base.specs.declared.ids.PointId.{PointId}
use Rattle.machine_ints.specs.Operators.{IsWithin}
use Rattle.c_ir.specs.Programs.{Program}
use Rattle.c_ir.specs.Types.{least, greatest}
use Rattle.c_ir.specs.declared.ty.IntType.{IntType}
use Rattle.c_ir.specs.declared.tree.CellInfo.{CellInfo}
use Rattle.c_ir.specs.declared.tree.Expr.{Expr}
use Rattle.c_ir.specs.declared.tree.Fun.{Fun}
use Rattle.c_ir.specs.declared.tree.Init.{Init}
use Rattle.c_ir.specs.declared.tree.Init.TheVariants as I
use Rattle.c_ir.specs.declared.tree.Stmt.{Stmt, fold-Stmt}
use Rattle.c_ir.specs.declared.tree.Stmt.TheOpen.{Stmt-F}
use Rattle.c_runs.specs.Visits.{Cells, Visit}
use Rattle.c_runs.specs.Evaluation.{Evaluation, Calling, Assigning, Meaning}

-- ---- expressions and their points

pub record Placed : Type 0 where
  pub point : ℕ
  pub expr : Expr

abbrev pub at_point : PointId → List Expr → List Placed
at_point p [] = []
at_point p (e ∷ es) = record { point = p.0; expr = e } ∷ at_point p es

abbrev pub exprs_if : Option Expr → List Expr
exprs_if None = []
exprs_if (Some e) = e ∷ []

abbrev pub exprs_of_init : Init → List Expr
exprs_of_init I.Nothing = []
exprs_of_init (I.One e) = e ∷ []
exprs_of_init (I.Many es) = es

abbrev pub all_placed : List (List Placed) → List Placed
all_placed [] = []
all_placed (x ∷ xs) = x ++ all_placed xs

-- the expressions of a statement, and those of the statements that it governs
abbrev pub placed_step : Stmt-F (List Placed) → List Placed
placed_step (Stmt-F.Declare p f n value) = at_point p (exprs_of_init value)
placed_step (Stmt-F.Expression p e) = at_point p (e ∷ [])
placed_step (Stmt-F.If p c ys ns) = at_point p (c ∷ []) ++ (all_placed ys ++ all_placed ns)
placed_step (Stmt-F.While p c bs) = at_point p (c ∷ []) ++ all_placed bs
placed_step (Stmt-F.DoWhile p bs c) = at_point p (c ∷ []) ++ all_placed bs
placed_step (Stmt-F.For hs p c bs us) = at_point p (exprs_if c) ++ (all_placed hs ++ (all_placed bs ++ all_placed us))
placed_step (Stmt-F.Break p) = []
placed_step (Stmt-F.Continue p) = []
placed_step (Stmt-F.Return p value) = at_point p (exprs_if value)
placed_step (Stmt-F.Empty p) = []
placed_step (Stmt-F.Block ss) = all_placed ss
placed_step (Stmt-F.Note note) = []
placed_step (Stmt-F.Clause p) = []

abbrev pub placed_in : Stmt → List Placed
placed_in = fold-Stmt (List Placed) placed_step

abbrev pub placed_in_all : List Stmt → List Placed
placed_in_all ss = all_placed (map placed_in ss)

abbrev pub placed_in_body : Option (List Stmt) → List Placed
placed_in_body None = []
placed_in_body (Some ss) = placed_in_all ss

-- those of all functions
abbrev pub placed_in_fns : List Fun → List Placed
placed_in_fns [] = []
placed_in_fns (f ∷ fs) = placed_in_body f.body ++ placed_in_fns fs

abbrev pub Has : {X : Type 0} → List X → X → Type 0
Has [] x = ⊥
Has (y ∷ ys) x = (y ≡ x) ⊎ Has ys x

-- ---- cells

-- the number is one of the type
abbrev pub IsOf : IntType → ℤ → Type 0
IsOf ty z = IsWithin (least ty) (pos (greatest ty)) z

-- each cell has a number of its type, or none
abbrev pub Typed : Program → Cells → Type 0
Typed p c = (x : ℕ) (info : CellInfo) (z : ℤ) → slice_get p.cells x ≡ Some info → c x ≡ Some z → IsOf info.ty z

-- ---- what is visited

-- the visits are those of this evaluation
abbrev pub Visits : {A : Type 0} → Evaluation A → Cells → List Visit → Type 0
Visits e c vs = vs ≡ (e c).visits

abbrev pub VisitsArg : List (Evaluation ℤ) → Cells → List Visit → Type 0
VisitsArg [] c vs = ⊥
VisitsArg (e ∷ es) c vs = Visits e c vs ⊎ VisitsArg es c vs

abbrev pub VisitsCall : Option Calling → Cells → List Visit → Type 0
VisitsCall None c vs = ⊥
VisitsCall (Some k) c vs = VisitsArg k.args c vs

abbrev pub VisitsAssign : Option Assigning → Cells → List Visit → Type 0
VisitsAssign None c vs = ⊥
VisitsAssign (Some a) c vs = Visits a.target c vs ⊎ (Visits a.value c vs ⊎ VisitsCall a.call c vs)

-- of an expression that stands where a statement evaluates it: of its value, of an argument of its call, or of the
-- parts of its assignment
abbrev pub VisitsPart : Meaning → Cells → List Visit → Type 0
VisitsPart m c vs = Visits m.value c vs ⊎ (VisitsCall m.call c vs ⊎ VisitsAssign m.assign c vs)

-- the call that an expression is, or whose result it assigns
abbrev pub call_assigned : Option Assigning → Option Calling
call_assigned None = None
call_assigned (Some a) = a.call

abbrev pub Calls : Meaning → Calling → Type 0
Calls m k = (m.call ≡ Some k) ⊎ (call_assigned m.assign ≡ Some k)
