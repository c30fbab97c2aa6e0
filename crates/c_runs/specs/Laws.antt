-- The laws of runs (this project's own): what each piece is, and which pieces come before it; that fewer arrivals give a
-- prefix; and that no run is cut for the depth of its calls.
use Rattle.std.specs.Prelude.{◌≡◌, ◌⊎◌, ◌<◌, ◌≤◌, ℕ, ℤ, Bool, true, false, ◌||◌, List, [], ◌∷◌, ◌++◌, length, slice_get, Some}
use Rattle.c_ir.specs.Keeps.{Keeps}
use Rattle.c_ir.specs.Programs.{Program}
use Rattle.c_ir.specs.Table.{kind_admitted}
use Rattle.c_ir.specs.declared.kind.Kind.{Kind}
use Rattle.c_ir.specs.declared.kind.Kind.TheVariants as K
use Rattle.c_ir.specs.declared.tree.Fun.{Fun}
use Rattle.c_ir.specs.declared.tree.PointClause.{PointClause}
use Rattle.c_runs.specs.Visits.{Cells, Visit, Piece, Arrival, Between}
use Rattle.c_runs.specs.Evaluation.{Calling, meaning}
use Rattle.c_runs.specs.Parts.{Placed, placed_in_fns, Has, Typed, VisitsPart, Calls}
use Rattle.c_runs.specs.Programs.{run_of, world_of}
use Rattle.c_runs.specs.Statements.{World, admitted, call_to, clauses_at, entry_clauses, functions_of, owner_at, point_visits, preconditions}

-- ---- pieces

-- the visits of an arrival at a point of the program with these cells: that the point is reached, and each clause with
-- its truth; the admitted ones are true
pub record Arrives (w : World) (q : ℕ) (c : Cells) (vs : List Visit) : Type 0 where
  pub is_point : q < length w.program.points
  pub typed : Typed w.program c
  -- the cells that `\old` speaks of
  pub entry : Cells
  pub admits : admitted w q entry c ≡ true
  pub visits : vs ≡ point_visits w.program q entry c

-- the visits of an expression of the program at this point, or of the preconditions of the function that it calls
pub record Evaluates (w : World) (q : ℕ) (vs : List Visit) : Type 0 where
  pub placed : Placed
  pub is_there : Has (placed_in_fns w.program.fns) placed
  pub at_point : placed.point ≡ q
  pub cells : Cells
  pub typed : Typed w.program cells
  pub visits : VisitsPart (meaning w.overflow placed.expr) cells vs

pub record Enters (w : World) (q : ℕ) (vs : List Visit) : Type 0 where
  pub placed : Placed
  pub is_there : Has (placed_in_fns w.program.fns) placed
  pub at_point : placed.point ≡ q
  pub call : Calling
  pub calls : Calls (meaning w.overflow placed.expr) call
  pub cells : Cells
  pub visits : vs ≡ preconditions q 0 cells (entry_clauses w.program (slice_get w.program.fns call.function))

abbrev pub Fits : World → Piece → Type 0
Fits w (Arrival q c vs) = Arrives w q c vs
Fits w (Between q vs) = Evaluates w q vs ⊎ Enters w q vs

-- ---- what comes before

abbrev pub is_requires : Kind → Bool
is_requires K.Requires = true
is_requires K.CallRequires = false
is_requires K.Ensures = false
is_requires K.Assert = false
is_requires K.Check = false
is_requires K.Admit = false
is_requires K.LoopInvariant = false
is_requires (K.Alarm a) = false
is_requires K.Dead = false

abbrev pub has_requires : List PointClause → Bool
has_requires [] = false
has_requires (c ∷ cs) = is_requires c.kind || has_requires cs

-- the visits at point r are those of a call of the function whose entry is point q
pub record EntersAt (w : World) (q r : ℕ) (vs : List Visit) : Type 0 where
  pub enters : Enters w r vs
  pub function : Fun
  pub is_function : slice_get w.program.fns enters.call.function ≡ Some function
  pub at_entry : function.entry.0 ≡ q

-- the piece visits the preconditions at this point, which is the entry of the function that is called, in these cells
abbrev pub Checks : World → ℕ → Cells → Piece → Type 0
Checks w q c (Arrival r d vs) = ⊥
Checks w q c (Between r vs) = (vs ≡ preconditions r 0 c (clauses_at w.program q)) × EntersAt w q r vs

abbrev pub LastChecks : World → ℕ → Cells → List Piece → Type 0
LastChecks w q c [] = ⊥
LastChecks w q c (x ∷ xs) = Checks w q c x

abbrev pub IsArrival : ℕ → Piece → Type 0
IsArrival q (Arrival r c vs) = r ≡ q
IsArrival q (Between r vs) = ⊥

abbrev pub HasArrival : ℕ → List Piece → Type 0
HasArrival q [] = ⊥
HasArrival q (x ∷ xs) = IsArrival q x ⊎ HasArrival q xs

-- the run comes to a point with preconditions by a call: the piece before visited them in the same cells, which are those
-- at the entry
abbrev pub IsCalled : World → List Piece → ℕ → Cells → List Visit → Type 0
IsCalled w seen q c vs = LastChecks w q c seen × (vs ≡ point_visits w.program q c c)

-- a piece after others, of which the newest stands first: where a point has preconditions the run comes by a call, and
-- what a statement visits comes after an arrival at its point
abbrev pub Joins : World → List Piece → Piece → Type 0
Joins w seen (Arrival q c vs) = (has_requires (clauses_at w.program q) ≡ false) ⊎ IsCalled w seen q c vs
Joins w seen (Between q vs) = HasArrival q seen

-- pieces after others
abbrev pub Chained : World → List Piece → List Piece → Type 0
Chained w seen [] = Unit {0}
Chained w seen (x ∷ xs) = (Fits w x × Joins w seen x) × Chained w (x ∷ seen) xs

-- the preconditions of this point's function are admitted
abbrev pub Admits : World → ℕ → Type 0
Admits w q = kind_admitted (functions_of w.program) w.entry (owner_at w.program q) K.Requires ≡ true

-- a run: its first piece is the arrival at the entry function, whose preconditions are admitted
abbrev pub Runs : World → List Piece → Type 0
Runs w [] = Unit {0}
Runs w (Arrival q c vs ∷ xs) = Fits w (Arrival q c vs) × Chained w (Arrival q c vs ∷ []) xs × Admits w q
Runs w (Between q vs ∷ xs) = ⊥

abbrev pub RunsAreChained : Type 0
RunsAreChained = (p : Program) → Keeps p → (values input : List ℤ) (n : ℕ) → Runs (world_of p values) (run_of p values input n)

-- ---- arrivals and depth

abbrev pub FewerArePrefix : Type 0
FewerArePrefix = (p : Program) (values input : List ℤ) (m n : ℕ) → m ≤ n
    → (more : List Piece) × (run_of p values input m ++ more ≡ run_of p values input n)

-- a run is the same with any greater depth of calls
abbrev pub DeepEnough : Type 0
DeepEnough = (w : World) → Keeps w.program → (g depth : ℕ) → g < length w.program.fns → length w.program.fns ≤ depth
    → call_to w depth g ≡ call_to w (length w.program.fns) g
