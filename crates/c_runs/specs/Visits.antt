-- What a run leaves: the properties that it visits, in pieces (this project's own).
use Rattle.std.specs.Prelude.{ℕ, ℤ, Bool, List, [], ◌∷◌, ◌++◌, Option}
use Rattle.c_ir.specs.declared.kind.AlarmKind.{AlarmKind}

-- what each cell has, by its number: a number, or none
abbrev pub Cells : Type 0
Cells = ℕ → Option ℤ

-- how a run names a property
pub data Named : Type 0 where
  -- that no run arrives at this point
  Dead : (point : ℕ) → Named
  -- a clause of this point, by its place among the point's clauses
  Clause : (point place : ℕ) → Named
  -- a check of the operator with this number
  Check : (site : ℕ) → (kind : AlarmKind) → Named
  -- a precondition of the function that the statement at this point calls, by its place among that one's preconditions
  Precondition : (point place : ℕ) → Named

-- a property is met, and holds there or not
pub record Visit : Type 0 where
  pub named : Named
  pub holds : Bool

abbrev pub visit : Named → Bool → Visit
visit named holds = record { named = named; holds = holds }

-- a run is a list of pieces; the visits of one piece are never cut apart
pub data Piece : Type 0 where
  -- the run arrives at this point with these cells: the visits of the point's own properties
  Arrival : (point : ℕ) → (cells : Cells) → (visits : List Visit) → Piece
  -- what the statement at this point visits after its arrival: checks of operators, or preconditions of a callee
  Between : (point : ℕ) → (visits : List Visit) → Piece

abbrev pub visits_of : Piece → List Visit
visits_of (Arrival point cells visits) = visits
visits_of (Between point visits) = visits

-- all visits of a run, in order
abbrev pub all_visits : List Piece → List Visit
all_visits [] = []
all_visits (p ∷ ps) = visits_of p ++ all_visits ps
