-- What states cover, and what is kept of cells with numbers of their types.
use Rattle.std.specs.Prelude.{ℕ, ℤ, Bool, IsTrue, List, Option, Some, None, slice_get}
use Rattle.int_interval.specs.declared.shape.Shape.{Shape}
use Rattle.int_value.specs.Laws.{IsOf}
use Rattle.int_value.specs.declared.value.Value.{Value}
use Rattle.abs_cells.specs.Laws.{Contents, In, StandFor}
use Rattle.abs_state.specs.States.{AllPass, Covers, included_state, joined_state}
use Rattle.abs_state.specs.Widening.{whole_cells, widened}
use Rattle.abs_state.specs.declared.state.State.{State}

-- ---- states

-- a join covers what either state covers
abbrev pub JoinCovers : Type 0
JoinCovers =
    (test : ℕ → Bool) (a b : State) (c : Contents)
    → (Covers test a c → Covers test (joined_state a b) c)
    × (Covers test b c → Covers test (joined_state a b) c)

-- what includes a state stands for all that it stands for
abbrev pub IncludedStands : Type 0
IncludedStands = (a b : State) (c : Contents) → IsTrue (included_state a b) → In a.env c → In b.env c

-- and covers what it covers, where it used no fewer properties
abbrev pub IncludedCovers : Type 0
IncludedCovers =
    (test : ℕ → Bool) (a b : State) (c : Contents) → IsTrue (included_state a b)
    → (AllPass test b.used → AllPass test a.used) → Covers test a c → Covers test b c

-- ---- cells and their types

-- a cell with a type has a number of it, or none
abbrev pub IsOfShape : Option Shape → Option ℤ → Type 0
IsOfShape None o = Unit {0}
IsOfShape (Some shape) o = IsOf shape o

abbrev pub AreOfShapes : List Shape → Contents → Type 0
AreOfShapes shapes c = (x : ℕ) → IsOfShape (slice_get shapes x) (c x)

-- a cell with a flag has a number, unless the flag is set
abbrev pub HasUnless : Option Bool → Option ℤ → Type 0
HasUnless flag (Some z) = Unit {0}
HasUnless None None = Unit {0}
HasUnless (Some unset) None = IsTrue unset

abbrev pub HaveUnless : List Bool → Contents → Type 0
HaveUnless flags c = (x : ℕ) → HasUnless (slice_get flags x) (c x)

-- widening keeps what the cells before and what the next ones stand for
abbrev pub WidenKeeps : Type 0
WidenKeeps =
    (turn : ℕ) (thresholds : List ℤ) (shapes : List Shape) (old next : List Value) (c : Contents)
    → AreOfShapes shapes c
    → (StandFor old c → StandFor (widened turn thresholds shapes old next) c)
    × (StandFor next c → StandFor (widened turn thresholds shapes old next) c)

-- whole types stand for all cells with numbers of these types, or none where the flag says so
abbrev pub WholeStands : Type 0
WholeStands =
    (shapes : List Shape) (flags : List Bool) (c : Contents) → AreOfShapes shapes c → HaveUnless flags c
    → StandFor (whole_cells shapes flags) c
