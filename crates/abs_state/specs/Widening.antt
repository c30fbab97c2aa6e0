-- All cells widened, and all cells with their whole types (this project's own, after the Eva manual). What
-- lists of different lengths give goes to the end of the shortest one.
use Rattle.std.specs.Prelude.{ℕ, ℤ, Bool, List, [], ◌∷◌}
use Rattle.int_interval.specs.declared.shape.Shape.{Shape}
use Rattle.int_value.specs.Rows.{whole_of}
use Rattle.int_value.specs.Widening.{widen_row}
use Rattle.int_value.specs.declared.value.Value.{Value}

-- in a turn, with thresholds, by the types of the cells: each old value widened by the next one
abbrev pub widened : ℕ → List ℤ → List Shape → List Value → List Value → List Value
widened turn thresholds [] old next = []
widened turn thresholds (s ∷ shapes) [] next = []
widened turn thresholds (s ∷ shapes) (v ∷ old) [] = []
widened turn thresholds (s ∷ shapes) (v ∷ old) (w ∷ next) =
    widen_row turn thresholds s v w ∷ widened turn thresholds shapes old next

-- each cell with each number of its type, and with no value where its flag says so
abbrev pub whole_cells : List Shape → List Bool → List Value
whole_cells [] flags = []
whole_cells (s ∷ shapes) [] = []
whole_cells (s ∷ shapes) (unset ∷ flags) = whole_of s unset ∷ whole_cells shapes flags
