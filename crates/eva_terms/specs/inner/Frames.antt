-- The code's frames of bound names, and what a pass over a predicate gives.
use Rattle.std.specs.Prelude.{List, [], ◌∷◌}
use Rattle.int_value.specs.declared.value.Value.{Value}
use Rattle.abs_cells.specs.Cells.{Env}
use Rattle.eva_terms.specs.Shown.{Sight}
use Rattle.eva_terms.specs.declared.frame.Frame.{Frame, Empty, Bound'}

abbrev pub bound_in : Frame → List Value
bound_in Empty = []
bound_in (Bound' v p f) = v ∷ bound_in f

abbrev pub sight : Env → Env → List Value → Sight
sight now entry bound = record { now = now; entry = entry; bound = bound }
