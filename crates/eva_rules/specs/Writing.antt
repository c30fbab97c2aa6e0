-- What a cell has after it was written (C11 6.5.16, 6.7.9).
use Rattle.std.specs.Prelude.{ℕ, zero, suc, ◌+◌, ◌-◌, ℤ, pos, unsigned_abs, Bool, true, false, if◌then◌else◌, List, [], ◌∷◌, map, Option, Some, None, is_some, slice_set}
use Rattle.int_interval.specs.declared.interval.Interval.{Interval}
use Rattle.int_interval.specs.declared.interval.Interval.TheVariants.{Empty, Within, All}
use Rattle.int_interval.specs.declared.shape.Shape.{Shape}
use Rattle.int_value.specs.Rows.{contains_row, empty_of, join_row, one_of, single_of, whole_of}
use Rattle.int_value.specs.declared.value.Value.{Value}
use Rattle.c_ir.specs.Keeps.{ty_at}
use Rattle.c_ir.specs.Programs.{Program}
use Rattle.c_ir.specs.declared.tree.CellInfo.{CellInfo}
use Rattle.c_runs.specs.Statements.{is_owned_by}
use Rattle.abs_cells.specs.Cells.{Env, value_at}
use Rattle.eva_values.specs.Shapes.{shape_of}

-- how a value is written
abbrev pub Writes : Type 0
Writes = Value → Env → Env

-- the value is dropped
abbrev pub nowhere_to : Writes
nowhere_to v e = e

abbrev pub on_cells : (List Value → List Value) → Env → Env
on_cells f None = None
on_cells f (Some cells) = Some (f cells)

-- a cell has this from now on
abbrev pub set_cell : ℕ → Value → Env → Env
set_cell x v = on_cells (λ cells. slice_set cells x v)

abbrev pub write_if : Option ℕ → Writes
write_if None = nowhere_to
write_if (Some x) = set_cell x

-- the n cells from x on have it
abbrev pub each_set : ℕ → ℕ → Value → List Value → List Value
each_set x zero v cells = cells
each_set x (suc n) v cells = each_set (x + 1) n v (slice_set cells x v)

abbrev pub set_cells : ℕ → ℕ → Value → Env → Env
set_cells first n v = on_cells (each_set first n v)

-- no number
abbrev pub unset : Value
unset = empty_of true

abbrev pub zero_value : Value
zero_value = one_of (pos 0) false

-- ---- elements (6.5.2.1)

-- an element is joined with the value, if its number is in the index
abbrev pub joined_if : Bool → ℕ → Value → List Value → List Value
joined_if true x v cells = slice_set cells x (join_row (value_at cells x) v)
joined_if false x v cells = cells

-- of n elements from number k on
abbrev pub each_joined : ℕ → Value → Value → ℕ → ℕ → List Value → List Value
each_joined first index v k zero cells = cells
each_joined first index v k (suc n) cells =
    each_joined first index v (k + 1) n (joined_if (contains_row index (pos k)) (first + k) v cells)

-- one index names one cell, which has the value; of several each may have it
abbrev pub element_set : ℕ → Value → Value → ℤ → ℤ → Option ℤ → List Value → List Value
element_set first index v lo hi None cells =
    each_joined first index v (unsigned_abs lo) (suc (unsigned_abs hi) - unsigned_abs lo) cells
element_set first index v lo hi (Some k) cells = slice_set cells (first + unsigned_abs k) v

-- by the index as far as it lies in the array of n elements
abbrev pub elements_set : ℕ → ℕ → Value → Value → Interval → List Value → List Value
elements_set first n index v Empty cells = cells
elements_set first n index v (Within lo hi) cells = element_set first index v lo hi (single_of (Within lo hi)) cells
elements_set first n index v All cells = each_joined first index v 0 n cells

abbrev pub write_element : ℕ → ℕ → Value → Writes
write_element first n index v = on_cells (elements_set first n index v index.range)

-- ---- functions

-- the cells of a function have no number; infos and values go together
abbrev pub each_freed : ℕ → List CellInfo → List Value → List Value
each_freed g [] vs = vs
each_freed g (i ∷ is) [] = []
each_freed g (i ∷ is) (v ∷ vs) = (if is_owned_by g (Some i) then unset else v) ∷ each_freed g is vs

abbrev pub freed_cells : Program → ℕ → Env → Env
freed_cells p g = on_cells (each_freed g p.cells)

-- cells in order, with values in order
abbrev pub written : List ℕ → List Value → Env → Env
written [] vs e = e
written (x ∷ xs) [] e = e
written (x ∷ xs) (v ∷ vs) e = written xs vs (set_cell x v e)

-- ---- numbers that the program doesn't say

-- any number of the cell's type
abbrev pub any_of : Program → ℕ → Value
any_of p x = whole_of (shape_of (ty_at p.cells x)) false

abbrev pub receive : Program → ℕ → Env → Env
receive p x = set_cell x (any_of p x)

abbrev pub receive_all : Program → List ℕ → Env → Env
receive_all p [] e = e
receive_all p (x ∷ xs) e = receive_all p xs (receive p x e)

-- ---- the start

abbrev pub start_value : Option ℤ → Value
start_value None = unset
start_value (Some z) = one_of z false

abbrev pub start_of : CellInfo → Value
start_of info = start_value info.start

abbrev pub start_env : Program → Env
start_env p = Some (map start_of p.cells)

-- ---- all types

abbrev pub shape_in : CellInfo → Shape
shape_in info = shape_of info.ty

abbrev pub shapes_of : Program → List Shape
shapes_of p = map shape_in p.cells

-- a cell that isn't at file scope may have no number
abbrev pub may_be_unset : CellInfo → Bool
may_be_unset info = is_some info.owner

abbrev pub flags_of : Program → List Bool
flags_of p = map may_be_unset p.cells
