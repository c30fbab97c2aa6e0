-- What an analysis knows of a program's cells: a value for each, by the cell's number (this project's own, after the
-- abstract interpretation of Cousot and Cousot).
use Rattle.std.specs.Prelude.{ℕ, zero, suc, ◌+◌, ◌-◌, ℤ, pos, ◌-ℤ◌, unsigned_abs, Bool, true, false, ◌&&◌, if◌then◌else◌, List, [], ◌∷◌, Option, Some, None, slice_get, slice_set}
use Rattle.int_interval.specs.Rows.{is_empty}
use Rattle.int_interval.specs.declared.interval.Interval.{Interval}
use Rattle.int_interval.specs.declared.interval.Interval.TheVariants.{Empty, Within, All}
use Rattle.int_value.specs.Rows.{all_of, contains_row, empty_of, included_row, join_row, meet_row}
use Rattle.int_value.specs.declared.value.Value.{Value}

-- ---- one cell

-- of a cell that isn't there nothing is known
abbrev pub value_or : Option Value → Value
value_or None = all_of true
value_or (Some v) = v

abbrev pub value_at : List Value → ℕ → Value
value_at cells x = value_or (slice_get cells x)

-- ---- all cells

-- the join of the values, cell by cell
abbrev pub joined : List Value → List Value → List Value
joined [] ws = []
joined (v ∷ vs) [] = []
joined (v ∷ vs) (w ∷ ws) = join_row v w ∷ joined vs ws

-- each cell's value is included in the second one's
abbrev pub is_included : List Value → List Value → Bool
is_included vs [] = true
is_included [] (w ∷ ws) = false
is_included (v ∷ vs) (w ∷ ws) = included_row v w && is_included vs ws

-- ---- reached or not

-- the cells at a place; there are none where no run comes to it
abbrev pub Env : Type 0
Env = Option (List Value)

-- where no run comes a cell has no number
abbrev pub value_in : Env → ℕ → Value
value_in None x = empty_of false
value_in (Some cells) x = value_at cells x

abbrev pub join_env : Env → Env → Env
join_env None e = e
join_env (Some a) None = Some a
join_env (Some a) (Some b) = Some (joined a b)

abbrev pub included_env : Env → Env → Bool
included_env None e = true
included_env (Some a) None = false
included_env (Some a) (Some b) = is_included a b

-- ---- elements of arrays (C11 6.5.2.1)

-- the values joined of those of the n elements from number k on whose numbers are in the index, to a value so far
abbrev pub elements_from : List Value → ℕ → Value → Value → ℕ → ℕ → Value
elements_from cells first index sofar k zero = sofar
elements_from cells first index sofar k (suc n) =
    elements_from cells first index
    (if contains_row index (pos k) then join_row sofar (value_at cells (first + k)) else sofar) (k + 1) n

abbrev pub elements_in : List Value → ℕ → Value → Interval → Value
elements_in cells first index Empty = empty_of false
elements_in cells first index (Within lo hi) =
    elements_from cells first index (empty_of false) (unsigned_abs lo) (suc (unsigned_abs hi) - unsigned_abs lo)
elements_in cells first index All = all_of true

-- an index, as far as it lies in an array of n elements
abbrev pub index_met : ℕ → Value → Value
index_met n index = meet_row index (Within (pos 0) (pos n -ℤ pos 1))

-- what an element may have of the array of n elements whose cells begin at `first`: the join of those whose numbers are
-- in the index
unfoldable pub element_value : List Value → ℕ → ℕ → Value → Value
element_value cells first n index =
    elements_in cells first (index_met n index) (index_met n index).range

abbrev pub element_of : Env → ℕ → ℕ → Value → Value
element_of None first n index = empty_of false
element_of (Some cells) first n index = element_value cells first n index
