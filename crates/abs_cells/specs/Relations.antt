-- Relations between values: what is said of them, and how a relation that holds narrows the cells that it names (this
-- project's own tables, after the reduced product of Cousot and Cousot).
use Rattle.std.specs.Prelude.{ℕ, ℤ, pos, ◌+ℤ◌, ◌-ℤ◌, Bool, if◌then◌else◌, List, Option, Some, None, slice_set}
use Rattle.fc_base.specs.declared.relation.Relation.{Relation}
use Rattle.fc_base.specs.declared.relation.Relation.TheVariants as R
use Rattle.int_interval.specs.Rows.{is_empty, is_one}
use Rattle.int_interval.specs.declared.interval.Interval.{Interval}
use Rattle.int_interval.specs.declared.interval.Interval.TheVariants.{Empty, Within, All}
use Rattle.int_interval.specs.declared.said.Said.{Said}
use Rattle.int_interval.specs.declared.said.Said.TheVariants.{Yes, No, Maybe, Unreached}
use Rattle.int_value.specs.Checks.{equal_row, less_eq_said, less_said}
use Rattle.int_value.specs.Rows.{meet_row}
use Rattle.int_value.specs.declared.value.Value.{Value}
use Rattle.abs_cells.specs.Cells.{Env, value_at}
use Rattle.abs_cells.specs.declared.narrowing.Side.{Side}

-- ---- relations

-- the relation that holds exactly where this one doesn't
abbrev pub opposite_of : Relation → Relation
opposite_of R.Less = R.GreaterEq
opposite_of R.LessEq = R.Greater
opposite_of R.Greater = R.LessEq
opposite_of R.GreaterEq = R.Less
opposite_of R.Equal = R.NotEqual
opposite_of R.NotEqual = R.Equal

-- the same relation, with its sides exchanged
abbrev pub mirror_of : Relation → Relation
mirror_of R.Less = R.Greater
mirror_of R.LessEq = R.GreaterEq
mirror_of R.Greater = R.Less
mirror_of R.GreaterEq = R.LessEq
mirror_of R.Equal = R.Equal
mirror_of R.NotEqual = R.NotEqual

abbrev pub turned : Said → Said
turned Yes = No
turned No = Yes
turned Maybe = Maybe
turned Unreached = Unreached

-- what is said of a relation between numbers of two values
unfoldable pub relation_said : Relation → Value → Value → Said
relation_said R.Less a b = less_said a.range b.range
relation_said R.LessEq a b = less_eq_said a.range b.range
relation_said R.Greater a b = less_said b.range a.range
relation_said R.GreaterEq a b = less_eq_said b.range a.range
relation_said R.Equal a b = equal_row a b
relation_said R.NotEqual a b = turned (equal_row a b)

-- ---- narrowing

-- where the one number n is an end, that end moves by 1
abbrev pub low_but : ℤ → ℤ → ℤ
low_but a n = if is_one a n then a +ℤ pos 1 else a

abbrev pub high_but : ℤ → ℤ → ℤ
high_but b n = if is_one b n then b -ℤ pos 1 else b

-- the numbers from a to b that a relation with numbers from c to d leaves: an order cuts an end, `==` leaves the other
-- side's interval, and `!=` with one number moves an end that is this number
abbrev pub left_by : Relation → ℤ → ℤ → ℤ → ℤ → Interval
left_by R.Less a b c d = Within a (d -ℤ pos 1)
left_by R.LessEq a b c d = Within a d
left_by R.Greater a b c d = Within (c +ℤ pos 1) b
left_by R.GreaterEq a b c d = Within c b
left_by R.Equal a b c d = Within c d
left_by R.NotEqual a b c d = if is_one c d then Within (low_but a c) (high_but b c) else Within a b

-- where there are no ends, there are none to cut
abbrev pub left_of_all : Relation → ℤ → ℤ → Interval
left_of_all R.Less c d = All
left_of_all R.LessEq c d = All
left_of_all R.Greater c d = All
left_of_all R.GreaterEq c d = All
left_of_all R.Equal c d = Within c d
left_of_all R.NotEqual c d = All

abbrev pub left : Relation → Interval → Interval → Interval
left r Empty other = Empty
left r (Within a b) Empty = Empty
left r (Within a b) (Within c d) = left_by r a b c d
left r (Within a b) All = All
left r All Empty = Empty
left r All (Within c d) = left_of_all r c d
left r All All = All

-- what a value has of numbers that are so related to one of the other's; its flag stays
unfoldable pub narrowed_row : Relation → Value → Value → Value
narrowed_row r own other = meet_row own (left r own.range other.range)

-- a cell without a number: no run comes here
abbrev pub with_value : List Value → ℕ → Value → Env
with_value cells x v = if is_empty v.range then None else Some (slice_set cells x v)

abbrev pub narrow_cell : Relation → List Value → ℕ → Value → Env
narrow_cell r cells x other = with_value cells x (narrowed_row r (value_at cells x) other)

-- a side that names a cell, or names none
abbrev pub narrow_named : Relation → Option ℕ → Value → List Value → Env
narrow_named r None other cells = Some cells
narrow_named r (Some x) other cells = narrow_cell r cells x other

abbrev pub on_env : (List Value → Env) → Env → Env
on_env f None = None
on_env f (Some cells) = f cells

-- both sides, each by the other's value before
unfoldable pub narrow_both : Relation → Side → Side → List Value → Env
narrow_both r a b cells =
    on_env (narrow_named (mirror_of r) b.cell a.value) (narrow_named r a.cell b.value cells)
