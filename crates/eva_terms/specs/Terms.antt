-- What a term may have (ACSL manual, 2.2: terms are whole numbers without bound, and division truncates).
-- The flag of its value says that the term may be undefined, and a value without a number that it surely is
-- (this project's own).
use Rattle.std.specs.Prelude.{ℕ, pos, ◌-ℤ◌, Bool, true, false, not, ◌||◌, Option, Some, None}
use Rattle.fc_base.specs.declared.syntax.NoteOp.{NoteOp}
use Rattle.fc_base.specs.declared.syntax.NoteOp.TheVariants as O
use Rattle.int_interval.specs.declared.said.Said.{Said}
use Rattle.int_interval.specs.declared.said.Said.TheVariants.{Yes, No, Maybe, Unreached}
use Rattle.int_value.specs.Checks.{divisor_said, within_said}
use Rattle.int_value.specs.Rows.{difference_row, empty_of, negation_row, product_row, quotient_row, remainder_row, sum_row, value_of}
use Rattle.int_value.specs.declared.value.Value.{Value}
use Rattle.abs_cells.specs.Cells.{Env, element_of}

-- the same numbers, of a term that may also be undefined where the test says so
abbrev pub also_unset : Bool → Value → Value
also_unset unset v = value_of v.range v.congr (v.unset || unset)

-- ---- names and elements

-- a name that no `\forall` binds has no number
abbrev pub bound_or : Option Value → Value
bound_or None = empty_of true
bound_or (Some v) = v

abbrev pub is_surely : Said → Bool
is_surely Yes = true
is_surely No = false
is_surely Maybe = false
is_surely Unreached = false

-- each number of the index is from 0 to n - 1
abbrev pub is_index : ℕ → Value → Bool
is_index n index = is_surely (within_said (pos 0) (pos n -ℤ pos 1) index.range)

-- an element of the array of n elements whose cells begin at `first`
unfoldable pub element_term : Env → ℕ → ℕ → Value → Value
element_term now first n index =
    also_unset (index.unset || not (is_index n index)) (element_of now first n index)

-- ---- operators

unfoldable pub negated : Value → Value
negated a = also_unset a.unset (negation_row a)

abbrev pub of_both : (Value → Value → Value) → Value → Value → Value
of_both row a b = also_unset (a.unset || b.unset) (row a b)

-- by what is said of the divisor not being 0: a quotient by 0 alone has no number
abbrev pub by_divisor : Said → Bool → Value → Value
by_divisor Yes unset v = also_unset unset v
by_divisor No unset v = empty_of true
by_divisor Maybe unset v = also_unset true v
by_divisor Unreached unset v = also_unset true v

abbrev pub divided : (Value → Value → Value) → Value → Value → Value
divided row a b = by_divisor (divisor_said a b) (a.unset || b.unset) (row a b)

-- a term of two terms; the operators of predicates make none
unfoldable pub combined : NoteOp → Value → Value → Value
combined O.Iff a b = empty_of true
combined O.Implies a b = empty_of true
combined O.Or a b = empty_of true
combined O.And a b = empty_of true
combined O.Add a b = of_both sum_row a b
combined O.Sub a b = of_both difference_row a b
combined O.Mul a b = of_both product_row a b
combined O.Div a b = divided quotient_row a b
combined O.Rem a b = divided remainder_row a b
