-- The table of parameters (this project's own): their numbers, names, ranges and opening values, and the
-- parameters that a program's runs depend on.
use Rattle.std.specs.Prelude.{List, [], ◌∷◌, ℕ, ℤ, Bool, false, pos, ◌==◌, ◌&&◌, map, codes, bytes_eq, int_le, slice_index_or, if◌then◌else◌}
use Rattle.fc_base.specs.Params.{value_at}
use Rattle.fc_base.specs.declared.params.ParamValues.{ParamValues}

-- which values a parameter may have: numbers of defined functions, or numbers from 0 up to one
pub data Range : Type 0 where
  DefinedFunction : Range
  UpTo : ℕ → Range

-- a row of the table
pub record Param : Type 0 where
  pub number : ℕ
  pub name : List ℕ
  pub range : Range

abbrev pub row : ℕ → List ℕ → Range → Param
row number name range = record { number = number; name = name; range = range }

abbrev pub params : List Param
params =
    row 0 (codes "main") DefinedFunction
    ∷ row 1 (codes "lib_entry") (UpTo 1)
    ∷ row 2 (codes "signed_overflow") (UpTo 1)
    ∷ row 3 (codes "eva_assume") (UpTo 1)
    ∷ row 4 (codes "eva_unroll") (UpTo 64)
    ∷ row 8 (codes "x0") (UpTo 1000000000)
    ∷ row 9 (codes "x1") (UpTo 1000000000)
    ∷ row 10 (codes "x2") (UpTo 1000000000)
    ∷ row 11 (codes "x3") (UpTo 1000000000)
    ∷ row 12 (codes "x4") (UpTo 1000000000)
    ∷ row 13 (codes "x5") (UpTo 1000000000)
    ∷ row 14 (codes "x6") (UpTo 1000000000)
    ∷ row 15 (codes "x7") (UpTo 1000000000)
    ∷ []

-- the numbers that have a row
abbrev pub numbers : List ℕ
numbers = map (λ p. p.number) params

-- the number of the row with this name; 7, which is no parameter's number, if there is none
abbrev pub number_in : List Param → List ℕ → ℕ
number_in [] name = 7
number_in (p ∷ ps) name = if bytes_eq name p.name then p.number else number_in ps name

unfoldable pub number_of : List ℕ → ℕ
number_of name = number_in params name

-- whether a function is defined, by its number; one that isn't listed isn't
abbrev pub is_function : List Bool → ℤ → Bool
is_function defined (pos n) = slice_index_or defined n false
is_function defined x = false

-- whether a value is in a range
abbrev pub is_in : List Bool → Range → ℤ → Bool
is_in defined DefinedFunction x = is_function defined x
is_in defined (UpTo most) x = int_le (pos 0) x && int_le x (pos most)

-- whether a row has the number, and its range the value
abbrev pub fits_in : List Param → List Bool → ℕ → ℤ → Bool
fits_in [] defined n x = false
fits_in (p ∷ ps) defined n x = if n == p.number then is_in defined p.range x else fits_in ps defined n x

unfoldable pub fits_param : List Bool → ℕ → ℤ → Bool
fits_param defined n x = fits_in params defined n x

-- the values at the opening, for the number of the entry function and the flag `lib_entry`: overflow is checked
-- and Eva assumes, and all else is 0
abbrev pub opening_values : ℕ → Bool → List ℤ
opening_values main lib_entry =
    pos main ∷ (if lib_entry then pos 1 else pos 0) ∷ pos 1 ∷ pos 1 ∷ pos 0 ∷ pos 0 ∷ pos 0 ∷ pos 0
    ∷ pos 0 ∷ pos 0 ∷ pos 0 ∷ pos 0 ∷ pos 0 ∷ pos 0 ∷ pos 0 ∷ pos 0 ∷ []

-- the parameters that a program's runs depend on
abbrev pub run_params : List ℕ
run_params = 0 ∷ 1 ∷ 2 ∷ []

-- their values, in that order
abbrev pub run_values : ParamValues → List ℤ
run_values values = map (value_at values.values) run_params

-- of runs that are given by the values of the run parameters, those under values of all parameters
abbrev pub under : {A : Type 0} → (List ℤ → A) → ParamValues → A
under runs values = runs (run_values values)

-- what these values say: the entry function's number, and whether signed overflow is checked
abbrev pub entry_function : List ℤ → ℤ
entry_function run = slice_index_or run 0 (pos 0)

abbrev pub signed_overflow : List ℤ → ℤ
signed_overflow run = slice_index_or run 2 (pos 0)
