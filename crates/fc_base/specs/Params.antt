-- Values of parameters, by their numbers.
use Rattle.std.specs.Prelude.{List, ℕ, ℤ, pos, slice_index_or}

-- a parameter's value; 0 where there is no such number
abbrev pub value_at : List ℤ → ℕ → ℤ
value_at values n = slice_index_or values n (pos 0)
