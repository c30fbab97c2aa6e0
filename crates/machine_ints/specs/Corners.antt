-- The least and the greatest of four numbers.
use Rattle.std.specs.Prelude.{ℤ}
use Rattle.std.specs.Int.{int_min, int_max}

abbrev pub least4 : ℤ → ℤ → ℤ → ℤ → ℤ
least4 p q r s = int_min (int_min p q) (int_min r s)

abbrev pub greatest4 : ℤ → ℤ → ℤ → ℤ → ℤ
greatest4 p q r s = int_max (int_max p q) (int_max r s)
