-- Tables of the code.
use Rattle.std.specs.Prelude.{◌∷◌, [], ℕ, List}
use Rattle.std.specs.Borrow.{Bor}
use Rattle.acsl_read.specs.declared.class.Class.{Class}

abbrev pub words_of : List (Bor (List ℕ) × Class) → List (List ℕ × Class)
words_of [] = []
words_of (r ∷ rows) = (r.0.now, r.1) ∷ words_of rows

abbrev pub texts_of : List (Bor (List ℕ)) → List (List ℕ)
texts_of [] = []
texts_of (r ∷ rows) = r.now ∷ texts_of rows
