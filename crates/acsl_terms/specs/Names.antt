-- What the names of an annotation stand for (ACSL manual, quantifiers; C11 6.2.1).
use Rattle.std.specs.Prelude.{ℕ, List, [], ◌∷◌, Option, Some, None, bytes_eq, if◌then◌else◌}
use Rattle.std.specs.List.{position}
use Rattle.c_ir.specs.declared.note.InScope.{InScope}
use Rattle.acsl_terms.specs.declared.view.Meant.{Meant}
use Rattle.acsl_terms.specs.declared.view.Meant.TheVariants as M

-- the names that `\forall`s bind, the innermost first
abbrev pub Bound : Type 0
Bound = List (List ℕ)

-- the object of this name
abbrev pub object_of : List ℕ → List InScope → Option InScope
object_of x [] = None
object_of x (d ∷ ds) = if bytes_eq x d.name then Some d else object_of x ds

abbrev pub meant_by : Option ℕ → Option InScope → Meant
meant_by (Some n) o = M.Bound n
meant_by None (Some d) = M.Object d.first d.length
meant_by None None = M.Nothing

-- a name that a `\forall` binds hides an object of that name
unfoldable pub meant : List InScope → Bound → List ℕ → Meant
meant names bound x = meant_by (position (λ y. bytes_eq x y) bound) (object_of x names)
