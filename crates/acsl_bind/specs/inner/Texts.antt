-- What the walk over functions is over, and what the numbers of points depend on.
use Rattle.std.specs.Prelude.{List, []}
use Rattle.c_ast.specs.declared.annot.Annot.{Annot}
use Rattle.c_ir.specs.Programs.{Program}
use Rattle.c_ir.specs.declared.tree.Fun.{Fun}
use Rattle.c_ir.specs.declared.tree.PointInfo.{PointInfo}
use Rattle.acsl_bind.specs.Notes.{Source}
use Rattle.acsl_bind.specs.Programs.{Text}

abbrev pub text : Source → List Annot → Text
text s annots = record { spots = s.spots; annots = annots; points = s.points }

-- what the numbers of points depend on
abbrev pub of_points : List Fun → List PointInfo → Program
of_points fns points = record { fns = fns; cells = []; points = points; sites = [] }
