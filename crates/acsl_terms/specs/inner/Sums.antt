-- What a chain of relations says, from one of its relations on: the code's side.
use Rattle.std.specs.Prelude.{List, Option, Some, None}
use Rattle.fc_base.specs.declared.syntax.NoteOp.TheVariants as O
use Rattle.c_ir.specs.declared.tree.Pred.{Pred}
use Rattle.c_ir.specs.declared.tree.Pred.TheVariants as P
use Rattle.acsl_terms.specs.Meaning.{conjunction, and_all}

-- what is said so far, and each of these
abbrev pub all_after : Option Pred → List Pred → Pred
all_after None ps = conjunction ps
all_after (Some so) ps = and_all so ps

-- what is said so far, and this
abbrev pub joined : Option Pred → Pred → Pred
joined None p = p
joined (Some so) p = P.Binary O.And so p
