-- A governed statement of its notes and its statement.
use Rattle.std.specs.Prelude.{List}
use Rattle.fc_base.specs.declared.syntax.Spot.{Spot}
use Rattle.c_ast.specs.declared.stmt.Stmt.{Stmt}
use Rattle.c_ast.specs.declared.stmt.Sub.{Sub, roll-Sub}

abbrev pub sub_of : List Spot → Stmt → Sub
sub_of notes stmt = roll-Sub (record { notes = notes; stmt = stmt })
