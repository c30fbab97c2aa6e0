-- What a function leaves that adds statements to those that were made.
use Rattle.std.specs.Prelude.{◌≡◌, List, Result, Ok, Err}
use Rattle.std.specs.declared.alloc.AllocError.{AllocError}
use Rattle.c_ir.specs.declared.tree.PointClause.{PointClause}
use Rattle.c_ir.specs.declared.tree.Stmt.{Stmt}
use Rattle.acsl_bind.specs.Placing.{Went, Notes, Is}
use Rattle.acsl_bind.specs.declared.walk.Walk.{Walk}

abbrev pub Nexts : Went Notes → Result (List PointClause) AllocError → List Stmt → Walk → Walk → Type 0
Nexts w (Ok clauses) done old new = Is w (clauses, done) old new
Nexts w (Err e) done old new = Unit {0}
