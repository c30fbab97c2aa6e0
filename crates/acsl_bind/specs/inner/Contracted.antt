-- What the clauses of a contract leave, those at the entry apart from those at the exit.
use Rattle.std.specs.Prelude.{◌≡◌, List, Result, Ok, Err}
use Rattle.std.specs.declared.alloc.AllocError.{AllocError}
use Rattle.c_ir.specs.Bodies.{AtEntry, AtExit}
use Rattle.c_ir.specs.declared.tree.PointClause.{PointClause}
use Rattle.acsl_terms.specs.Breaches.{least}
use Rattle.acsl_bind.specs.Notes.{standing}
use Rattle.acsl_bind.specs.Placing.{Went, made_of}
use Rattle.acsl_bind.specs.declared.contracts.Contract.{Contract}
use Rattle.acsl_bind.specs.declared.walk.Walk.{Walk}

pub record Says (w : Went (List PointClause)) (c : Contract) (old new : Walk) : Type 0 where
  pub entry : c.entry ≡ standing AtEntry w.value
  pub exit : c.exit ≡ standing AtExit w.value
  pub made : w.made ≡ made_of new
  pub first : new.first ≡ least old.first w.breaches

abbrev pub Contracted : Went (List PointClause) → Result Contract AllocError → Walk → Walk → Type 0
Contracted w (Ok c) old new = Says w c old new
Contracted w (Err e) old new = Unit {0}
