use Rattle.acsl_notes.proofs.Steps.{memory_alone}
use Rattle.acsl_notes.proofs.note.add.Goals as goal

pub returns-in-Err : goal.returns-in-Err
returns-in-Err c = (c.in-Err.ensures.fault, λ b p. memory_alone b c.in-Err.fault (c.in-Err.ensures.only b p))
