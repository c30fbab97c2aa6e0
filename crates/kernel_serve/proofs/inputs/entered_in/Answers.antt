use Rattle.std.proofs.Common.{Ok, Err}
use Rattle.kernel_serve.proofs.Whole.{file_of_all}
use Rattle.kernel_serve.proofs.inputs.entered_in.Goals as goal

pub returns-in-Ok-program_in-clause-told : goal.returns-in-Ok-program_in-clause-told
returns-in-Ok-program_in-clause-told g c =
    file_of_all _ _ _ (Ok c.in-Ok-program_in.entered) c.in-Ok.ensures.bytes
    (rw c.as_slice.ensures.value at c.in-Ok-program_in.ensures)

pub returns-clause-told : goal.returns-clause-told
returns-clause-told g c =
    file_of_all _ _ _ (Err c.in-Err.status) c.in-Ok.ensures.bytes
    (rw c.as_slice.ensures.value at c.in-Err.ensures)
